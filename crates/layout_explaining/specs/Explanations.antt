-- Two spellings in a layout: where each stands on the chain, which key it sounds, how far apart they are, and whether they are one key.
use Rattle.std.specs.Prelude.{ℕ, ◌%◌, eqb, nat_abs, ◌-ℤ◌}
use Rattle.answer.specs.Choice.{pick}
use Rattle.pergen.specs.Pergen.{reduced}
use Rattle.pergen.specs.declared.Spelling.{Spelling}
use Rattle.layout.specs.Layouts.{Layout, reduced_in}
use Rattle.layout.specs.Names.{place_in, key_of}
use Rattle.layout_explaining.specs.declared.Standing.{Standing}
use Rattle.layout_explaining.specs.declared.Verdict.{Verdict}
use Rattle.layout_explaining.specs.declared.Verdict.TheVariants.{OneKey, OneChain, TwoChains}
use Rattle.layout_explaining.specs.declared.Explanation.{Explanation}

-- A spelling's place on the chain, counted from key 0's letter, its stars, and the key of the octave that it sounds.
unfoldable pub standing_of : Layout → Spelling → Standing
unfolding place_in key_of
standing_of l x = record { place = place_in l x; stars = x.stars; key = key_of l x }

-- How many places lie between two spellings, whichever comes first.
unfoldable pub apart_in : Layout → Spelling → Spelling → ℕ
unfolding place_in
apart_in l x y = nat_abs (place_in l x -ℤ place_in l y)

-- Stars that differ: two chains. Else the chain comes round after the reduced period, and places that are a multiple of it apart are one
-- key, all others two.
unfoldable pub verdict_by : (stars others apart reduced : ℕ) → Verdict
verdict_by stars others apart reduced = pick (eqb stars others) (pick (eqb (apart % reduced) 0) OneKey OneChain) TwoChains

unfoldable pub verdict_of : Layout → Spelling → Spelling → Verdict
unfolding verdict_by apart_in reduced
verdict_of l x y = verdict_by x.stars y.stars (apart_in l x y) (reduced_in l)

unfoldable pub explanation_of : Layout → Spelling → Spelling → Explanation
unfolding standing_of apart_in verdict_of reduced
explanation_of l x y =
    record {
      first = standing_of l x;
      second = standing_of l y;
      apart = apart_in l x y;
      reduced_period = reduced_in l;
      verdict = verdict_of l x y;
    }
