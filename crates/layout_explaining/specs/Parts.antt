-- What the parts behind the calls promise: the numbers of an explanation, by what the code carries, and what the sentences ask.
use Rattle.std.specs.Prelude.{ℕ, ◌≤◌, ◌<◌, List, ◌++◌, ◌≡◌, pos, nat_abs, ◌-ℤ◌, length}
use Rattle.pergen.specs.declared.sounding.Sides.{Sides}
use Rattle.notes.specs.Names.{letter_text}
use Rattle.layout.specs.Layouts.{Layout}
use Rattle.layout_explaining.specs.Sentences.{start_text, placed_text, verdict_text}
use Rattle.layout_explaining.specs.declared.Explanation.{Explanation}
use Rattle.layout_explaining.specs.declared.measures.Counting.{Counting}

-- How far apart two places are that came as differences.
unfoldable pub between_sides : Sides → Sides → ℕ
between_sides s t = nat_abs ((pos s.above -ℤ pos s.below) -ℤ (pos t.above -ℤ pos t.below))

-- What the sentences count by in a layout.
pub record CountingOf (l : Layout) (c : Counting) : Type 0 where
  pub letter_is : letter_text c.letter ≡ start_text l
  pub generator_is : c.generator ≡ l.generator
  pub octave_is : c.octave ≡ l.octave

-- What the sentences ask: names that are short beside 64 bits, and a chain that comes round.
pub record Telling (first second : List ℕ) (e : Explanation) : Type 0 where
  pub first_short : length first ≤ 4295032832
  pub second_short : length second ≤ 4295032832
  pub round : 0 < e.reduced_period

-- What stands behind the second name.
abbrev pub rest_text : (letter : List ℕ) (generator octave : ℕ) → Explanation → List ℕ
rest_text letter generator octave e =
    placed_text letter generator octave e.second.place e.second.stars e.second.key
    ++ verdict_text e.verdict e.apart e.reduced_period
