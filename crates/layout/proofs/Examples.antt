-- By computing both sides.
use Prim.Native.Nat.{◌<◌}
use mathlib.Core.Path.{refl}
use native.Mathlib.Omega.{arith}
use Rattle.pergen.specs.Pergen.{cycles}
use Rattle.layout.specs.Layouts.{layout_outcome}
use Rattle.layout.specs.Names.{place_in, printed_in}
use Rattle.layout.specs.Answers.{get_mos, get_scale_name, get_note_name, get_sounded_key}
use Rattle.layout.specs.Examples.{ExamplesHold}

pub examples_hold : ExamplesHold
unfolding get_mos get_scale_name get_note_name get_sounded_key place_in printed_in cycles layout_outcome
examples_hold =
    record {
      patterns = refl;
      scales = refl;
      names = refl;
      places = refl;
      keys = refl;
      printings = refl;
      refusals = refl;
      two_cycles_lem = refl;
      b_sharps_star = record { letter = omega arith; stars = omega arith };
      eighth_letter = λ x. let h : 7 < 7 = x.letter in omega arith;
      second_star = λ x. let h : 2 < 2 = x.stars in omega arith;
    }
