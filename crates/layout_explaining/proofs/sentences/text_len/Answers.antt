-- What stands behind each name is as long as the place after it says.
use mathlib.Core.Path.{◌∙◌}
use native.Mathlib.Nat.{zero-add}
use native.Mathlib.Omega.{arith}
use Rattle.notes.specs.Names.{letter_text}
use Rattle.layout_explaining.proofs.Wording.{length_in_parts}
use Rattle.layout_explaining.proofs.sentences.text_len.Goals as goal

pub returns : goal.returns
returns c = (
  length_in_parts (letter_text c.args.counting.letter) c.args.counting.generator c.args.counting.octave c.args.first.now c.args.second.now c.args.explanation _ _
      (c.put_standing-one_end.ensures.0.end ∙ zero-add _) (c.put_rest-other_end.ensures.0.end ∙ zero-add _),
  record {
    beside = omega (arith, c.put_standing-one_end.ensures.1, c.put_rest-other_end.ensures.1);
    held = omega (arith, c.put_standing-one_end.ensures.1, c.put_rest-other_end.ensures.1, c.requires.first_short, c.requires.second_short);
  },
)
