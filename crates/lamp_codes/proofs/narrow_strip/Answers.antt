use Rattle.lamp_codes.specs.Answers.{get_narrowed}
use Rattle.lamp_codes.proofs.narrow_strip.Goals as goal

pub returns : goal.returns
unfolding get_narrowed
returns c = c.convert.ensures
