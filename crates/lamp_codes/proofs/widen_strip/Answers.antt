use Rattle.lamp_codes.specs.Answers.{get_widened}
use Rattle.lamp_codes.proofs.widen_strip.Goals as goal

pub returns : goal.returns
unfolding get_widened
returns c = c.convert.ensures
