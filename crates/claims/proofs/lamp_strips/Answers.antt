use Rattle.layout_lamps.proofs.Theorems.{strips_are_whole, no_code_is_shared}
use Rattle.claims.proofs.lamp_strips.Goals as goal

pub returns : goal.returns
returns c = (strips_are_whole, no_code_is_shared)
