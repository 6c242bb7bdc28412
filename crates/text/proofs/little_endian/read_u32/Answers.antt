use mathlib.Core.Path.{◌∙◌}
use Rattle.text.proofs.FourBytes.{value_is}
use Rattle.text.proofs.little_endian.read_u32.Goals as goal

pub returns : goal.returns
returns c = c.from_le_bytes.ensures ∙ value_is _ _
