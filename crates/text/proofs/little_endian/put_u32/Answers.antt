-- The kit's four bytes are those of `le32`.
use mathlib.Core.Path.{◌∙◌, ap}
use native.Mathlib.Omega.{arith}
use lib.ListN.{length}
use Rattle.text.proofs.Writing.{wrote_as}
use Rattle.text.proofs.FourBytes.{four_bytes}
use Rattle.text.proofs.little_endian.put_u32.Goals as goal

pub put_text-requires : goal.put_text-requires
put_text-requires c = omega (arith, ap length (c.to_le_bytes.ensures ∙ four_bytes _))

pub returns : goal.returns
returns c = wrote_as (c.to_le_bytes.ensures ∙ four_bytes _) c.put_text.ensures
