-- The head and the entries.
use native.Mathlib.Omega.{arith}
use Rattle.layout_kbm.proofs.Calls.{file_length}
use Rattle.layout.specs.Parts.{layout_in}
use Rattle.layout_kbm.proofs.parts.file_len.Goals as goal

pub returns : goal.returns
returns c = omega (arith, file_length (layout_in c.args.prepared), c.head_len.ensures.is, c.entries_len.ensures.is)
