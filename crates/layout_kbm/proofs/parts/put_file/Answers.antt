-- The head, then the entries.
use native.Mathlib.Omega.{arith}
use mathlib.Core.Path.{sym}
use Rattle.text.proofs.Writing.{then, wrote_as, wrote_length}
use Rattle.layout_kbm.proofs.Calls.{file_parts, file_length}
use Rattle.layout.specs.Parts.{layout_in}
use Rattle.layout_kbm.proofs.parts.put_file.Goals as goal

pub put_head-head-requires : goal.put_head-head-requires
put_head-head-requires c = omega (arith, file_length (layout_in c.args.prepared), c.requires)

pub put_entries-requires : goal.put_entries-requires
put_entries-requires c =
    omega (arith, file_length (layout_in c.args.prepared), c.requires, c.put_head-head.ensures.end, wrote_length c.put_head-head.ensures)

pub returns : goal.returns
returns c =
    wrote_as (sym (file_parts _)) (then c.put_head-head.ensures c.put_entries.ensures)
