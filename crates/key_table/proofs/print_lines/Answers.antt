-- The lines are what was put at the front of the buffer.
use mathlib.Core.List.{List}
use mathlib.Core.Path.{sym, subst}
use Prim.Native.Nat.{ℕ, ◌≤◌}
use native.Mathlib.Omega.{arith}
use lib.ListN.{length}
use lib.Seq.{length-take-le}
use Rattle.text.specs.Writing.{joined}
use Rattle.layout.specs.declared.prepared.Prepared.{Prepared}
use Rattle.layout.specs.Parts.{layout_in}
use Rattle.layout_table.specs.Parts.{line_from}
use Rattle.text.proofs.Writing.{put_there}
use Rattle.streams.specs.Streams.{Written}
use Rattle.key_table.specs.Printing.{Lines}
use Rattle.key_table.proofs.Printing.{part_room}
use Rattle.key_table.proofs.print_lines.Goals as goal

room : (p : Prepared) (from count : ℕ) (out : List ℕ) → Lines p from count → 65536 ≤ length out → length (joined (line_from (layout_in p) from) count) ≤ length out
room p from count out l long = omega (arith, part_room p from count l)

pub put_lines-bytes-requires : goal.put_lines-bytes-requires
put_lines-bytes-requires c =
    let l = c.requires.0 in
    (l.inside, omega (arith, part_room c.args.prepared c.args.from c.args.count l, c.requires.1))

pub slice_bounds-write-end : goal.slice_bounds-write-end
slice_bounds-write-end c =
    (put_there (room c.args.prepared _ _ c.args.out.now c.requires.0 c.requires.1) c.put_lines-bytes.ensures).0

pub slice_bounds-write-end-2 : goal.slice_bounds-write-end-2
slice_bounds-write-end-2 c =
    sym (length-take-le _ _ (put_there (room c.args.prepared _ _ c.args.out.now c.requires.0 c.requires.1) c.put_lines-bytes.ensures).0)

pub returns : goal.returns
returns c =
    subst (λ (text : List ℕ). Written c.args.past text c.write.result)
    (put_there (room c.args.prepared _ _ c.args.out.now c.requires.0 c.requires.1) c.put_lines-bytes.ensures).1
    c.write.ensures
