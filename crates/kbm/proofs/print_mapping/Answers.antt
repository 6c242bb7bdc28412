-- The mapping's file is at the front of the buffer, which holds it.
use Prim.Native.Nat.{ℕ}
use mathlib.Core.List.{List, []}
use mathlib.Core.Path.{subst}
use native.Mathlib.Omega.{arith}
use Rattle.text.proofs.Writing.{put_there}
use Rattle.kbm.proofs.Printing.{buffer_room}
use Rattle.layout.specs.Parts.{layout_in}
use Rattle.streams.specs.Streams.{Handed}
use Rattle.kbm.proofs.print_mapping.Goals as goal

pub put_file-bytes-requires : goal.put_file-bytes-requires
put_file-bytes-requires c = omega (arith, buffer_room (layout_in c.args.prepared) c.requires.few)

pub write_front-requires : goal.write_front-requires
write_front-requires c =
    omega (arith, (put_there (buffer_room (layout_in c.args.prepared) c.requires.few) c.put_file-bytes.ensures).0)

pub returns : goal.returns
returns c =
    subst (λ (text : List ℕ). Handed text c.write_front.result)
    (put_there (buffer_room (layout_in c.args.prepared) c.requires.few) c.put_file-bytes.ensures).1
    (c.write_front.ensures.next [] c.begin.ensures.none)
