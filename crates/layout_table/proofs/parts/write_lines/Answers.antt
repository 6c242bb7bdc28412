-- Question 10, then all lines.
use Prim.Native.Nat.{◌≤◌}
use mathlib.Core.Path.{refl, sym, ap, ◌∙◌}
use native.Mathlib.Nat.{zero-add}
use native.Mathlib.Omega.{arith}
use lib.ListN.{length}
use borrow.Author.Tests.{leb-true, leb-false}
use Rattle.answer.specs.Outcome.{given}
use Rattle.answer.proofs.Lent.{held, not_held, filled_refused}
use Rattle.text.proofs.Writing.{filled_given, wrote_as}
use Rattle.layout.specs.Parts.{layout_in}
use Rattle.layout_table.specs.Tables.{table_in}
use Rattle.layout_table.proofs.Calls.{whole_table}
use Rattle.layout_table.proofs.parts.write_lines.Goals as goal

pub returns-then-not-has_room : goal.returns-then-not-has_room
returns-then-not-has_room c =
    let l = layout_in c.args.prepared in
    filled_refused 10 _ (not_held _ (table_in l) (leb-false _ _ (sym c.has_room.ensures ∙ c.if-not-has_room.true))) refl

pub put_lines-requires : goal.put_lines-requires
put_lines-requires c =
    let l = layout_in c.args.prepared in
    let room : length (table_in l) ≤ length c.args.out.now = leb-true _ _ (sym c.has_room.ensures ∙ c.if-not-has_room.false) in
    (omega arith, omega (arith, ap length (whole_table l), room))

pub returns : goal.returns
returns c =
    let l = layout_in c.args.prepared in
    let room = leb-true _ _ (sym c.has_room.ensures ∙ c.if-not-has_room.false) in
    let w = wrote_as (whole_table l) c.put_lines.ensures in
    filled_given (held _ (table_in l) room) (ap given (w.end ∙ zero-add (length (table_in l)))) room w
