-- Question 10, then the file.
use mathlib.Core.Path.{sym, ap, ◌∙◌}
use native.Mathlib.Nat.{zero-add}
use lib.ListN.{length}
use borrow.Author.Tests.{leb-true}
use Rattle.answer.specs.Outcome.{given}
use Rattle.answer.proofs.Lent.{held}
use Rattle.text.proofs.Writing.{filled_given}
use Rattle.layout_kbm.specs.Mappings.{mapping_in}
use Rattle.layout.specs.Parts.{layout_in}
use Rattle.layout_kbm.proofs.parts.write_file.Goals as goal

pub returns : goal.returns
returns c =
    let m = c.args.prepared in
    let room = leb-true _ _ (sym c.has_room.ensures ∙ c.if-not-has_room.false) in
    let w = c.put_file.ensures in
    filled_given (held _ (mapping_in (layout_in m)) room) (ap given (w.end ∙ zero-add (length (mapping_in (layout_in m))))) room w
