-- Question 10, then the text of the row at the front.
use mathlib.Core.Path.{sym, ap}
use native.Mathlib.Omega.{arith}
use lib.ListN.{length}
use lib.Seq.{length-take-le}
use Rattle.answer.specs.Outcome.{given}
use Rattle.answer.proofs.Passing.{refusal_asked}
use Rattle.answer.proofs.Lent.{held, not_held, filled_refused}
use Rattle.text.proofs.Writing.{wrote_as, filled_given}
use Rattle.genchain.specs.Texts.{text_at}
use Rattle.genchain.proofs.TextTable.{row_count, row_small, row_size, row_text}
use Rattle.genchain.proofs.names.fill.Goals as goal

pub returns-in_err-asked_room : goal.returns-in_err-asked_room
returns-in_err-asked_room c =
    let n = row_count _ c.requires _ c.row-found.ensures in
    filled_refused 10 _ (not_held _ (text_at c.args.place) (omega (arith, n, c.in_err-asked_room.ensures.1)))
    (refusal_asked _ _ _ c.from_residual.ensures c.in_err-asked_room.ensures.0)

pub slice_bounds-text-end : goal.slice_bounds-text-end
slice_bounds-text-end c =
    let r = c.row-found.ensures in
    let h = c.requires in
    omega (arith, row_size _ h _ r, row_small _ h _ r)

pub slice_bounds-put_text-end : goal.slice_bounds-put_text-end
slice_bounds-put_text-end c =
    let r = c.row-found.ensures in
    let h = c.requires in
    sym (length-take-le _ c.row-found.result.text (omega (arith, row_size _ h _ r, row_small _ h _ r)))

pub put_text-requires : goal.put_text-requires
put_text-requires c =
    let r = c.row-found.ensures in
    let h = c.requires in
    omega (arith, c.in_ok-asked_room.ensures, row_count _ h _ r, ap length (row_text _ h _ r))

pub returns : goal.returns
returns c =
    let t = text_at c.args.place in
    let n = row_count _ c.requires _ c.row-found.ensures in
    let room = c.in_ok-asked_room.ensures in
    filled_given (held _ t (omega (arith, n, room))) (ap given n) (omega (arith, n, room)) (wrote_as (row_text _ c.requires _ c.row-found.ensures) c.put_text.ensures)
