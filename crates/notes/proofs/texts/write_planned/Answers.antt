-- Question 10, then the planned text at the front.
use lib.ListN.{length}
use mathlib.Core.Path.{ap}
use native.Mathlib.Omega.{arith}
use Rattle.answer.specs.Outcome.{given}
use Rattle.text.proofs.Writing.{filled_given}
use Rattle.answer.proofs.Passing.{refusal_asked}
use Rattle.answer.proofs.Lent.{held, not_held, filled_refused}
use Rattle.notes.specs.Parts.{plan_text}
use Rattle.notes.proofs.texts.write_planned.Goals as goal

pub returns-in_err-asked_room : goal.returns-in_err-asked_room
returns-in_err-asked_room c =
    let args = c.args in
    let bytes = c.plan_length-bytes.ensures.length_is in
    filled_refused 10 _ (not_held (length args.out.now) (plan_text args.plan) (omega (arith, bytes, c.in_err-asked_room.ensures.1)))
    (refusal_asked _ _ _ c.from_residual.ensures c.in_err-asked_room.ensures.0)

pub returns : goal.returns
returns c =
    let args = c.args in
    let bytes = c.plan_length-bytes.ensures.length_is in
    let room = c.in_ok-asked_room.ensures in
    filled_given (held (length args.out.now) (plan_text args.plan) (omega (arith, bytes, room))) (ap given bytes)
    (omega (arith, bytes, room))
    c.put_name.ensures
