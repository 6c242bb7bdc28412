-- Question 10, then the line at the front.
use mathlib.Core.Path.{refl, ap}
use native.Mathlib.Omega.{arith}
use lib.ListN.{length}
use Rattle.answer.specs.Outcome.{given}
use Rattle.answer.proofs.Lent.{held, not_held, filled_refused}
use Rattle.text.proofs.Writing.{filled_given}
use Rattle.line.specs.Refusals.{refusal_line}
use Rattle.line.proofs.RefusalLines.{length_refusal}
use Rattle.line.proofs.refusals.write_refusal.Goals as goal

pub returns-then-out-bytes : goal.returns-then-out-bytes
returns-then-out-bytes c =
    let e = length_refusal c.args.number in
    filled_refused 10 _ (not_held (length c.args.out.now) (refusal_line c.args.number) (omega (arith, e, c.number_len-bytes.ensures.is_length))) refl

pub put_refusal-requires : goal.put_refusal-requires
put_refusal-requires c = omega (arith, length_refusal c.args.number, c.number_len-bytes.ensures.is_length)

pub returns : goal.returns
returns c =
    let e = length_refusal c.args.number in
    filled_given (held (length c.args.out.now) (refusal_line c.args.number) (omega (arith, e, c.number_len-bytes.ensures.is_length)))
    (ap given (omega (arith, e, c.number_len-bytes.ensures.is_length))) (omega (arith, e, c.number_len-bytes.ensures.is_length)) c.put_refusal.ensures
