-- Question 1, then the text at the name's place.
use mathlib.Core.Path.{sym}
use Rattle.answer.proofs.Lent.{filled_refused}
use Rattle.answer.proofs.Passing.{refusal_asked}
use Rattle.genchain.proofs.Calls.{name_no_chain, name_by_chain}
use Rattle.genchain.proofs.TextTable.{texts_at}
use Rattle.genchain.proofs.name.Goals as goal

pub returns-in_err-asked : goal.returns-in_err-asked
returns-in_err-asked c =
    filled_refused 1 _ (name_no_chain _ c.in_err-asked.ensures.1 _)
    (refusal_asked _ _ _ c.from_residual.ensures c.in_err-asked.ensures.0)

pub returns : goal.returns
returns c =
    let h = c.in_ok-asked.ensures in
    rw (name_by_chain _ h _, sym (texts_at _ h).name) c.fill.ensures
