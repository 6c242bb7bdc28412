-- Question 1, then the length of the text at the name's place.
use mathlib.Core.Path.{ap, ◌∙◌}
use lib.ListN.{length}
use Rattle.answer.proofs.Passing.{refusal_asked}
use Rattle.genchain.proofs.Calls.{name_length_no_chain, name_length_given}
use Rattle.genchain.proofs.TextTable.{texts_at}
use Rattle.genchain.proofs.name_len.Goals as goal

pub returns-in_err-asked : goal.returns-in_err-asked
returns-in_err-asked c =
    refusal_asked _ _ _ c.from_residual.ensures c.in_err-asked.ensures.0 ∙ name_length_no_chain _ c.in_err-asked.ensures.1

pub returns : goal.returns
returns c =
    let h = c.in_ok-asked.ensures in
    name_length_given _ h _ (c.text_len.ensures ∙ ap length (texts_at _ h).name)
