-- With the row's number of letters.
use mathlib.Core.Path.{ap}
use Rattle.genchain.specs.Chains.{row_of}
use Rattle.genchain.specs.declared.rows.ChainRow.{ChainRow}
use Rattle.layout.proofs.questions.ask_with_row.Goals as goal

pub ask_with_letters-requires : goal.ask_with_letters-requires
unfolding row_of
ask_with_letters-requires c = ap (λ (w : ChainRow). w.num_letters) c.requires
