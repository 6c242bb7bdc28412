-- The plan by the letters of the row, which are the chain's.
use Rattle.layout.proofs.Kept.{made_ready}
use Rattle.layout_book.proofs.LettersRead.{ready_row, row_planned}
use Rattle.layout_book.proofs.naming.Naming.plan.Goals as goal

pub plan_name-requires : goal.plan_name-requires
plan_name-requires c = ready_row _ (made_ready c.args.self.prepared) _ c.args.self.own_row

pub returns : goal.returns
returns c = row_planned _ (made_ready c.args.self.prepared) _ c.args.self.own_row c.plan_name.ensures
