-- The cycle that key 0 shows.
use Rattle.layout.proofs.Kept.{made_ready}
use Rattle.layout.proofs.Readiness.{ready_walkable}
use Rattle.layout_book.proofs.BareNames.{first_shown}
use Rattle.layout_book.proofs.naming.Naming.first_cycle.Goals as goal

pub first-requires : goal.first-requires
first-requires c = ready_walkable _ (made_ready c.args.self.prepared)

pub returns : goal.returns
returns c = first_shown _ _ c.first.ensures.1 _ c.generation-generation.ensures
