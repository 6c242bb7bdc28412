-- Key 0 of what was made ready.
use Rattle.layout.proofs.Kept.{made_ready}
use Rattle.layout.proofs.Readiness.{ready_walkable}
use Rattle.layout_sheet.proofs.parts.first_key.Goals as goal

pub first-requires : goal.first-requires
first-requires c = ready_walkable _ (made_ready c.args.source.prepared)
