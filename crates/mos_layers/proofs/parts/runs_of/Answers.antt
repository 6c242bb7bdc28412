-- The numbers of the eight runs, each from its own call.
use Rattle.mos_layers.proofs.Plans.{planned, full_room, odd_room}
use Rattle.mos_layers.proofs.parts.runs_of.Goals as goal

pub held-enharmonic-requires : goal.held-enharmonic-requires
held-enharmonic-requires c = odd_room c.args.a c.args.b c.args.x c.args.y c.saturating_sub-e.ensures c.saturating_sub-f.ensures c.requires

pub held-full-requires : goal.held-full-requires
held-full-requires c = full_room c.args.a c.args.b c.args.x c.args.y c.saturating_sub-e.result c.saturating_sub-f.result c.saturating_sub-e.ensures c.saturating_sub-f.ensures c.min-times.ensures c.requires

pub returns : goal.returns
returns c = planned c.args.a c.args.b c.args.x c.args.y c.saturating_sub-e.result c.saturating_sub-f.result c.saturating_sub-e.ensures c.saturating_sub-f.ensures c.held-natural.ensures c.held-enharmonic.ensures c.min-times.ensures c.held-full.ensures c.saturating_sub-first.ensures c.saturating_sub-second.ensures
