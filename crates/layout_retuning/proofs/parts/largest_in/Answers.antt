use Rattle.layout_retuning.proofs.Largest.{largest_start, largest_step}
use Rattle.layout_retuning.proofs.Strides.{table_keys_below, entry_is}
use Rattle.layout_retuning.proofs.parts.largest_in.Goals as goal

pub loop-entry-init : goal.loop-entry-init
loop-entry-init c = (largest_start _, c.first_keys-keys.ensures)

pub distance-requires : goal.distance-requires
distance-requires c = table_keys_below _ c.args.tunings.positive _ _ c.loop-entry.invariant.1

pub loop-entry-preserved : goal.loop-entry-preserved
loop-entry-preserved c = (
  largest_step _ _ _ _ _ (entry_is _ _ _ _ c.loop-entry.invariant.1 c.distance.ensures) c.loop-entry.invariant.0 c.max-most.ensures,
  c.next_keys-keys.ensures,
)
