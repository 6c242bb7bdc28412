use mathlib.Core.Path.{refl}
use lib.ListN.{length-set}
use native.Mathlib.Omega.{arith}
use Rattle.layout_retuning.proofs.Tables.{table_start, table_step}
use Rattle.layout_retuning.proofs.Strides.{table_keys_below, entry_is}
use Rattle.layout_retuning.proofs.parts.put_moves.Goals as goal

pub loop-entry-init : goal.loop-entry-init
loop-entry-init c = (table_start _ _, refl, c.first_keys-keys.ensures)

pub distance-requires : goal.distance-requires
distance-requires c = table_keys_below _ c.args.tunings.positive _ _ c.loop-entry.invariant.2

pub loop-entry-preserved : goal.loop-entry-preserved
loop-entry-preserved c = (
  table_step _ _ _ (entry_is _ _ _ _ c.loop-entry.invariant.2 c.distance.ensures) c.loop-entry.invariant.0,
  simp length-set (omega arith),
  c.next_keys-keys.ensures,
)
