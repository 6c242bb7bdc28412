use native.Mathlib.Omega.{arith}
use Rattle.layout.specs.Parts.{layout_in}
use Rattle.layout.proofs.Kept.{made_ready}
use Rattle.layout.proofs.Readiness.{ready_walkable}
use Rattle.layout_kbm.specs.Parts.{entry_in}
use Rattle.layout_kbm.proofs.Calls.{entry_is, measured_none, measured_more}
use Rattle.layout_kbm.proofs.parts.entries_len.Goals as goal

pub first-key-requires : goal.first-key-requires
first-key-requires c = ready_walkable _ (made_ready c.args.prepared)

pub loop-number-init : goal.loop-number-init
loop-number-init c = (c.first-key.ensures.0, c.first-key.ensures.1, measured_none (entry_in (layout_in c.args.prepared)))

pub is_natural-mapped-requires : goal.is_natural-mapped-requires
is_natural-mapped-requires c =
    (c.loop-number.invariant.0, omega (arith, c.loop-number.invariant.1, c.loop-number-test.true))

pub overflow_add-total : goal.overflow_add-total
overflow_add-total c =
    omega (arith, c.loop-number.invariant.2.few, c.loop-number-test.true, c.entry_len-total.ensures.few)

pub next-key-requires : goal.next-key-requires
next-key-requires c =
    (ready_walkable _ (made_ready c.args.prepared), c.loop-number.invariant.0, omega (arith, c.loop-number.invariant.1, c.loop-number-test.true))

pub loop-number-preserved : goal.loop-number-preserved
loop-number-preserved c =
    let lay = layout_in c.args.prepared in
    let w = c.loop-number.invariant in
    let on = c.next-key.ensures in
    let mapped = rw w.1 at c.is_natural-mapped.ensures in (
      on.0,
      omega (arith, on.1, w.1),
      measured_more (entry_in lay) _ _ _ w.2 (entry_is lay _ _ mapped) c.entry_len-total.ensures,
    )
