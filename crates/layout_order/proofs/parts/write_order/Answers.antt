-- Question 10 of either list, then the entries.
use Rattle.layout.proofs.Kept.{made_ready}
use Rattle.layout_order.proofs.Ordering.{order_refused, order_asks, order_given}
use Rattle.layout_order.proofs.parts.write_order.Goals as goal

pub returns-then-not-both_hold : goal.returns-then-not-both_hold
returns-then-not-both_hold c =
    let args = c.args in
    order_refused _ (made_ready args.prepared) args.order args.entries.now args.out.now c.both_hold.ensures
    c.if-not-both_hold.true

pub put_order-requires : goal.put_order-requires
put_order-requires c =
    let args = c.args in
    order_asks _ (made_ready args.prepared) args.order args.entries.now args.out.now c.both_hold.ensures
    c.if-not-both_hold.false

pub returns : goal.returns
returns c =
    let args = c.args in
    order_given _ (made_ready args.prepared) args.order args.entries.now args.out.now c.both_hold.ensures
    c.if-not-both_hold.false c.put_order.ensures
