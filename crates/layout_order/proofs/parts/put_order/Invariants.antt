-- The entries of the keys before the one at hand are placed.
use Rattle.layout_order.proofs.Carrying.{Carrying}
use Rattle.layout_order.proofs.parts.put_order.Given as goal

abbrev pub invariant-loop : goal.invariant-loop
invariant-loop l = Carrying l.order l.prepared l.entries l.initial.out l.out l.key l.counter
