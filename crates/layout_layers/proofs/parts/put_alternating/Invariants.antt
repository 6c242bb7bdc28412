-- After some turns the entries of so many scale degrees are written.
use Rattle.layout_layers.specs.Parts.{Spread, InTurns, plan_number, shown_as}
use Rattle.layout_layers.proofs.parts.put_alternating.Given as goal

abbrev pub invariant-loop-turn : goal.invariant-loop-turn
invariant-loop-turn l =
    Spread (InTurns l.plan.chain.num_cycles l.turn) (λ i. shown_as l.total (plan_number l.plan i)) l.initial.out l.out
