-- Place by place: what was walked has the entry, and the spot is where the walk stands.
use Rattle.layout_layers.specs.Parts.{Walk}
use Rattle.layout_layers.proofs.parts.put_single.Given as goal

abbrev pub invariant-loop : goal.invariant-loop
invariant-loop l = Walk l.chain l.initial.spot l.spot l.counter (λ i. l.entry) l.initial.out l.out
