-- One entry where there is one cycle; else place by place: what was walked has the layer's entries, and the spot is where the walk stands.
use Prim.Native.Nat.{◌+◌, ◌*◌, ◌%◌}
use Rattle.layout_layers.specs.Parts.{Walk, shown_as}
use Rattle.layout_layers.proofs.parts.put_layer.Given as goal

abbrev pub invariant-loop : goal.invariant-loop
invariant-loop l =
    Walk l.chain l.initial.spot l.spot l.counter (λ i. shown_as l.total (l.layer * l.chain.num_cycles + i % l.chain.num_cycles)) l.initial.out l.out
