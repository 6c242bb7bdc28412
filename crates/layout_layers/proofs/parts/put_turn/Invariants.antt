-- After c turns the first c keys of the scale degree have their entries.
use Prim.Native.Nat.{◌+◌, ◌*◌, ◌%◌}
use mathlib.Core.Path.{◌≡◌}
use Rattle.layout_layers.specs.Parts.{Spread, shown_as}
use Rattle.layout_layers.proofs.SpreadLaws.{InBlock}
use Rattle.layout_layers.proofs.parts.put_turn.Given as goal

abbrev pub invariant-loop-c : goal.invariant-loop-c
invariant-loop-c l =
    Spread (InBlock l.cycles l.turn l.c) (λ i. shown_as l.total (l.layer * l.cycles + i % l.cycles)) l.initial.out l.out × (l.number ≡ l.layer * l.cycles + l.c)
