-- After i runs the places of their layers are walked, and `first` is the next layer's number.
use mathlib.Core.Path.{◌≡◌}
use lib.ListN.{length}
use Rattle.text.specs.Writing.{joined}
use Rattle.mos_layers.specs.Layers.{drop_empty}
use Rattle.mos_layers.specs.Theorems.{sum}
use Rattle.mos_layers.specs.Parts.{run_at}
use Rattle.layout_layers.specs.Parts.{Walk, listed_number, shown_as}
use Rattle.layout_layers.proofs.parts.put_chain.Given as goal

abbrev pub invariant-loop-i : goal.invariant-loop-i
invariant-loop-i l =
    Walk l.chain l.initial.spot l.spot (sum (joined (run_at l.sizes l.times) l.i)) (λ j. shown_as l.total (listed_number (record { sizes = l.sizes; times = l.times }) l.chain j)) l.initial.out l.out × (l.first ≡ length (drop_empty (joined (run_at l.sizes l.times) l.i)))
