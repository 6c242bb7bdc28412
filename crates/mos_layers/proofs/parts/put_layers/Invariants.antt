-- After so many turns, so many layers are written from the cursor on; a layer's number is at most its place, so it fits.
use lib.ListN.{replicate}
use Rattle.mos_layers.specs.Parts.{Laid}
use Rattle.mos_layers.proofs.parts.put_layers.Given as goal

abbrev pub invariant-loop : goal.invariant-loop
invariant-loop l = Laid (replicate l.counter l.size) l.initial.next l.next l.initial.out l.out
