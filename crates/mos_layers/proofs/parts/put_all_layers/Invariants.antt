-- After i turns the layers of the first i runs are written from the start on.
use Rattle.text.specs.Writing.{joined}
use Rattle.mos_layers.specs.Parts.{run_at, Laid}
use Rattle.mos_layers.proofs.parts.put_all_layers.Given as goal

abbrev pub invariant-loop-i : goal.invariant-loop-i
invariant-loop-i l = Laid (joined (run_at l.sizes l.times) l.i) l.initial.c l.c l.initial.out l.out
