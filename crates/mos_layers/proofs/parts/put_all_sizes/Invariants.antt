-- After i turns the sizes of the first i runs stand at the front, empty ones dropped run by run.
-- the sizes of run i that are written
use Prim.Native.Nat.{ℕ}
use mathlib.Core.List.{List}
use Rattle.text.specs.Writing.{Wrote, joined}
use Rattle.mos_layers.specs.Layers.{drop_empty}
use Rattle.mos_layers.specs.Parts.{run_at}
use Rattle.mos_layers.proofs.parts.put_all_sizes.Given as goal

abbrev pub written : List ℕ → List ℕ → ℕ → List ℕ
written sizes times i = drop_empty (run_at sizes times i)

abbrev pub invariant-loop-i : goal.invariant-loop-i
invariant-loop-i l = Wrote l.initial.out 0 (joined (written l.sizes l.times) l.i) l.out l.at
