-- What is left of the walk from the pattern at hand is what is left of it from the genesis; one pattern less is left with each turn.
use Prim.Native.Nat.{◌-◌}
use Rattle.mos_moves.proofs.Answering.{Descending}
use Rattle.mos_moves.proofs.nth_moves.Given as goal

abbrev pub invariant-loop : goal.invariant-loop
invariant-loop l = Descending l.period l.generator l.k l.pattern l.table (l.k - l.counter)
