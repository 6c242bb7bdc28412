-- The digits from `next` on say the rest of the number; a turn reads one, and the loop ends at 5 digits at the latest.
use Prim.Native.Nat.{◌+◌, ◌-◌, ◌≤◌}
use Rattle.text.proofs.Numbers.{Read}
use Rattle.text.proofs.decimal.read_number.Given as goal

abbrev pub invariant-loop-digit : goal.invariant-loop-digit
invariant-loop-digit l = Read l.text l.at l.value l.next × (l.value ≤ 65535) × (l.next ≤ l.at + 5)

abbrev pub decreases-loop-digit : goal.decreases-loop-digit
decreases-loop-digit l = l.at + 6 - l.next
