-- The keys of the lines before `at` are written, and those from `at` on are to come (`Listing`).
use Prim.Native.Nat.{◌-◌}
use lib.ListN.{length}
use Rattle.kbm_text.proofs.Listing.{Listing}
use Rattle.kbm_text.proofs.scan.put_keys.Given as goal

abbrev pub invariant-loop-at : goal.invariant-loop-at
invariant-loop-at l = Listing l.text l.initial.out l.at l.spot l.out

abbrev pub decreases-loop-at : goal.decreases-loop-at
decreases-loop-at l = length l.text - l.at
