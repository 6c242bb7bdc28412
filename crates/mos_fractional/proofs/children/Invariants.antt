-- After i turns the slice has the first i patterns stored at its front, and the turn at hand is the i-th. There are no more turns than
-- patterns of the listing.
use Prim.Native.Nat.{◌-◌, ◌≤◌}
use mathlib.Core.Path.{◌≡◌}
use lib.ListN.{length}
use Rattle.mos_fractional.proofs.Storing.{nth_turn, stored, listed}
use Rattle.mos_fractional.proofs.children.Given as goal

abbrev pub invariant-loop-turn : goal.invariant-loop-turn
invariant-loop-turn l =
    record {
      within : l.i ≤ length (listed l.generator (length l.initial.out));
      turns : l.turn ≡ nth_turn l.i l.initial.turn;
      stores : l.out ≡ stored l.i l.initial.turn l.initial.out;
    }

abbrev pub decreases-loop-turn : goal.decreases-loop-turn
decreases-loop-turn l = length (listed l.generator (length l.initial.out)) - l.i
