-- Calls on fractional patterns: a listing in a slice, and how long it is.
use Rattle.answer.specs.declared.Refusal.{Refusal}
use Rattle.std.specs.Prelude.{Result}
use Rattle.answer.specs.Refusals.{outcome_of}
use Prim.Native.Nat.{ℕ, ◌<◌, ◌^◌}
use mathlib.Core.Path.{◌≡◌, sym, ap, ◌∙◌}
use mathlib.Core.Bool.{Bool, true, false}
use native.Mathlib.Omega.{arith}
use lib.Ieee.{Float}
use lib.ListN.{length}
use Rattle.answer.specs.Outcome.{given, ask}
use Rattle.answer.specs.Lent.{held_in, in_room}
use Rattle.answer.proofs.Asked.{ask_then}
use Rattle.mos_fractional.specs.Fractional.{is_finite}
use Rattle.mos_fractional.specs.Walk.{children_from}
use Rattle.mos_fractional.specs.Answers.{of_generator, length_outcome, listing_outcome}
use Rattle.mos_fractional.proofs.Theorems.{walk_is_whole}
use Rattle.vetchnoon_codes.specs.Codes.{SmallCount}

-- ---- a listing

pub patterns_in_room : (room : ℕ) (g : Float) → in_room room (of_generator g (children_from g)) ≡ listing_outcome g room
patterns_in_room room g = ask_then 22 (is_finite g) (given (children_from g)) (held_in room)

-- how many there are fits
pub small_length : (g : Float) (a : Result ℕ Refusal) → outcome_of a ≡ length_outcome g → SmallCount a
small_length g a e n is = by (is_finite g) (sym (ap outcome_of is) ∙ e)
  where
    by : (b : Bool) → given n ≡ ask 22 b (given (length (children_from g))) → n < 2 ^ 63
    by true e = let same : n ≡ length (children_from g) = cc in omega (arith, same, walk_is_whole.ends g)
    by false e = cc
