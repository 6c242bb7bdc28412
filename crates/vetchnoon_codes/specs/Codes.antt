-- What a C caller is answered with: one signed number, and what a slice that it lent then holds.
use Rattle.answer.specs.declared.Refusal.{Refusal}
use Rattle.std.specs.Prelude.{ℕ, ◌<◌, ◌^◌, ◌≡◌, List, ◌∷◌, leb, ℤ, pos, neg_ℤ, length, drop, Result}
use Rattle.std.specs.Result.{ForOk}
use Rattle.answer.specs.Outcome.{Outcome, given, refused, ask, and_then}
use Rattle.answer.specs.Lent.{in_room, counted, written}

-- A value is itself; a refusal ("the first no gives its number and nothing else") is minus that number.
abbrev pub code_of : Outcome ℕ → ℤ
code_of (given n) = pos n
code_of (refused n) = neg_ℤ (pos n)

-- The promise of a call that fills a lent slice, whatever its elements are: after its own questions comes question 10, "Does the output
-- slice hold the whole output?"; the code is the number of elements written, or the refusal; "a refusal writes to no buffer".
pub record Fills {A : Type 0} (outcome : Outcome (List A)) (code : ℤ) (before after : List A) : Type 0 where
  pub answered : code ≡ code_of (counted (in_room (length before) outcome))
  pub content : after ≡ written (in_room (length before) outcome) before

-- ---- the same of a call that writes one signed number

-- Question 10: does the slice, of `room` elements, hold it?
abbrev pub one_held : ℕ → ℤ → Outcome ℤ
one_held room z = ask 10 (leb 1 room) (given z)

-- How many elements were written.
abbrev pub one_counted : Outcome ℤ → Outcome ℕ
one_counted (given z) = given 1
one_counted (refused n) = refused n

-- "elements past the output keep their contents"
abbrev pub one_written : Outcome ℤ → List ℤ → List ℤ
one_written (given z) before = z ∷ drop 1 before
one_written (refused n) before = before

-- The call's promise.
pub record FillsOne (outcome : Outcome ℤ) (code : ℤ) (before after : List ℤ) : Type 0 where
  pub answered : code ≡ code_of (one_counted (and_then outcome (one_held (length before))))
  pub content : after ≡ one_written (and_then outcome (one_held (length before))) before

-- A count that a signed 64-bit number holds.
abbrev pub SmallCount : Result ℕ Refusal → Type 0
SmallCount answer = ForOk answer (λ n. n < 2 ^ 63)
