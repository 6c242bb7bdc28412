-- What a slice that a caller lends for the output holds after an answer, whatever its elements are.
use Rattle.std.specs.Prelude.{ℕ, ◌≡◌, List, ◌++◌, length, drop, leb}
use Rattle.answer.specs.Outcome.{Outcome, given, refused, ask, and_then}

-- Question 10: does the output slice, of `room` elements, hold the whole output?
abbrev pub held_in : {A : Type 0} → ℕ → List A → Outcome (List A)
held_in room output = ask 10 (leb (length output) room) (given output)

-- Question 10 after the questions of the call.
abbrev pub in_room : {A : Type 0} → ℕ → Outcome (List A) → Outcome (List A)
in_room room output = and_then output (held_in room)

-- How many elements were written.
abbrev pub counted : {A : Type 0} → Outcome (List A) → Outcome ℕ
counted (given output) = given (length output)
counted (refused n) = refused n

-- "A refusal writes to no buffer"; an output stands at the front, and "elements past the output keep their contents".
abbrev pub written : {A : Type 0} → Outcome (List A) → List A → List A
written (given output) before = output ++ drop (length output) before
written (refused n) before = before

-- The promise of an entry point that fills a lent slice: what it answers, and what the slice then holds.
pub record Filled {A : Type 0} (outcome : Outcome (List A)) (answer : Outcome ℕ) (before after : List A) : Type 0 where
  pub answered : answer ≡ counted outcome
  pub content : after ≡ written outcome before
