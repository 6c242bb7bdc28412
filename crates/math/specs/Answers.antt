-- What the calls on division answer: question 2 (a denominator of 0 is refused as a period below 1 is), then the numbers.
use Rattle.std.specs.Prelude.{ℕ, ℤ, leb, Result, Ok, Err}
use Rattle.answer.specs.Outcome.{Outcome, given, refused, ask}
use Rattle.answer.specs.Refusals.{number_of}
use Rattle.answer.specs.declared.Refusal.{Refusal}
use Rattle.math.specs.declared.DividedBy.{DividedBy}
use Rattle.math.specs.Division.{quotient, remainder}

-- Quotient and remainder, in this order.
unfoldable pub divide_outcome : ℤ → ℕ → Outcome (ℤ × ℕ)
divide_outcome z d = ask 2 (leb 1 d) (given (quotient z d, remainder z d))

unfoldable pub div_outcome : ℤ → ℕ → Outcome ℤ
div_outcome z d = ask 2 (leb 1 d) (given (quotient z d))

unfoldable pub rem_outcome : ℤ → ℕ → Outcome ℕ
rem_outcome z d = ask 2 (leb 1 d) (given (remainder z d))

-- What an answer means, whatever the remainder's type.
abbrev pub divided_outcome : Result (DividedBy ℕ) Refusal → Outcome (ℤ × ℕ)
divided_outcome (Ok v) = given (v.quotient, v.remainder)
divided_outcome (Err q) = refused (number_of q)
