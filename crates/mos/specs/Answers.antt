-- What each call answers: the questions with their numbers, in rising order, and what an answer means.
use Rattle.std.specs.Prelude.{ℕ, List, leb}
use Rattle.answer.specs.Outcome.{Outcome, given, ask}
use Rattle.answer.specs.Lent.{held_in}
use Rattle.mos.specs.declared.Mos.{Mos}
use Rattle.mos.specs.Patterns.{mos, size_of, is_pattern, genesis}
use Rattle.mos.specs.Walks.{listed}
use Rattle.mos.specs.Coprime.{coprime_of, coprime_step}

-- Question 7, then a fact of the pattern.
unfoldable pub of_pattern : {A : Type 0} → Mos → A → Outcome A
unfolding is_pattern
of_pattern m fact = ask 7 (is_pattern m) (given fact)

-- Question 7 of the caller's own numbers, then the pattern that they make.
abbrev pub new_outcome : (a b p s : ℕ) → Outcome Mos
new_outcome a b p s = of_pattern (mos a b p s) (mos a b p s)

-- Question 2, then the genesis.
unfoldable pub genesis_outcome : ℕ → ℕ → Outcome Mos
genesis_outcome P G = ask 2 (leb 1 P) (given (genesis P G))

-- Question 7, then question 8: "Is the size after `coprime` at most 65,535?"
unfoldable pub coprime_outcome : Mos → Outcome Mos
unfolding is_pattern size_of coprime_step
coprime_outcome m = ask 7 (is_pattern m) (ask 8 (leb (size_of (coprime_of m)) 65535) (given (coprime_of m)))

-- Question 7, then question 10, for a listing of patterns into a slice of `room` numbers.
unfoldable pub listing_outcome : Mos → List Mos → ℕ → Outcome (List ℕ)
unfolding is_pattern
listing_outcome m patterns room = ask 7 (is_pattern m) (held_in room (listed patterns))
