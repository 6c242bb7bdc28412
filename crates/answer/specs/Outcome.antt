-- What an entry point answers (document 01, "Questions before an answer").
use Rattle.std.specs.Prelude.{ℕ, Bool, true, false}

-- "the first no gives its number and nothing else"; "a yes to all gives the answer"
pub data Outcome (A : Type 0) : Type 0 where
  given : A → Outcome A
  refused : ℕ → Outcome A

-- Question n: a no refuses with n, a yes goes on to the later questions.
abbrev pub ask : {A : Type 0} → ℕ → Bool → Outcome A → Outcome A
ask n true rest = rest
ask n false rest = refused n

-- The questions of one step, then those that its value brings.
abbrev pub and_then : {A B : Type 0} → Outcome A → (A → Outcome B) → Outcome B
and_then (given a) next = next a
and_then (refused n) next = refused n
