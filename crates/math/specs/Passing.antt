-- Numbers that pass a test: which they are, the first of them, and whether all below a bound do.
use Rattle.std.specs.Prelude.{ℕ, zero, suc, ◌≤◌, Bool, true, false, ◌&&◌, List, [], ◌∷◌}

-- The numbers from `from` on, so many.
unfoldable pub run : ℕ → ℕ → List ℕ
run from zero = []
run from (suc count) = from ∷ run (suc from) count

-- The numbers from `from` on, `count` of them, that pass a test: "each once, rising".
unfoldable pub passing : (ℕ → Bool) → ℕ → ℕ → List ℕ
passing test zero from = []
passing test (suc count) from = elim (test from) [ true ↦ from ∷ passing test count (suc from) | false ↦ passing test count (suc from) ]

-- The first number from `from` on that passes the test, of at most `count` numbers.
unfoldable pub first : (ℕ → Bool) → ℕ → ℕ → ℕ
first test zero from = from
first test (suc count) from = elim (test from) [ true ↦ from | false ↦ first test count (suc from) ]

-- A test is passed by all numbers below n.
unfoldable pub all_below : (ℕ → Bool) → ℕ → Bool
all_below test zero = true
all_below test (suc n) = all_below test n && test n

-- Each number is above the one before it, the first at least `least`: so none stands there twice.
abbrev pub RisingFrom : ℕ → List ℕ → Type 0
RisingFrom least [] = Unit {0}
RisingFrom least (k ∷ ks) = (least ≤ k) × RisingFrom (suc k) ks
