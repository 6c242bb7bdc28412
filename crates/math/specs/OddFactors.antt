-- A number without its factors of two (`odd_factors_u16` of the original).
use Rattle.std.specs.Prelude.{ℕ, zero, suc, ◌*◌, ◌/◌, ◌%◌, ◌^◌, ◌<◌, true, false, ◌≡◌, eqb}

-- Halved as long as it is even. The first argument bounds the halvings.
unfoldable pub halved : ℕ → ℕ → ℕ
halved zero n = n
halved (suc halvings) n = elim (eqb (n % 2) 0) [ true ↦ halved halvings (n / 2) | false ↦ n ]

-- A number is halved fewer times than it is large; 0 stays 0.
unfoldable pub odd_factors : ℕ → ℕ
unfolding halved
odd_factors n = halved n n

-- Theorem: what is left of a number above 0 is odd, and times a power of two it is the number.
abbrev pub OddFactorsAreLeft : Type 0
OddFactorsAreLeft = (n : ℕ) → 0 < n → (odd_factors n % 2 ≡ 1) × ((k : ℕ) × (n ≡ odd_factors n * 2 ^ k))
