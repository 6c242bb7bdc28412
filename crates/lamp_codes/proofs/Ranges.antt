-- The two conversions range by range, by what the code tests.
use Prim.Native.Nat.{ℕ, ◌+◌, ◌*◌, ◌-◌, ◌/◌, ◌%◌, ◌≤◌, ◌<◌}
use mathlib.Core.Bool.{true, ◌||◌}
use mathlib.Core.Path.{◌≡◌}
use lib.Dec.{eqb, ltb}
use native.Mathlib.Omega.{arith}
use borrow.Author.Tests.{lt-ltb, le-ltb, eq-eqb, ne_eqb}
use Rattle.lamp_codes.specs.Codes.{wide_code, old_code}

-- ---- from one byte to two

module _ (c : ℕ) where
  pub wide_plain : c < 2 → c ≡ wide_code c
  unfolding wide_code
  wide_plain h = simp (lt-ltb c 2 h)

  pub wide_sharp : 2 ≤ c → c < 102 → 2 + 2 * (c - 2) ≡ wide_code c
  unfolding wide_code
  wide_sharp l h = simp (le-ltb c 2 l, lt-ltb c 102 h)

  pub wide_flat : 102 ≤ c → c < 202 → 3 + 2 * (c - 102) ≡ wide_code c
  unfolding wide_code
  wide_flat l h = simp (le-ltb c 2 (omega arith), le-ltb c 102 l, lt-ltb c 202 h)

  pub wide_last : 202 ≤ c → 65535 ≡ wide_code c
  unfolding wide_code
  wide_last l = simp (le-ltb c 2 (omega arith), le-ltb c 102 (omega arith), le-ltb c 202 l)

  -- ---- and back

  pub old_plain : c < 2 → c ≡ old_code c
  unfolding old_code
  old_plain h = simp (lt-ltb c 2 h)

  pub old_even : 2 ≤ c → c < 202 → c % 2 ≡ 0 → 2 + (c - 2) / 2 ≡ old_code c
  unfolding old_code
  old_even l h e = simp (le-ltb c 2 l, lt-ltb c 202 h, eq-eqb (c % 2) 0 e)

  pub old_odd : 2 ≤ c → c < 202 → (c % 2 ≡ 0 → ⊥) → 102 + (c - 3) / 2 ≡ old_code c
  unfolding old_code
  old_odd l h e = simp (le-ltb c 2 l, lt-ltb c 202 h, ne_eqb (c % 2) 0 e)

  pub old_last : 202 ≤ c → 255 ≡ old_code c
  unfolding old_code
  old_last l = simp (le-ltb c 2 (omega arith), le-ltb c 202 l)

-- ---- the two tests are one, but for the last code

module _ (c last : ℕ) where
  pub test_low : c < 202 → true ≡ (ltb c 202 || eqb c last)
  test_low h = simp (lt-ltb c 202 h)

  pub test_high : 202 ≤ c → eqb c last ≡ (ltb c 202 || eqb c last)
  test_high h = simp (le-ltb c 202 h)
