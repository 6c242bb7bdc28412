-- The spellings at a place along the chain: a letter alone, or one with sharps and one with flats, by quotients and what is left.
use Rattle.std.specs.Prelude.{Option}
use Prim.Native.Nat.{ℕ, ◌+◌, ◌*◌, ◌-◌, ◌/◌, ◌%◌, ◌≤◌, ◌<◌}
use mathlib.Core.Path.{◌≡◌, refl, ap, ◌∙◌}
use borrow.Author.Tests.{lt-ltb, le-ltb}
use native.Mathlib.Nat.{mod-lt, mod-eq_of_lt, div-eq_of_lt, div-add-mod', mul_comm}
use native.Mathlib.Omega.{arith}
use Rattle.pergen.specs.Spelling.{by_coordinates}
use Rattle.layout_book.specs.Parts.{flat_beside}

pub rounds_below : (N x : ℕ) {q : ℕ} → q ≡ x / N → N * q ≤ x
rounds_below N x {q} e = omega (arith, ap (λ (y : ℕ). N * y) e, mul_comm N (x / N), div-add-mod' x N)

pub rest_below : (N x : ℕ) → 0 < N → {q : ℕ} → q ≡ x / N → x - N * q ≤ N - 1
rest_below N x some {q} e = omega (arith, ap (λ (y : ℕ). N * y) e, mul_comm N (x / N), div-add-mod' x N, mod-lt x some)

module _ (N R p : ℕ) (c : Option ℕ) where
  pub place_alone : p < N → record { cycle = c; sharp_index = p; sharp_count = 0; flat_index = p; flat_count = 0 } ≡ by_coordinates c N p (flat_beside R N p)
  unfolding by_coordinates flat_beside
  place_alone l =
      let b : N - 1 - p < N = omega (arith, l) in
      let e : p ≡ N - 1 - (N - 1 - p) = omega (arith, l) in
      rw (lt-ltb p N l, mod-eq_of_lt l, div-eq_of_lt l, mod-eq_of_lt b, div-eq_of_lt b, ← e) refl

  module _ (past : N ≤ p) (sharps flats flat : ℕ) (is_flat : flat ≡ R + (N - 1) - p) (is-sharps : sharps ≡ p / N) (is-flats : flats ≡ flat / N) where
    pub sharp_rest : p - N * sharps ≡ p % N
    sharp_rest = ap (λ (x : ℕ). p - N * x) is-sharps ∙ omega (arith, div-add-mod' p N, mul_comm N (p / N))

    pub flat_rest : flat - N * flats ≡ flat % N
    flat_rest = ap (λ (x : ℕ). flat - N * x) is-flats ∙ omega (arith, div-add-mod' flat N, mul_comm N (flat / N))

    pub place_signed :
        record { cycle = c; sharp_index = p - N * sharps; sharp_count = sharps; flat_index = N - 1 - (flat - N * flats); flat_count = flats }
        ≡ by_coordinates c N p (flat_beside R N p)
    unfolding by_coordinates flat_beside
    place_signed = rw (sharp_rest, flat_rest, is-sharps, is-flats, is_flat, le-ltb p N past) refl
