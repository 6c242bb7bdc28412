-- Fewest sharps, fewest flats. A spelling with k sharps stands at index + N × k from the first symbol, which is the sharp coordinate modulo
-- R, so at least it; one with k flats stands, counted from the last symbol down, at N − 1 − index + N × k, at least the flat coordinate.
-- Less than N ≤ R above the coordinate there is only the coordinate itself, so a spelling with no more signs has its index.
use Rattle.std.specs.Prelude.{Option}
use Prim.Native.Nat.{ℕ, zero, suc, ◌+◌, ◌*◌, ◌-◌, ◌/◌, ◌%◌, ◌≤◌, ◌<◌}
use mathlib.Core.Path.{◌≡◌, refl, sym, ap, subst, ◌∙◌}
use native.Mathlib.Nat.{mod-le, mod-eq_of_lt, mod-add-div, div-add-mod', add_comm, add-zero, mul_comm, suc-mul, zero-mul, div-lt_iff_lt-mul}
use native.Mathlib.Omega.{arith}
use lib.IntN.{ℤ, pos}
use Rattle.math.specs.Division.{Apart}
use Rattle.math.proofs.Congruence.{add_cong, add_cancel}
use Rattle.math.proofs.Integers.{rep_pos}
use Rattle.math.proofs.Division.{remainders_agree, apart→remainder}
use Rattle.pergen.specs.declared.Accidentals.{Accidentals}
use Rattle.pergen.specs.declared.Signs.TheVariants.{Sharps, Flats}
use Rattle.pergen.specs.Pergen.{reduced, key_degree, cycle_of}
use Rattle.pergen.specs.Spelling.{sharp_coordinate, flat_coordinate, by_coordinates, key_accidentals, place}
use Rattle.pergen.proofs.Keys.{key_degree_below}
use Rattle.pergen.proofs.Indices.{flat_below, accidentals_high}
use Rattle.pergen.proofs.DegreePlaces.{place_sharps, place_flats, flat_sum}

-- what is shown of accidentals a: a spelling at the degree's places has at least a's signs of its kind, and with no more a's index
pub record FewestOfEach (R N o e : ℕ) (a : Accidentals) : Type 0 where
  pub sharps : (i k s : ℕ) → i < N → Apart R (place N o (record { index = i; signs = Sharps k; stars = s })) (pos e) → a.sharp_count ≤ k
  pub flats : (i k s : ℕ) → i < N → Apart R (place N o (record { index = i; signs = Flats k; stars = s })) (pos e) → a.flat_count ≤ k
  pub sharp_index : (i k s : ℕ) → i < N → Apart R (place N o (record { index = i; signs = Sharps k; stars = s })) (pos e)
      → k ≤ a.sharp_count → i ≡ a.sharp_index
  pub flat_index : (i k s : ℕ) → i < N → Apart R (place N o (record { index = i; signs = Flats k; stars = s })) (pos e)
      → k ≤ a.flat_count → i ≡ a.flat_index

-- ---- quotients

-- i below N: a number that i + N × k reaches has at most k whole N
quotient_least : (N i k x : ℕ) → i < N → x ≤ i + N * k → x / N ≤ k
quotient_least N i k x hi h =
    let below : x < suc k * N = omega (arith, suc-mul k N, mul_comm N k) in
    omega (arith, (div-lt_iff_lt-mul {x = x} {y = suc k} (let t : 0 < N = omega arith in t)).1 below)

-- z is x modulo R, and less than R above it: z is x
near : (R x z : ℕ) → z % R ≡ x → z < x + R → z ≡ x
near R x z e h = go (z / R) refl
  where
    go : (q : ℕ) → z / R ≡ q → z ≡ x
    go zero f = omega (arith, div-add-mod' z R, ap (λ (n : ℕ). n * R) f, zero-mul R)
    go (suc q) f = absurd (let t : ⊥ = omega (arith, div-add-mod' z R, ap (λ (n : ℕ). n * R) f, suc-mul q R) in t)

module _ (R N i k x : ℕ) (hi : i < N) (e : (i + N * k) % R ≡ x) where
  reached : x / N ≤ k
  reached = quotient_least N i k x hi (subst (λ (n : ℕ). n ≤ i + N * k) e (mod-le (i + N * k) R))

  -- and where x has k whole N, the rest is i
  rest : N ≤ R → k ≤ x / N → i ≡ x % N
  rest hN h =
      let whole : x / N ≡ k = omega (arith, reached) in
      let same : i + N * k ≡ x = near R x (i + N * k) e (omega (arith, mod-add-div x N, ap (λ (n : ℕ). N * n) whole)) in
      omega (arith, mod-add-div x N, ap (λ (n : ℕ). N * n) whole)

-- ---- of a degree

module _ (R N o e : ℕ) (c : Option ℕ) (ho : o < N) (he : e < R) where
  some : 0 < R
  some = omega arith

  from_the_first : (i k s : ℕ) → Apart R (place N o (record { index = i; signs = Sharps k; stars = s })) (pos e)
      → (i + N * k) % R ≡ sharp_coordinate R (o + e)
  unfolding sharp_coordinate
  from_the_first i k s a =
      ap (λ (z : ℕ). z % R) (sym (add-zero (i + N * k)))
      ∙ (remainders_agree R some (place_sharps N o i k s) (rep_pos e)).0 (apart→remainder R some _ (pos e) a)
      ∙ ap (λ (z : ℕ). z % R) (add_comm e o)

  -- N − 1 − i + N × k, and 1 + o + e more, is N
  from_the_last : (i k s : ℕ) → i < N → Apart R (place N o (record { index = i; signs = Flats k; stars = s })) (pos e)
      → (N - 1 - i + N * k) % R ≡ flat_coordinate R N (o + e)
  from_the_last i k s hi a =
      let stands : i % R ≡ (e + (N * k + o)) % R
      = ap (λ (z : ℕ). z % R) (sym (add-zero i))
      ∙ (remainders_agree R some (place_flats N o i k s) (rep_pos e)).0 (apart→remainder R some _ (pos e) a) in
      add_cancel R (0 + 1 + (o + e)) (N - 1 - i + N * k) (flat_coordinate R N (o + e))
      (ap (λ (z : ℕ). z % R) (let t : N - 1 - i + N * k + (0 + 1 + (o + e)) ≡ e + (N * k + o) + (N - i) = omega arith in t)
      ∙ add_cong R (N - i) (e + (N * k + o)) i (sym stands)
      ∙ ap (λ (z : ℕ). z % R) (let t : i + (N - i) ≡ N + 0 + 0 = omega arith in t)
      ∙ sym (flat_sum R N o e c ho he _ refl))
      ∙ mod-eq_of_lt (flat_below R N (o + e) some)

  fewest_by_coordinates : N ≤ R → FewestOfEach R N o e (by_coordinates c N (sharp_coordinate R (o + e)) (flat_coordinate R N (o + e)))
  unfolding by_coordinates
  fewest_by_coordinates hN =
      record {
        sharps = λ i k s hi a. reached R N i k _ hi (from_the_first i k s a);
        flats = λ i k s hi a. reached R N (N - 1 - i) k _ (omega arith) (from_the_last i k s hi a);
        sharp_index = λ i k s hi a h. rest R N i k _ hi (from_the_first i k s a) hN h;
        flat_index =
            λ i k s hi a h.
            omega (arith, rest R N (N - 1 - i) k _ (let t : N - 1 - i < N = omega arith in t) (from_the_last i k s hi a) hN h);
      }

-- ---- of a key

pub fewest_of_each : (P G N o : ℕ) (key : ℤ) → 0 < P → o < N → N ≤ reduced P G
    → FewestOfEach (reduced P G) N o (key_degree P G key) (key_accidentals P G N o key)
unfolding key_accidentals
fewest_of_each P G N o key hP ho h =
    subst (FewestOfEach (reduced P G) N o (key_degree P G key))
    (accidentals_high (reduced P G) N o (key_degree P G key) (cycle_of P G key) h _ _ refl refl)
    (fewest_by_coordinates (reduced P G) N o (key_degree P G key) (cycle_of P G key) ho (key_degree_below P G hP key) h)
