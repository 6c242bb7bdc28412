-- The two conversions undo each other, code by code and strip by strip.
use Prim.Native.Nat.{ℕ, ◌+◌, ◌*◌, ◌-◌, ◌/◌, ◌%◌, ◌≤◌, ◌<◌}
use mathlib.Core.Bool.{Bool, true, false, ◌&&◌, ◌||◌}
use mathlib.Core.List.{List, [], ◌∷◌, map}
use mathlib.Core.Path.{◌≡◌, refl, sym, ap, ap₂, subst, ◌∙◌}
use native.Mathlib.Decide.{dec_lt}
use native.Mathlib.Omega.{arith}
use lib.Dec.{eqb, ltb}
use borrow.Author.Tests.{ltb-true, eqb-true, eqb-false, eq-eqb}
use Rattle.answer.specs.Outcome.{given, ask}
use Rattle.answer.proofs.Asked.{given_same, asked_yes, asked_rest, and_left, and_right}
use Rattle.answer.specs.Tests.{all_of}
use Rattle.lamp_codes.specs.Codes.{is_old, wide_code, is_converted, old_code}
use Rattle.lamp_codes.specs.Answers.{get_widened, get_narrowed}
use Rattle.lamp_codes.specs.Theorems.{Partners, RoundTrips}
use Rattle.lamp_codes.proofs.Ranges.{wide_plain, wide_sharp, wide_flat, wide_last, old_plain, old_even, old_odd, old_last, test_low, test_high}

-- ---- code by code

-- what a test tells
below_or_last : (c last : ℕ) (G : Type 0) → (ltb c 202 || eqb c last) ≡ true → (c < 202 → G) → (c ≡ last → G) → G
below_or_last c last G e low high = by (ltb c 202) refl e
  where
    by : (b : Bool) → ltb c 202 ≡ b → (b || eqb c last) ≡ true → G
    by true t e = low (ltb-true c 202 t)
    by false t e = high (eqb-true c last e)

last_test : (c last : ℕ) → 202 ≤ c → c ≡ last → (ltb c 202 || eqb c last) ≡ true
last_test c last h e = sym (test_high c last h) ∙ eq-eqb c last e

-- a code and its partner
abbrev Fits : (c d : ℕ) → Type 0
Fits c d = (wide_code c ≡ d) × (old_code d ≡ c) × (is_old c ≡ true) × (is_converted d ≡ true) × (c < 256) × (d < 65536)

plain : (c : ℕ) → c < 2 → Fits c c
plain c h = (
  sym (wide_plain c h),
  sym (old_plain c h),
  sym (test_low c 255 (omega arith)),
  sym (test_low c 65535 (omega arith)),
  omega arith,
  omega arith,
)

sharp : (k : ℕ) → k < 100 → Fits (2 + k) (2 + 2 * k)
sharp k h =
    let even : (2 + 2 * k) % 2 ≡ 0 = omega arith in (
      sym (wide_sharp (2 + k) (omega arith) (omega arith)) ∙ omega arith,
      sym (old_even (2 + 2 * k) (omega arith) (omega arith) even) ∙ omega arith,
      sym (test_low (2 + k) 255 (omega arith)),
      sym (test_low (2 + 2 * k) 65535 (omega arith)),
      omega arith,
      omega arith,
    )

flat : (k : ℕ) → k < 100 → Fits (102 + k) (3 + 2 * k)
flat k h = (
  sym (wide_flat (102 + k) (omega arith) (omega arith)) ∙ omega arith,
  sym (old_odd (3 + 2 * k) (omega arith) (omega arith) (λ e. omega (arith, e))) ∙ omega arith,
  sym (test_low (102 + k) 255 (omega arith)),
  sym (test_low (3 + 2 * k) 65535 (omega arith)),
  omega arith,
  omega arith,
)

enharmonic : Fits 255 65535
enharmonic = (sym (wide_last 255 (omega arith)), sym (old_last 65535 (omega arith)), refl, refl, omega arith, omega arith)

pub wide_fits : (c : ℕ) → is_old c ≡ true → Fits c (wide_code c)
wide_fits c e = below_or_last c 255 (Fits c (wide_code c)) e low (λ q. subst (λ (x : ℕ). Fits x (wide_code x)) (sym q) (own enharmonic))
  where
    own : {c d : ℕ} → Fits c d → Fits c (wide_code c)
    own {c} f = subst (Fits c) (sym f.0) f

    along : {c d : ℕ} → c ≡ d → Fits c (wide_code c) → Fits d (wide_code d)
    along q f = subst (λ (x : ℕ). Fits x (wide_code x)) q f

    low : c < 202 → Fits c (wide_code c)
    low h = by (dec_lt c 2) (dec_lt c 102)
      where
        by : Dec (c < 2) → Dec (c < 102) → Fits c (wide_code c)
        by (yes a) b = own (plain c a)
        by (no a) (yes b) = along (let q : 2 + (c - 2) ≡ c = omega arith in q) (own (sharp (c - 2) (omega arith)))
        by (no a) (no b) = along (let q : 102 + (c - 102) ≡ c = omega arith in q) (own (flat (c - 102) (omega arith)))

pub old_fits : (d : ℕ) → is_converted d ≡ true → Fits (old_code d) d
old_fits d e = below_or_last d 65535 (Fits (old_code d) d) e low (λ q. subst (λ (x : ℕ). Fits (old_code x) x) (sym q) (own enharmonic))
  where
    own : {c d : ℕ} → Fits c d → Fits (old_code d) d
    own {c} {d} f = subst (λ (x : ℕ). Fits x d) (sym f.1) f

    along : {c d : ℕ} → c ≡ d → Fits (old_code c) c → Fits (old_code d) d
    along q f = subst (λ (x : ℕ). Fits (old_code x) x) q f

    low : d < 202 → Fits (old_code d) d
    low h = by (dec_lt d 2) (eqb (d % 2) 0) refl
      where
        by : Dec (d < 2) → (b : Bool) → eqb (d % 2) 0 ≡ b → Fits (old_code d) d
        by (yes a) b t = own (plain d a)
        by (no a) true t =
            let even = eqb-true (d % 2) 0 t in
            along (let q : 2 + 2 * ((d - 2) / 2) ≡ d = omega (arith, even) in q) (own (sharp ((d - 2) / 2) (omega arith)))
        by (no a) false t =
            let odd = eqb-false (d % 2) 0 t in
            along (let q : 3 + 2 * ((d - 3) / 2) ≡ d = omega (arith, odd) in q) (own (flat ((d - 3) / 2) (omega arith)))

pub partners : Partners
partners = record {
  back = λ c e. (wide_fits c e).1;
  converted = λ d. (
    λ e. let f = old_fits d e in (old_code d, f.2, f.0),
    λ p. subst (λ (x : ℕ). is_converted x ≡ true) p.2 (wide_fits p.0 p.1).3,
  );
  two_bytes = λ c e. (wide_fits c e).5;
  one_byte = λ d e. (old_fits d e).4;
}

-- ---- strip by strip

-- what one way gives passes the other's test and goes back
module _ (test other : ℕ → Bool) (f g : ℕ → ℕ) (passes : (c : ℕ) → test c ≡ true → other (f c) ≡ true) (undone : (c : ℕ) → test c ≡ true → g (f c) ≡ c) where
  strip_passes : (xs : List ℕ) → all_of test xs ≡ true → all_of other (map f xs) ≡ true
  strip_passes [] e = refl
  strip_passes (x ∷ xs) e =
      ap₂ (λ (a b : Bool). a && b) (passes x (and_left (test x) (all_of test xs) e)) (strip_passes xs (and_right (test x) (all_of test xs) e))

  strip_undone : (xs : List ℕ) → all_of test xs ≡ true → map g (map f xs) ≡ xs
  strip_undone [] e = refl
  strip_undone (x ∷ xs) e =
      ap₂ (λ (a : ℕ) (l : List ℕ). a ∷ l) (undone x (and_left (test x) (all_of test xs) e)) (strip_undone xs (and_right (test x) (all_of test xs) e))

  trip : (xs ys : List ℕ) → ask 17 (all_of test xs) (given (map f xs)) ≡ given ys → ask 17 (all_of other ys) (given (map g ys)) ≡ given xs
  trip xs ys e =
      let ok = asked_yes 17 (all_of test xs) _ e in
      let is : map f xs ≡ ys = given_same (asked_rest 17 (all_of test xs) _ e) in
      ap (λ (l : List ℕ). ask 17 (all_of other l) (given (map g l))) (sym is)
      ∙ ap₂ (λ (b : Bool) (l : List ℕ). ask 17 b (given l)) (strip_passes xs ok) (strip_undone xs ok)

pub round_trips : RoundTrips
unfolding get_widened get_narrowed
round_trips = record {
  there_and_back = trip is_old is_converted wide_code old_code (λ c e. (wide_fits c e).3) (λ c e. (wide_fits c e).1);
  back_and_there = trip is_converted is_old old_code wide_code (λ d e. (old_fits d e).2) (λ d e. (old_fits d e).0);
}
