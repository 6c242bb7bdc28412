-- Laws of sizes: question 7 is decided by the size alone, and the products of 16-bit numbers fit the code's wide numbers.
use Prim.Native.Nat.{ℕ, ◌*◌, ◌≤◌, ◌<◌}
use mathlib.Core.Path.{◌≡◌, refl, sym, ap, ◌∙◌}
use mathlib.Core.Bool.{Bool, true, false, ◌&&◌, and-false}
use native.Mathlib.Nat.{le-mul_of_pos_right, mul-le-mul, mul_comm, lt_of_le_of_lt}
use native.Mathlib.Omega.{arith}
use lib.Dec.{leb, lit<}
use borrow.Author.Tests.{leb-true, le-leb}
use Rattle.answer.specs.Outcome.{given, refused}
use Rattle.std.specs.Prelude.{Result, IsErr, IsErrAnd}
use Rattle.answer.specs.Refusals.{outcome_of, number_of}
use Rattle.answer.specs.declared.Refusal.{Refusal}
use Rattle.answer.specs.declared.Refusal.TheVariants.{Size}
use Rattle.answer.proofs.Passing.{refusal_passed}
use Rattle.mos.specs.declared.Mos.{Mos}
use Rattle.mos.specs.Patterns.{primaries, secondaries, primary, secondary, count_of, size_of, is_pattern, dual_of}
use Rattle.mos.specs.Answers.{of_pattern}

pub product_fits : (a b : ℕ) → a < 65536 → b < 65536 → a * b < 4294967296
product_fits a b ha hb =
    let l : a ≤ 65535 = omega arith in
    let k : b ≤ 65535 = omega arith in
    lt_of_le_of_lt (mul-le-mul l k) (lit< tt)

-- both products fit where the size does
pub size_decides : (m : Mos) → is_pattern m ≡ leb (size_of m) 65535
unfolding is_pattern size_of
size_decides m = go (leb (size_of m) 65535) refl
  where
    go : (t : Bool) → leb (size_of m) 65535 ≡ t → (leb (primaries m * primary m) 65535 && leb (secondaries m * secondary m) 65535 && t) ≡ t
    go true e =
        rw (
          le-leb (primaries m * primary m) 65535 (omega (arith, leb-true (size_of m) 65535 e)),
          le-leb (secondaries m * secondary m) 65535 (omega (arith, leb-true (size_of m) 65535 e)),
        )
    go false e = and-false (leb (primaries m * primary m) 65535 && leb (secondaries m * secondary m) 65535)

pub pattern_fits : (m : Mos) → is_pattern m ≡ true → size_of m ≤ 65535
pattern_fits m e = leb-true (size_of m) 65535 (sym (size_decides m) ∙ e)

pub fits_pattern : (m : Mos) → size_of m ≤ 65535 → is_pattern m ≡ true
fits_pattern m h = size_decides m ∙ le-leb (size_of m) 65535 h

pub pattern_same : (m n : Mos) → size_of n ≡ size_of m → is_pattern n ≡ is_pattern m
pattern_same m n e = size_decides n ∙ ap (λ (x : ℕ). leb x 65535) e ∙ sym (size_decides m)

-- where both steps are above 0 the counts fit what the size fits
pub counts_fit : (m : Mos) → 0 < primary m → 0 < secondary m → count_of m ≤ size_of m
unfolding size_of
counts_fit m hp hs = omega (arith, le-mul_of_pos_right (primaries m) hp, le-mul_of_pos_right (secondaries m) hs)

pub dual_size : (m : Mos) → size_of (dual_of m) ≡ size_of m
unfolding size_of
dual_size m = omega (arith, mul_comm (primaries m) (primary m), mul_comm (secondaries m) (secondary m))

pub dual_pattern : (m : Mos) → is_pattern (dual_of m) ≡ is_pattern m
dual_pattern m = pattern_same m (dual_of m) (dual_size m)

-- question 7, by what the code's test told
pub pattern_refused : {A : Type 0} (m : Mos) (fact : A) {test : Bool} → test ≡ is_pattern m → test ≡ false → refused 7 ≡ of_pattern m fact
unfolding of_pattern
pattern_refused m fact e f = simp (sym e ∙ f)

pub pattern_given : {A : Type 0} (m : Mos) {fact told : A} {test : Bool} → test ≡ is_pattern m → test ≡ true → told ≡ fact → given told ≡ of_pattern m fact
unfolding of_pattern
pattern_given m e f g = simp (sym e ∙ f, g)

-- the same where `?` asks it: the refusal that is handed on, and what is answered of the pattern n that was made of m
pub size_passed : {A : Type 0} (m : Mos) (fact : A) {q : Refusal} (r : Result A Refusal) → IsErr r × IsErrAnd r (λ (e : Refusal). e ≡ q) → (q ≡ Size) × (is_pattern m ≡ false)
    → outcome_of r ≡ of_pattern m fact
size_passed m fact {q} r h e =
    refusal_passed q r h ∙ ap (λ (x : Refusal). refused (number_of x)) e.0 ∙ pattern_refused m fact refl e.1

pub size_given : {A : Type 0} {n : Mos} (m : Mos) {fact told : A} → n ≡ m → is_pattern n ≡ true → told ≡ fact → given told ≡ of_pattern m fact
size_given m e f g = pattern_given m (ap is_pattern e) f g
