-- Laws of strips: a test on each element, looked at one by one, and elements that are converted one by one.
use Prim.Native.Nat.{ℕ, zero, suc, ◌+◌, ◌<◌, ◌≤◌}
use mathlib.Core.Bool.{Bool, true, false, ◌&&◌, and-false}
use mathlib.Core.List.{List, [], ◌∷◌, ◌++◌, map}
use mathlib.Core.Path.{◌≡◌, refl, sym, ap, ap₂, subst, ◌∙◌}
use native.Mathlib.Omega.{arith}
use lib.ListN.{length, get_or, take, set, length-map}
use Rattle.answer.specs.Tests.{all_of}
use Rattle.text.specs.Writing.{Wrote}
use lib.Seq.{take-suc, take_all}
use Rattle.std.specs.Bool.{MatchBool}
use Rattle.std.specs.List.{AllWithin, HoldsAt}
use native.Mathlib.Nat.{le_antisymm}
use native.Mathlib.Numerals.{add-one}
use Rattle.text.proofs.Writing.{wrote_one, wrote_as, then}
use Rattle.text.proofs.Copying.{mapped_at}

-- the answer of a search over all elements
pub all_answered : {A : Type 0} (test : A → Bool) (xs : List A) (r : Bool)
    → MatchBool r (AllWithin (λ x. test x ≡ true) xs 0 (length xs)) ((k : ℕ) × (k < length xs) × HoldsAt (λ x. test x ≡ false) xs k)
    → r ≡ all_of test xs
all_answered test [] true h = refl
all_answered test [] false (k, l, h) = absurd (omega arith)
all_answered test (x ∷ xs) true h =
    ap₂ (λ (a b : Bool). a && b) (sym (h 0 x (omega arith) (omega arith)))
    (all_answered test xs true (λ i d low high. h (suc i) d (omega arith) (omega arith)))
all_answered test (x ∷ xs) false (zero, l, h) = ap (λ (b : Bool). b && all_of test xs) (sym (h x))
all_answered test (x ∷ xs) false (suc k, l, h) =
    sym (ap (λ (b : Bool). test x && b) (sym (all_answered test xs false (k, omega arith, h))) ∙ and-false (test x))

-- what holds of an element that was read
pub holds_read : {A : Type 0} (P : A → Type 0) (xs : List A) (i : ℕ) (x : A) → i < length xs → x ≡ get_or xs i x → P x → HoldsAt P xs i
holds_read P [] i x h is p = absurd (omega arith)
holds_read P (y ∷ xs) zero x h is p = λ d. subst P is p
holds_read P (y ∷ xs) (suc i) x h is p = holds_read P xs i x (omega arith) is p

-- each element passes, or one does not
abbrev pub Passed : (ℕ → Bool) → List ℕ → ℕ → Type 0
Passed test xs k = (i : ℕ) → i < k → test (get_or xs i 0) ≡ true

pub all_pass : (test : ℕ → Bool) (xs : List ℕ) → Passed test xs (length xs) → true ≡ all_of test xs
all_pass test [] p = refl
all_pass test (x ∷ xs) p =
    ap₂ (λ (a b : Bool). a && b) (sym (p 0 (omega arith))) (all_pass test xs (λ i h. p (suc i) (omega (arith, h))))

pub one_fails : (test : ℕ → Bool) (xs : List ℕ) (i : ℕ) → i < length xs → test (get_or xs i 0) ≡ false → false ≡ all_of test xs
one_fails test [] i h e = absurd (let z : ⊥ = omega (arith, h) in z)
one_fails test (x ∷ xs) zero h e = ap (λ (b : Bool). b && all_of test xs) (sym e)
one_fails test (x ∷ xs) (suc i) h e =
    sym (ap (λ (b : Bool). test x && b) (sym (one_fails test xs i (omega (arith, h)) e)) ∙ and-false (test x))

-- all of them
pub converted_all : {A B : Type 0} {xs ys : List B} (f : A → B) (strip : List A) (i : ℕ) → i ≤ length strip → length strip ≤ i
    → Wrote xs 0 (take i (map f strip)) ys i → Wrote xs 0 (map f strip) ys (length strip)
converted_all {B = B} {xs = xs} {ys = ys} f strip i h l w =
    wrote_as (take_all i (map f strip) (omega (arith, l, length-map strip f)))
    (subst (λ (n : ℕ). Wrote xs 0 (take i (map f strip)) ys n) (le_antisymm h l) w)

-- one element more is converted
pub convert_more : {A B : Type 0} {xs ys : List B} {at o : ℕ} {x : B} (f : A → B) (strip : List A) (i : ℕ) (d : A) → i < length strip
    → x ≡ f (get_or strip i d) → Wrote xs at (take i (map f strip)) ys o → Wrote xs at (take (i + 1) (map f strip)) (set ys o x) (o + 1)
convert_more {xs} {ys} {at} {o} {x} f strip i d h is w =
    let one : get_or (map f strip) i x ≡ x = mapped_at f strip i x d h ∙ sym is in
    wrote_as
    (ap (λ (y : _). take i (map f strip) ++ (y ∷ [])) (sym one)
    ∙ sym (ap (λ (k : ℕ). take k (map f strip)) (add-one i) ∙ take-suc (map f strip) i x (omega (arith, h, length-map strip f))))
    (then w (wrote_one ys o x))
