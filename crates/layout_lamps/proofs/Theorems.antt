-- The laws of StripLaws, as the statements of specs/Theorems.
use Prim.Native.Nat.{ℕ, ◌+◌, ◌*◌, ◌-◌, ◌%◌, ◌≤◌, ◌<◌}
use mathlib.Core.Path.{◌≡◌, refl, sym, ap, subst, ◌∙◌}
use mathlib.Core.Bool.{Bool, true, false}
use mathlib.Core.List.{List, [], ◌∷◌, ◌++◌}
use native.Mathlib.Nat.{one-mul, mul-add, mul_assoc, mod_self, mod-eq_of_lt, zero-mod}
use lib.IntN.{ℤ, pos, ◌+ℤ◌, ◌*ℤ◌}
use mathlib.Core.Logic.{◌↔◌}
use native.Mathlib.Omega.{arith}
use lib.Dec.{eqb, ltb}
use lib.ListN.{length, take}
use lib.Seq.{take-append_seam}
use borrow.Author.Tests.{eq-eqb, ne_eqb, eqb-true, eqb-false, ltb-true, ltb-false}
use Rattle.answer.specs.Choice.{pick}
use Rattle.text.specs.Writing.{joined}
use Rattle.text.proofs.Joined.{joined_add, length_joined_each}
use Rattle.answer.specs.Outcome.{given}
use Rattle.answer.proofs.Asked.{given_same}
use Rattle.math.specs.Division.{quotient, remainder}
use Rattle.math.proofs.Integers.{up, down, rep_self, rep_pos, rep_add, rep_mul, rep_agree}
use Rattle.math.proofs.Division.{remainder_below, remainder_law, apart_iff, apart→remainder}
use Rattle.layout.specs.declared.IsomorphicLayout.{IsomorphicLayout}
use Rattle.layout.specs.Layouts.{Layout, Accepted}
use Rattle.layout.proofs.Finding.{accepted}
use Rattle.layout.proofs.Calls.{of_given}
use Rattle.layout_layers.specs.declared.Layer.{Layer}
use Rattle.layout_layers.specs.declared.Layer.TheVariants.{Natural, Sharp, Enharmonic, Flat}
use Rattle.layout_layers.specs.KeyLayers.{equalized, kind_of, number_in, count_in}
use Rattle.layout_layers.proofs.Theorems.{counts_fit, numbers_are_below}
use Rattle.layout_layers.specs.LampCodes.{lamp_code}
use Rattle.layout_lamps.specs.Lamps.{kind_at, lamp_of, codes_of, strip_of, lamp_in, strip_length_in, strip_in, octave_strip_in, kind_in}
use Rattle.layout_lamps.specs.Answers.{get_lamp}
use Rattle.layout_lamps.specs.Theorems.{CodesFit, CodesTellKindsApart, NoCodeIsShared, LampsByCount, OneHome, HomeKeys, StripsAreWhole, FirstOctaveStays, HomeChangesOneEntry}
use Rattle.layout_lamps.proofs.StripLaws.{lamps_by_count_at, first_lamps_by_count, equal_or_not, between}

pub lamps_by_count : LampsByCount
lamps_by_count r l ok = (first_lamps_by_count r l ok, lamps_by_count_at r l ok)

pub strips_are_whole : StripsAreWhole
unfolding strip_of codes_of
strips_are_whole l = length_joined_each (λ i. lamp_in l i ∷ []) 1 (λ i. refl) (strip_length_in l) ∙ one-mul (strip_length_in l)

-- ---- what the first octave was, it is

-- the first of so many and more
front : (f : ℕ → List ℕ) → ((i : ℕ) → length (f i) ≡ 1) → (P more : ℕ) → take P (joined f (P + more)) ≡ joined f P
front f one P more =
    let behind = joined (λ i. f (P + i)) more in
    ap (take P) (joined_add f P more)
    ∙ ap (λ (k : ℕ). take k (joined f P ++ behind)) (sym (length_joined_each f 1 one P ∙ one-mul P))
    ∙ take-append_seam (joined f P) behind

pub first_octave : (l : Layout) → take l.octave (strip_in l) ≡ octave_strip_in l
unfolding strip_of codes_of
first_octave l = by (equalized l.pattern)
  where
    P : ℕ
    P = l.octave

    f : ℕ → List ℕ
    f i = lamp_in l i ∷ []

    whole : (n more : ℕ) → n ≡ P + more → take P (joined f n) ≡ joined f P
    whole n more e = ap (λ (k : ℕ). take P (joined f k)) e ∙ front f (λ i. refl) P more

    by : (b : Bool) → take P (joined f (pick b (2 * P) P)) ≡ joined f P
    by true = whole (2 * P) P (omega arith)
    by false = whole P 0 (omega arith)

pub first_octave_stays : FirstOctaveStays
unfolding strip_of codes_of
first_octave_stays =
    record {
      unchanged = λ l e. ap (λ (b : Bool). joined (λ i. lamp_in l i ∷ []) (pick b (2 * l.octave) l.octave)) e;
      first_half = λ l e. first_octave l;
    }

code_above : (k : Layer) → 0 < lamp_code k
unfolding lamp_code
code_above Natural = omega arith
code_above (Sharp i) = omega arith
code_above (Enharmonic i) = omega arith
code_above (Flat i) = omega arith

-- ---- codes

-- what holds of a kind, of T
abbrev Of : ℕ → Layer → Type 0
Of T Natural = Unit
Of T (Sharp k) = 2 + 2 * k ≤ T
Of T (Enharmonic k) = 2 + 2 * k ≡ T
Of T (Flat k) = 3 + 2 * k ≤ T

kinds_of : (T j : ℕ) → j < T → Of T (kind_of T j)
unfolding kind_of
kinds_of T j h = by (eqb j 0) (ltb (2 * j) T) (eqb (2 * j) T) refl refl refl
  where
    by : (a b c : Bool) → eqb j 0 ≡ a → ltb (2 * j) T ≡ b → eqb (2 * j) T ≡ c
        → Of T (pick a Natural (pick b (Sharp (j - 1)) (pick c (Enharmonic (j - 1)) (Flat (T - j - 1)))))
    by true b c z e f = tt
    by false true c z e f = omega (arith, eqb-false j 0 z, ltb-true (2 * j) T e)
    by false false true z e f = omega (arith, eqb-false j 0 z, eqb-true (2 * j) T f)
    by false false false z e f = omega (arith, ltb-false (2 * j) T e, eqb-false (2 * j) T f)

code_most : (T : ℕ) → T ≤ 65535 → (k : Layer) → Of T k → lamp_code k ≤ 65535
unfolding lamp_code
code_most T h Natural o = omega arith
code_most T h (Sharp k) o = omega (arith, o)
code_most T h (Enharmonic k) o = omega arith
code_most T h (Flat k) o = omega (arith, o)

same_code : (T : ℕ) → T ≤ 65532 → (x y : Layer) → Of T x → Of T y → lamp_code x ≡ lamp_code y → x ≡ y
unfolding lamp_code
same_code T h Natural Natural o q e = refl
same_code T h Natural (Sharp b) o q e = absurd (let z : ⊥ = omega (arith, e) in z)
same_code T h Natural (Enharmonic b) o q e = absurd (let z : ⊥ = omega (arith, e) in z)
same_code T h Natural (Flat b) o q e = absurd (let z : ⊥ = omega (arith, e) in z)
same_code T h (Sharp a) Natural o q e = absurd (let z : ⊥ = omega (arith, e) in z)
same_code T h (Sharp a) (Sharp b) o q e = ap Sharp (omega (arith, e))
same_code T h (Sharp a) (Enharmonic b) o q e = absurd (let z : ⊥ = omega (arith, e) in z)
same_code T h (Sharp a) (Flat b) o q e = absurd (let z : ⊥ = omega (arith, e) in z)
same_code T h (Enharmonic a) Natural o q e = absurd (let z : ⊥ = omega (arith, e) in z)
same_code T h (Enharmonic a) (Sharp b) o q e = absurd (let z : ⊥ = omega (arith, e) in z)
same_code T h (Enharmonic a) (Enharmonic b) o q e = ap Enharmonic (omega (arith, o, q))
same_code T h (Enharmonic a) (Flat b) o q e = absurd (let z : ⊥ = omega (arith, h, q, e) in z)
same_code T h (Flat a) Natural o q e = absurd (let z : ⊥ = omega (arith, e) in z)
same_code T h (Flat a) (Sharp b) o q e = absurd (let z : ⊥ = omega (arith, e) in z)
same_code T h (Flat a) (Enharmonic b) o q e = absurd (let z : ⊥ = omega (arith, h, o, e) in z)
same_code T h (Flat a) (Flat b) o q e = ap Flat (omega (arith, e))

module _ (r : IsomorphicLayout) (l : Layout) (ok : Accepted r l) (wide : l.octave ≤ 65535) where
  few : count_in l ≤ 65532
  few = omega (arith, counts_fit r l ok, wide)

  kind_of_lem : (i : ℕ) → Of (count_in l) (kind_in l i)
  unfolding kind_at
  kind_of_lem i = kinds_of (count_in l) (number_in l i) (numbers_are_below r l ok i)

  code_fits : (i : ℕ) → lamp_in l i ≤ 65535
  unfolding lamp_of
  code_fits i = by (eqb (i % l.octave) 0)
    where
      by : (b : Bool) → pick b 0 (lamp_code (kind_in l i)) ≤ 65535
      by true = omega arith
      by false = code_most (count_in l) (omega (arith, few)) (kind_in l i) (kind_of_lem i)

  told_apart : CodesTellKindsApart l
  told_apart = record {
    kinds = λ i j e. same_code (count_in l) few (kind_in l i) (kind_in l j) (kind_of_lem i) (kind_of_lem j) e;
    home_alone = λ i. code_above (kind_in l i);
    no_such_flat = λ i k e. let flat : Of (count_in l) (Flat k) = subst (Of (count_in l)) e (kind_of_lem i) in omega (arith, flat, few);
  }

pub codes_fit : CodesFit
codes_fit r l ok wide key = code_fits r l ok wide key

pub no_code_is_shared : NoCodeIsShared
no_code_is_shared r l ok wide = told_apart r l ok wide

-- ---- home

home_alone : (b : Bool) (rest c : ℕ) → eqb rest 0 ≡ b → 0 < c → (pick b 0 c ≡ 0) ↔ (rest ≡ 0)
home_alone true rest c e h = (λ q. eqb-true rest 0 e, λ q. refl)
home_alone false rest c e h = (λ q. absurd (let z : ⊥ = omega (arith, h, q) in z), λ q. absurd (eqb-false rest 0 e q))

pub one_home : OneHome
unfolding lamp_of
one_home l key = home_alone (eqb (key % l.octave) 0) (key % l.octave) _ refl (code_above (kind_in l key))

-- a strip holds whole octaves, so a remainder by its length has the remainder by the octave
pub strip_rounds : (P : ℕ) → 0 < P → (b : Bool) (key : ℤ) → remainder key (pick b (2 * P) P) % P ≡ remainder key P
strip_rounds P h false key = mod-eq_of_lt (remainder_below key P h)
strip_rounds P h true key = sym (apart→remainder P h key (pos r) (q +ℤ q, sum))
  where
    q : ℤ
    q = quotient key (2 * P)

    r : ℕ
    r = remainder key (2 * P)

    sum : key ≡ pos r +ℤ pos P *ℤ (q +ℤ q)
    sum =
        (remainder_law.divides key (2 * P) (omega arith)).sum
        ∙ rep_agree
        (rep_add (rep_mul (2 * P) (rep_self q)) (rep_pos r))
        (rep_add (rep_pos r) (rep_mul P (rep_add (rep_self q) (rep_self q))))
        (omega (
          arith,
          mul-add P (up q) (up q),
          mul-add P (down q) (down q),
          mul_assoc 2 P (up q),
          mul_assoc 2 P (down q),
        ))

pub home_keys : HomeKeys
unfolding get_lamp
home_keys r l ok key = (
  λ e. (apart_iff P some key (pos 0)).0
      (sym (strip_rounds P some (equalized l.pattern) key) ∙ (one_home l entry).0 (given_same (sym lamp ∙ e)) ∙ sym (zero-mod P)),
  λ a. lamp
      ∙ ap given
      ((one_home l entry).1
      (strip_rounds P some (equalized l.pattern) key ∙ (apart_iff P some key (pos 0)).1 a ∙ zero-mod P)),
)
  where
    P : ℕ
    P = l.octave

    some : 0 < P
    some = (accepted r l ok).positive

    entry : ℕ
    entry = remainder key (strip_length_in l)

    lamp : get_lamp r key ≡ given (lamp_in l entry)
    lamp = sym (of_given r _ l (sym ok))

-- the two rules agree on a number that is 0 exactly where its remainder is
same_rule : (i P c : ℕ) → ((i ≡ 0) ↔ (i % P ≡ 0)) → pick (eqb (i % P) 0) 0 c ≡ pick (eqb i 0) 0 c
same_rule i P c iff = by (eqb i 0) refl
  where
    by : (b : Bool) → eqb i 0 ≡ b → pick (eqb (i % P) 0) 0 c ≡ pick b 0 c
    by true e = ap (λ (b : Bool). pick b 0 c) (eq-eqb (i % P) 0 (iff.0 (eqb-true i 0 e)))
    by false e = ap (λ (b : Bool). pick b 0 c) (ne_eqb (i % P) 0 (λ q. eqb-false i 0 e (iff.1 q)))

pub home_changes_one_entry : HomeChangesOneEntry
unfolding lamp_of
home_changes_one_entry r l ok =
    let some : 0 < P = (accepted r l ok).positive in
    record {
      at_octave =
          λ t. (
            subst (λ (b : Bool). P < pick b (2 * P) P) (sym t) (let q : P < 2 * P = omega arith in q),
            subst (λ (b : Bool). 0 < pick b 0 (lamp_code (kind_in l P))) (sym (ne_eqb P 0 (λ e. omega (arith, some, e)))) (code_above (kind_in l P)),
            (one_home l P).1 (mod_self P),
          );
      elsewhere = λ i h p. same_rule i P _ (λ z. ap (λ (k : ℕ). k % P) z ∙ zero-mod P, zero_of some i (short i h) p);
    }
  where
    P : ℕ
    P = l.octave

    short : (i : ℕ) → i < strip_length_in l → i < 2 * P
    short i h = by (equalized l.pattern) h
      where
        by : (b : Bool) → i < pick b (2 * P) P → i < 2 * P
        by true q = q
        by false q = omega arith

    zero_of : 0 < P → (i : ℕ) → i < 2 * P → (i ≡ P → ⊥) → i % P ≡ 0 → i ≡ 0
    zero_of some i h p e = by (equal_or_not i 0)
      where
        by : Dec (i ≡ 0) → i ≡ 0
        by (yes z) = z
        by (no z) = absurd (between P i h p z e)
