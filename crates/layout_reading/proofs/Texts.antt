-- Texts taken apart: what it tells that bytes stand at a text's front, that a byte stands there so often, or first at a place; and the
-- loops that count it.
use Prim.Native.Nat.{ℕ, zero, suc, ◌+◌, ◌-◌, ◌<◌, ◌≤◌}
use native.Mathlib.Nat.{le_of_suc-le-suc, not-suc-le-zero}
use native.Mathlib.Omega.{arith}
use mathlib.Core.Path.{◌≡◌, refl, sym, ap, ap₂, ◌∙◌, subst}
use mathlib.Core.Bool.{Bool, true, false, false≢true}
use mathlib.Core.Logic.{◌⊎◌, inl, inr}
use mathlib.Core.List.{List, [], ◌∷◌, ◌++◌}
use lib.Dec.{eqb, ltb}
use lib.ListN.{length, get_or, take, drop, replicate, length-append, length-drop, length-replicate}
use lib.Seq.{take_all, length-take-le}
use borrow.Author.Tests.{eq-eqb, ne_eqb, eqb-true, ltb-true, ltb-false}
use Rattle.std.specs.Prelude.{Some, None, position, not, cond}
use Rattle.std.specs.List.{prefix_len, position_or_len, take_while}
use Rattle.answer.specs.Choice.{pick}
use Rattle.notes.specs.Reading.{leading}
use Rattle.layout_reading.specs.Reading.{in_front, bytes_before}
use Rattle.layout_reading.specs.Parts.{Before, RunAt}

-- ---- a front

pub front_split : (bytes text : List ℕ) → in_front bytes text ≡ true → bytes ++ drop (length bytes) text ≡ text
unfolding in_front
front_split [] text e = refl
front_split (b ∷ bytes) [] e = absurd (false≢true e)
front_split (b ∷ bytes) (x ∷ text) e = by (eqb x b) refl e (front_split bytes text)
  where
    by : (k : Bool) → eqb x b ≡ k → pick k (in_front bytes text) false ≡ true
        → (in_front bytes text ≡ true → bytes ++ drop (length bytes) text ≡ text)
        → b ∷ (bytes ++ drop (length bytes) text) ≡ x ∷ text
    by true q h ih = ap₂ (λ (y : ℕ) (t : List ℕ). y ∷ t) (sym (eqb-true x b q)) (ih h)
    by false q h ih = absurd (false≢true h)

pub front_there : (bytes rest : List ℕ) → in_front bytes (bytes ++ rest) ≡ true
unfolding in_front
front_there [] rest = refl
front_there (b ∷ bytes) rest = rw (eq-eqb b b refl) (front_there bytes rest)

-- ---- a byte at the front, so often

pub leading_split : (b : ℕ) (text : List ℕ) → replicate (leading b text) b ++ drop (leading b text) text ≡ text
unfolding leading
leading_split b [] = refl
leading_split b (x ∷ text) = by (eqb x b) refl (leading_split b text)
  where
    by : (k : Bool) → eqb x b ≡ k → replicate (leading b text) b ++ drop (leading b text) text ≡ text
        → replicate (pick k (suc (leading b text)) 0) b ++ drop (pick k (suc (leading b text)) 0) (x ∷ text) ≡ x ∷ text
    by true q ih = ap₂ (λ (y : ℕ) (t : List ℕ). y ∷ t) (sym (eqb-true x b q)) ih
    by false q ih = refl

-- a text begins with one byte alone
pub one_leads : (b d : ℕ) (text : List ℕ) → (b ≡ d → ⊥) → (leading b text ≡ 0) ⊎ (leading d text ≡ 0)
unfolding leading
one_leads b d [] h = inl refl
one_leads b d (x ∷ text) h = by (eqb x b) refl
  where
    by : (k : Bool) → eqb x b ≡ k
        → (pick k (suc (leading b text)) 0 ≡ 0) ⊎ (pick (eqb x d) (suc (leading d text)) 0 ≡ 0)
    by false q = inl refl
    by true q = inr (rw (ne_eqb x d (λ e. h (sym (eqb-true x b q) ∙ e))) refl)

-- .. in std's words
leading_is : (b : ℕ) (text : List ℕ) → prefix_len (λ x. eqb x b) text ≡ leading b text
unfolding leading
leading_is b [] = refl
leading_is b (x ∷ text) = by (eqb x b) (leading_is b text)
  where
    by : (k : Bool) → prefix_len (λ y. eqb y b) text ≡ leading b text
        → cond k (1 + prefix_len (λ y. eqb y b) text) 0 ≡ pick k (suc (leading b text)) 0
    by true h = omega (arith, h)
    by false h = refl

leading_within : (b : ℕ) (text : List ℕ) → leading b text ≤ length text
leading_within b text =
    omega (arith, length-append (replicate (leading b text) b) (drop (leading b text) text), length-replicate {A = ℕ} (leading b text) b, ap length (leading_split b text))

pub run_at : (b at : ℕ) (text : List ℕ) → at ≤ length text → (n : ℕ)
    → n ≡ length (take_while (λ x. eqb x b) (take (length text - at) (drop at text))) → RunAt b at text n
run_at b at text h n e =
    let all : take (length text - at) (drop at text) ≡ drop at text = take_all (length text - at) (drop at text) (omega (arith, length-drop at text)) in
    let rest = drop at text in
    let inside = leading_within b rest in
    let is : n ≡ leading b rest =
    e ∙ ap (λ (xs : List ℕ). length (take_while (λ x. eqb x b) xs)) all
    ∙ (let m : prefix_len (λ x. eqb x b) rest ≤ length rest = rw (leading_is b rest) inside in length-take-le (prefix_len (λ x. eqb x b) rest) rest m)
    ∙ leading_is b rest in
    record { is = is; inside = omega (arith, is, inside, length-drop at text) }

-- ---- the first place of a byte, in std's words

place_is : (b : ℕ) (text : List ℕ) → position_or_len (λ x. eqb x b) text ≡ bytes_before b text
unfolding bytes_before
place_is b [] = refl
place_is b (x ∷ text) = by (eqb x b) (place_is b text)
  where
    by : (k : Bool) → position_or_len (λ y. eqb y b) text ≡ bytes_before b text
        → cond (not k) (1 + position_or_len (λ y. eqb y b) text) 0 ≡ pick k 0 (suc (bytes_before b text))
    by true h = refl
    by false h = omega (arith, h)

place_within : (b : ℕ) (text : List ℕ) → bytes_before b text ≤ length text
unfolding bytes_before
place_within b [] = omega arith
place_within b (x ∷ text) = by (eqb x b) (place_within b text)
  where
    by : (k : Bool) → bytes_before b text ≤ length text → pick k 0 (suc (bytes_before b text)) ≤ suc (length text)
    by true h = omega arith
    by false h = omega arith

module _ (b : ℕ) (text : List ℕ) where
  place_by : position (λ x. eqb x b) text ≡ cond (ltb (bytes_before b text) (length text)) (Some (bytes_before b text)) None
  place_by = ap (λ (n : ℕ). cond (ltb n (length text)) (Some n) None) (place_is b text)

  pub place_found : (p : ℕ) → Some p ≡ position (λ x. eqb x b) text → Before b text p × (p < length text)
  place_found p e = by (ltb (bytes_before b text) (length text)) refl (e ∙ place_by)
    where
      by : (k : Bool) → ltb (bytes_before b text) (length text) ≡ k → Some p ≡ cond k (Some (bytes_before b text)) None → Before b text p × (p < length text)
      by true q f =
          let is : p ≡ bytes_before b text = cc in
          let h = ltb-true (bytes_before b text) (length text) q in
          (record { is = is; inside = place_within_at p is }, rw is h)
        where
          place_within_at : (p : ℕ) → p ≡ bytes_before b text → p ≤ length text
          place_within_at p is = rw is (place_within b text)
      by false q f = absurd (let z : ◌≡◌ {A = ℕ} 0 1 = cc in omega arith)

  pub place_missing : None ≡ position (λ x. eqb x b) text → Before b text (length text)
  place_missing e = by (ltb (bytes_before b text) (length text)) refl (e ∙ place_by)
    where
      by : (k : Bool) → ltb (bytes_before b text) (length text) ≡ k → None ≡ cond k (Some (bytes_before b text)) None → Before b text (length text)
      by true q f = absurd (let z : ◌≡◌ {A = ℕ} 0 1 = cc in omega arith)
      by false q f = record { is = omega (arith, ltb-false (bytes_before b text) (length text) q, place_within b text); inside = omega arith }

-- ---- what stands at the place

pub placed : (b : ℕ) (text : List ℕ) → bytes_before b text < length text → get_or text (bytes_before b text) 0 ≡ b
unfolding bytes_before
placed b [] h = absurd (not-suc-le-zero h)
placed b (x ∷ text) h = by (eqb x b) refl h (placed b text)
  where
    by : (k : Bool) → eqb x b ≡ k → pick k 0 (suc (bytes_before b text)) < suc (length text)
        → (bytes_before b text < length text → get_or text (bytes_before b text) 0 ≡ b) → get_or (x ∷ text) (pick k 0 (suc (bytes_before b text))) 0 ≡ b
    by true q k ih = eqb-true x b q
    by false q k ih = ih (le_of_suc-le-suc k)

module _ (b : ℕ) (text : List ℕ) (p : ℕ) (at : Before b text p) (h : p < length text) where
  pub place_holds : get_or text p 0 ≡ b
  place_holds =
      ap (λ (k : ℕ). get_or text k 0) at.is ∙ placed b text (subst (λ (k : ℕ). k < length text) at.is h)

  -- so another byte at the front stands before it
  pub behind_front : (d : ℕ) → get_or text 0 0 ≡ d → (d ≡ b → ⊥) → 1 ≤ p
  behind_front d e n = by p place_holds
    where
      by : (k : ℕ) → get_or text k 0 ≡ b → 1 ≤ k
      by zero q = absurd (n (sym e ∙ q))
      by (suc k) q = omega arith
