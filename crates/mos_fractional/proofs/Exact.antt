-- Where the generator is k 65,536ths, k below 65,536, the walk is that of period 65,536 and generator k: no subtraction loses anything, and
-- no count passes 65,535.
use Rattle.std.specs.Prelude.{Option, None, Some, slice_get}
use mathlib.Core.Path.{◌≡◌, refl, ap, sym, subst, ◌∙◌}
use mathlib.Core.List.{List, [], ◌∷◌}
use Prim.Native.Nat.{ℕ, zero, suc, ◌+◌, ◌*◌, ◌-◌, ◌%◌, ◌≤◌, ◌<◌}
use native.Mathlib.Nat.{le_refl, le_of_eq, le_of_lt, le_trans, lt_of_le_of_lt, lt_of_lt_of_le, mul-pos, mul-one, one-mul, zero-mul, mul_comm, mul-le-mul_left, mul-lt-mul_of_pos_right, lt_of_mul-lt-mul_right, eq_of_mul-eq-mul_right, mod-eq_of_lt, add-zero, le-mul_of_pos_right, pos_of_ne-zero}
use native.Mathlib.Omega.{arith}
use mathlib.Core.Bool.{Bool, true, false}
use lib.IntN.{ℤ}
use lib.Dec.{eqb, ltb, lit<, eqb-suc-zero}
use lib.ListN.{length}
use lib.Ieee.{Float, nan, inf, fin, binary64, up, down, round, sum, add, neg, sub, rem, lt, eq, level, below}
use lib.Arith.{lt_of_le-ne}
use lib.Ieee.Exact.{HasValue}
use lib.Ieee.Fits.{down_pos}
use lib.Ieee.Positive.{first_pos}
use borrow.Author.Tests.{lt-ltb, le-ltb, ltb-true, ltb-false, ne_eqb, eqb-false}
use Rattle.mos.specs.declared.Mos.{Mos}
use Rattle.mos.specs.Patterns as whole
use Rattle.mos.specs.Walks as whole-walk
use Rattle.mos.proofs.Descent as whole-child
use Rattle.mos.proofs.Sequences as whole-sequence
use Rattle.mos_fractional.specs.declared.FractionalMos.{FractionalMos}
use Rattle.mos_fractional.specs.Fractional.{primary, secondary, count_of, nought, one, first_step_of, genesis, child_of}
use Rattle.mos_fractional.specs.Walk.{onward, children, children_from}
use Rattle.mos_fractional.specs.WholeParts.{Parts, Same}
use Rattle.mos_fractional.specs.Parts.{Growing}
use Rattle.mos_fractional.proofs.Descent.{kept, no_primary, no_secondary, full, longer_primary, longer_secondary, none_longer}
use Rattle.mos_fractional.proofs.Walking.{growing_genesis, children_follow, growing_child}
use Rattle.mos_fractional.proofs.Rounding.{round_parts, parts_of, positive_parts, sub_parts, lt_parts}

-- ---- zeros
none_left : (m : ℕ) (e : ℤ) (k : ℕ) → m * up e * 65536 ≡ k * down e → k ≡ 0 → m * up e ≡ 0
none_left m e k h z =
    eq_of_mul-eq-mul_right 65536 (lit< tt) (m * up e) 0 (h ∙ ap (λ (x : ℕ). x * down e) z ∙ zero-mul (down e) ∙ sym (zero-mul 65536))

some_left : (m : ℕ) (e : ℤ) (k : ℕ) → m * up e * 65536 ≡ k * down e → 0 < k → 0 < m * up e
some_left m e k h z = first_pos (m * up e) 65536 (subst (λ (x : ℕ). 0 < x) (sym h) (mul-pos z (down_pos e)))

level_zero : (s : Bool) (a b : ℕ) → a ≡ 0 → b ≡ 0 → level s a false b ≡ true
level_zero true a b h i = simp (h, i)
level_zero false a b h i = simp (h, i)

level_some : (s : Bool) (a b : ℕ) → 0 < a → b ≡ 0 → level s a false b ≡ false
level_some s a b h i = simp (ne_eqb a b (λ q. omega arith))

-- a step is 0 where the whole-number step is
pub eq_parts : (x : Float) (k : ℕ) → Parts x k → eq x nought ≡ eqb k 0
unfolding eq
eq_parts nan k h = absurd h
eq_parts (inf s) k h = absurd h
eq_parts (fin s m e) zero h =
    level_zero s (m * up e * 1) (0 * 1 * down e) (mul-one (m * up e) ∙ none_left m e 0 h.0 refl) (zero-mul (down e))
eq_parts (fin s m e) (suc k) h =
    level_some s (m * up e * 1) (0 * 1 * down e)
    (lt_of_lt_of_le (some_left m e (suc k) h.0 (omega arith)) (le_of_eq (sym (mul-one (m * up e))))) (zero-mul (down e))
    ∙ sym (eqb-suc-zero k)

below_none : (s : Bool) (a b : ℕ) → b ≡ 0 → (s ≡ true → a ≡ 0) → below s a false b ≡ false
below_none true a b h z = le-ltb 0 (a + b) (let y : a ≡ 0 = z refl in omega arith)
below_none false a b h z = le-ltb a b (omega arith)

-- no step is below 0
pub not_below : (x : Float) (k : ℕ) → Parts x k → lt x nought ≡ false
unfolding lt
not_below nan k h = absurd h
not_below (inf s) k h = absurd h
not_below (fin s m e) k h =
    below_none s (m * up e * 1) (0 * 1 * down e) (zero-mul (down e)) (λ q. mul-one (m * up e) ∙ none_left m e k h.0 (h.1 q))

-- ---- the genesis
sign_of : Float → Bool
sign_of nan = false
sign_of (inf s) = s
sign_of (fin s m e) = s

-- the remainder of what is below 1
rem_small : (s : Bool) (m : ℕ) (e : ℤ) → m * up e < down e → rem binary64 (fin s m e) one ≡ round binary64 s (m * up e) (down e)
unfolding rem
rem_small s m e h = simp (mul-one, one-mul, mod-eq_of_lt h)

rem_parts : (x : Float) (k : ℕ) → Parts x k → k < 65536 → Parts (rem binary64 x one) k
rem_parts nan k h l = absurd h
rem_parts (inf s) k h l = absurd h
rem_parts (fin s m e) k h l =
    let small : m * up e < down e = lt_of_mul-lt-mul_right 65536 (lt_of_le_of_lt (le_of_eq h.0) (lt_of_lt_of_le (mul-lt-mul_of_pos_right l (down_pos e)) (le_of_eq (mul_comm 65536 (down e))))) in
    subst (λ (z : Float). Parts z k) (sym (rem_small s m e small))
    (parts_of (round binary64 s (m * up e) (down e)) s k (round_parts s (m * up e) (down e) k (down_pos e) (le_of_lt l) h.0) h.1)

-- 1 less a zero of either sign
from_one : (m : ℕ) (e : ℤ) → m * up e ≡ 0 → sub binary64 one (fin true m e) ≡ round binary64 false (down e) (down e)
unfolding sub add neg sum
from_one m e h = simp (one-mul, mul-one, h, add-zero)

rest_parts : (x : Float) (k : ℕ) → Parts x k → k < 65536 → Parts (sub binary64 one x) (65536 - k)
rest_parts nan k h l = absurd h
rest_parts (inf s) k h l = absurd h
rest_parts (fin false m e) k h l =
    parts_of (sub binary64 one (fin false m e)) false (65536 - k)
    (sub_parts one (fin false m e) 65536 k (refl, refl) (refl, h.0) (le_of_lt l) (le_of_eq refl))
    (λ q. absurd (let z : ◌≡◌ {A = ℕ} 0 1 = cc in omega arith))
rest_parts (fin true m e) k h l =
    let z : k ≡ 0 = h.1 refl in
    subst (λ (y : Float). Parts y (65536 - k)) (sym (from_one m e (none_left m e k h.0 z)))
    (subst (λ (n : ℕ). Parts (round binary64 false (down e) (down e)) n) (let w : 65536 ≡ 65536 - k = omega arith in w)
    (parts_of (round binary64 false (down e) (down e)) false 65536
    (round_parts false (down e) (down e) 65536 (down_pos e) (le_of_eq refl) (mul_comm (down e) 65536))
    (λ q. absurd (let y : ◌≡◌ {A = ℕ} 0 1 = cc in omega arith))))

pub genesis_same : (g : Float) (k : ℕ) → Parts g k → k < 65536 → Same (genesis g) (whole.genesis 65536 k)
unfolding genesis
genesis_same g k h l =
    let r : Parts (rem binary64 g one) k = rem_parts g k h l in
    let f : first_step_of g ≡ rem binary64 g one = kept g (not_below (rem binary64 g one) k r) in
    let a : Parts (first_step_of g) k = subst (λ (z : Float). Parts z k) (sym f) r in
    let e : k % 65536 ≡ k = mod-eq_of_lt l in
    record {
      first_count = refl;
      second_count = refl;
      first_step = subst (λ (n : ℕ). Parts (first_step_of g) n) (sym e) a;
      second_step = subst (λ (n : ℕ). Parts (sub binary64 one (first_step_of g)) (65536 - n)) (sym e) (rest_parts (first_step_of g) k a l);
    }

-- ---- the child
lt_of_ne : (a b : ℕ) → a ≤ b → (a ≡ b → ⊥) → a < b
lt_of_ne a b h d = lt_of_le-ne h d

-- no count of a pattern of this size passes 65,535: where the counts sum to more, both steps are 1
not_full : (m : Mos) → whole.size_of m ≡ 65536 → 0 < whole.primaries m → 0 < whole.secondaries m → 0 < whole.primary m
    → 0 < whole.secondary m → (whole.primary m ≡ whole.secondary m → ⊥) → whole.primaries m + whole.secondaries m ≤ 65535
unfolding whole.size_of
not_full m z p s a b d = go (ltb 65535 (whole.primaries m + whole.secondaries m)) refl
  where
    go : (t : Bool) → ltb 65535 (whole.primaries m + whole.secondaries m) ≡ t → whole.primaries m + whole.secondaries m ≤ 65535
    go false q = ltb-false 65535 (whole.primaries m + whole.secondaries m) q
    go true q = by (ltb (whole.primary m) (whole.secondary m)) refl
      where
        by : (t : Bool) → ltb (whole.primary m) (whole.secondary m) ≡ t → whole.primaries m + whole.secondaries m ≤ 65535
        by true w =
            let two : 2 ≤ whole.secondary m = omega (arith, ltb-true (whole.primary m) (whole.secondary m) w) in
            absurd
            (omega
            (arith, ltb-true 65535 (whole.primaries m + whole.secondaries m) q, le-mul_of_pos_right (whole.primaries m) a, mul-le-mul_left (whole.secondaries m) two))
        by false w =
            let two : 2 ≤ whole.primary m = lt_of_le_of_lt b (lt_of_ne (whole.secondary m) (whole.primary m) (ltb-false (whole.primary m) (whole.secondary m) w) (λ y. d (sym y))) in
            absurd
            (omega
            (arith, ltb-true 65535 (whole.primaries m + whole.secondaries m) q, le-mul_of_pos_right (whole.secondaries m) b, mul-le-mul_left (whole.primaries m) two))

-- a step of a pattern of this size is at most 65,536
step_bound : (m : Mos) → whole.size_of m ≡ 65536 → 0 < whole.primaries m → 0 < whole.secondaries m
    → (whole.primary m ≤ 65536) × (whole.secondary m ≤ 65536)
unfolding whole.size_of
step_bound m z p s =
    let a : whole.primary m ≤ whole.primaries m * whole.primary m = le_trans (le-mul_of_pos_right (whole.primary m) p) (le_of_eq (mul_comm (whole.primary m) (whole.primaries m))) in
    let b : whole.secondary m ≤ whole.secondaries m * whole.secondary m = le_trans (le-mul_of_pos_right (whole.secondary m) s) (le_of_eq (mul_comm (whole.secondary m) (whole.secondaries m))) in
    (omega arith, omega arith)

-- both have a child, which agree, or neither has
abbrev SameChild : Option FractionalMos → Option Mos → Type 0
SameChild None None = Unit {0}
SameChild None (Some m) = ⊥
SameChild (Some x) None = ⊥
SameChild (Some x) (Some m) = Same x m

-- what the walks keep
record Along (x : FractionalMos) (m : Mos) : Type 0 where
  same : Same x m
  size : whole.size_of m ≡ 65536
  growing : Growing x

module _ (x : FractionalMos) (m : Mos) (along : Along x m) where
  abbrev p : ℕ
  p = whole.primary m

  abbrev s : ℕ
  s = whole.secondary m

  counts : (0 < whole.primaries m) × (0 < whole.secondaries m)
  counts = (omega (arith, along.growing.0, along.same.first_count), omega (arith, along.growing.1, along.same.second_count))

  positive_primary : 0 < p → HasValue (primary x) false p 65536
  positive_primary h = positive_parts (primary x) p along.same.first_step h

  positive_secondary : 0 < s → HasValue (secondary x) false s 65536
  positive_secondary h = positive_parts (secondary x) s along.same.second_step h

  some_primary : 0 < p → eq (primary x) nought ≡ false
  some_primary h = eq_parts (primary x) p along.same.first_step ∙ ne_eqb p 0 (λ q. omega arith)

  some_secondary : 0 < s → eq (secondary x) nought ≡ false
  some_secondary h = eq_parts (secondary x) s along.same.second_step ∙ ne_eqb s 0 (λ q. omega arith)

  not_cut : 0 < p → 0 < s → (p ≡ s → ⊥) → count_of x ≤ 65535
  not_cut a b d = omega (arith, not_full m along.size counts.0 counts.1 a b d, along.same.first_count, along.same.second_count)

  child_same : {o : Option Mos} → whole-child.Child m o → SameChild (child_of x) o
  child_same (whole-child.longer_primary b l) =
      let a : 0 < p = omega arith in
      let A = positive_primary a in
      let B = positive_secondary b in
      subst (λ (o : Option FractionalMos). SameChild o (Some (whole.mos (whole.primaries m) (whole.count_of m) (p - s) s)))
      (longer_primary x (some_primary a) (some_secondary b) (not_cut a b (λ q. omega arith))
      (lt_parts (secondary x) (primary x) s p B A ∙ lt-ltb s p l))
      (record {
        first_count = along.same.first_count;
        second_count = omega (arith, along.same.first_count, along.same.second_count);
        first_step =
            parts_of (sub binary64 (primary x) (secondary x)) false (p - s)
            (sub_parts (primary x) (secondary x) p s A B (le_of_lt l) (step_bound m along.size counts.0 counts.1).0)
            (λ q. absurd (let y : ◌≡◌ {A = ℕ} 0 1 = cc in omega arith));
        second_step = along.same.second_step;
      })
  child_same (whole-child.longer_secondary a l) =
      let b : 0 < s = omega arith in
      let A = positive_primary a in
      let B = positive_secondary b in
      subst (λ (o : Option FractionalMos). SameChild o (Some (whole.mos (whole.count_of m) (whole.secondaries m) p (s - p))))
      (longer_secondary x (some_primary a) (some_secondary b) (not_cut a b (λ q. omega arith))
      (lt_parts (secondary x) (primary x) s p B A ∙ le-ltb s p (le_of_lt l))
      (lt_parts (primary x) (secondary x) p s A B ∙ lt-ltb p s l))
      (record {
        first_count = omega (arith, along.same.first_count, along.same.second_count);
        second_count = along.same.second_count;
        first_step = along.same.first_step;
        second_step =
            parts_of (sub binary64 (secondary x) (primary x)) false (s - p)
            (sub_parts (secondary x) (primary x) s p B A (le_of_lt l) (step_bound m along.size counts.0 counts.1).1)
            (λ q. absurd (let y : ◌≡◌ {A = ℕ} 0 1 = cc in omega arith));
      })
  child_same (whole-child.no_child h) = subst (λ (o : Option FractionalMos). SameChild o None) (go (eqb p 0) refl (eqb s 0) refl) tt
    where
      go : (u : Bool) → eqb p 0 ≡ u → (v : Bool) → eqb s 0 ≡ v → None ≡ child_of x
      go true e v f = no_primary x (eq_parts (primary x) p along.same.first_step ∙ e)
      go false e true f =
          no_secondary x (eq_parts (primary x) p along.same.first_step ∙ e) (eq_parts (secondary x) s along.same.second_step ∙ f)
      go false e false f = equal (pos_of_ne-zero (eqb-false _ _ e)) (pos_of_ne-zero (eqb-false _ _ f))
        where
          equal : 0 < p → 0 < s → None ≡ child_of x
          equal a b = full_or (ltb 65535 (count_of x)) refl
            where
              full_or : (t : Bool) → ltb 65535 (count_of x) ≡ t → None ≡ child_of x
              full_or true w = full x (some_primary a) (some_secondary b) (ltb-true 65535 (count_of x) w)
              full_or false w =
                  none_longer x (some_primary a) (some_secondary b) (ltb-false 65535 (count_of x) w)
                  (lt_parts (secondary x) (primary x) s p (positive_secondary b) (positive_primary a) ∙ le-ltb s p (le_of_eq (h a b)))
                  (lt_parts (primary x) (secondary x) p s (positive_primary a) (positive_secondary b) ∙ le-ltb p s (le_of_eq (sym (h a b))))

-- ---- the walk

-- patterns of two walks agree, and both end together
abbrev SameWalk : List FractionalMos → List Mos → Type 0
SameWalk [] [] = Unit {0}
SameWalk [] (m ∷ ms) = ⊥
SameWalk (x ∷ xs) [] = ⊥
SameWalk (x ∷ xs) (m ∷ ms) = Same x m × SameWalk xs ms

same_rest : (x : FractionalMos) (m : Mos) → Along x m → (o : Option FractionalMos) (w : Option Mos) → child_of x ≡ o → whole.child_of m ≡ w
    → SameChild o w
    → ((y : FractionalMos) (c : Mos) → Along y c → whole.steps_of c < whole.steps_of m → SameWalk (children y) (whole-walk.children c))
    → SameWalk (onward o children) (whole-walk.onward w whole-walk.children)
same_rest x m along None None e f h ih = tt
same_rest x m along None (Some c) e f h ih = absurd h
same_rest x m along (Some y) None e f h ih = absurd h
same_rest x m along (Some y) (Some c) e f h ih =
    ih y c
    (record { same = h; size = whole-child.child_keeps_size (whole-child.child_at f) ∙ along.size; growing = growing_child x y along.growing e })
    (whole-child.child_falls (whole-child.child_at f))

-- by the fall of the whole-number steps
walk_step : (x : FractionalMos) (m : Mos) → Along x m
    → ((y : FractionalMos) (c : Mos) → Along y c → whole.steps_of c < whole.steps_of m → SameWalk (children y) (whole-walk.children c))
    → SameWalk (children x) (whole-walk.children m)
walk_step x m along ih =
    subst (λ (xs : List FractionalMos). SameWalk xs (whole-walk.children m)) (sym (children_follow x along.growing))
    (subst (λ (ms : List Mos). SameWalk (x ∷ onward (child_of x) children) ms) (sym (whole-sequence.children_follow m))
    (along.same, same_rest x m along (child_of x) (whole.child_of m) refl refl (child_same x m along (whole-child.child_view m)) ih))

walk_within : (k : ℕ) (x : FractionalMos) (m : Mos) → Along x m → whole.steps_of m ≤ k → SameWalk (children x) (whole-walk.children m)
walk_within zero x m along l = walk_step x m along (λ y c a f. absurd (let z : ⊥ = omega arith in z))
walk_within (suc k) x m along l = walk_step x m along (λ y c a f. walk_within k y c a (omega arith))

genesis_size : (k : ℕ) → whole.size_of (whole.genesis 65536 k) ≡ 65536
unfolding whole.size_of
genesis_size k = omega arith

walk_same : (g : Float) (k : ℕ) → Parts g k → k < 65536 → SameWalk (children_from g) (whole-walk.children (whole.genesis 65536 k))
walk_same g k h l =
    walk_within _ (genesis g) (whole.genesis 65536 k)
    (record { same = genesis_same g k h l; size = genesis_size k; growing = growing_genesis g }) (le_refl _)

-- ---- what it says of the patterns
length_same : (xs : List FractionalMos) (ms : List Mos) → SameWalk xs ms → length xs ≡ length ms
length_same [] [] h = refl
length_same [] (m ∷ ms) h = absurd h
length_same (x ∷ xs) [] h = absurd h
length_same (x ∷ xs) (m ∷ ms) h = ap suc (length_same xs ms h.1)

at_same : (xs : List FractionalMos) (ms : List Mos) → SameWalk xs ms → (j : ℕ) (x : FractionalMos) (m : Mos) → slice_get xs j ≡ Some x
    → slice_get ms j ≡ Some m → Same x m
at_same [] ms h j x m e f = absurd (let z : ◌≡◌ {A = ℕ} 0 1 = cc in omega arith)
at_same (y ∷ xs) [] h j x m e f = absurd h
at_same (y ∷ xs) (c ∷ ms) h zero x m e f =
    let d : y ≡ x = cc in
    let q : c ≡ m = cc in
    subst (λ (z : FractionalMos). Same z m) d (subst (λ (z : Mos). Same y z) q h.0)
at_same (y ∷ xs) (c ∷ ms) h (suc j) x m e f = at_same xs ms h.1 j x m e f

module _ (g : Float) (k : ℕ) (h : Parts g k) (l : k < 65536) where
  pub walks_equally_long : length (children_from g) ≡ length (whole-walk.children (whole.genesis 65536 k))
  walks_equally_long = length_same (children_from g) (whole-walk.children (whole.genesis 65536 k)) (walk_same g k h l)

  pub patterns_agree : (j : ℕ) (x : FractionalMos) (m : Mos) → slice_get (children_from g) j ≡ Some x
      → slice_get (whole-walk.children (whole.genesis 65536 k)) j ≡ Some m → Same x m
  patterns_agree = at_same (children_from g) (whole-walk.children (whole.genesis 65536 k)) (walk_same g k h l)
