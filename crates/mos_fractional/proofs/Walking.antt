-- The walk without its bound: one equation gives it from the walk of the child. What falls is 65,536 less the counts.
use Rattle.std.specs.Prelude.{Option, None, Some, slice_get}
use mathlib.Core.Path.{◌≡◌, refl, ap, sym, subst, ◌∙◌}
use mathlib.Core.List.{List, [], ◌∷◌}
use Prim.Native.Nat.{ℕ, zero, suc, ◌-◌, ◌≤◌, ◌<◌}
use native.Mathlib.Nat.{le_refl}
use native.Mathlib.Omega.{arith}
use lib.Dec.{lit<}
use lib.Ieee.{Float}
use lib.ListN.{length}
use Rattle.answer.specs.Outcome.{given}
use Rattle.mos_fractional.specs.declared.FractionalMos.{FractionalMos}
use Rattle.mos_fractional.specs.Fractional.{count_of, genesis, child_of}
use Rattle.mos_fractional.specs.Walk.{onward, walk, children, children_from}
use Rattle.mos_fractional.specs.Answers.{genesis_outcome}
use Rattle.mos_fractional.specs.Parts.{Growing}
use Rattle.mos_fractional.proofs.Descent.{told_genesis, child_at, child_counts, child_room, child_grows}

-- how many patterns may still come
abbrev pub left : FractionalMos → ℕ
left m = 65536 - count_of m

-- a child's counts are above 0 too, and fewer patterns may still come
module _ (m c : FractionalMos) (u : Growing m) (e : child_of m ≡ Some c) where
  pub growing_child : Growing c
  growing_child = (omega (arith, (child_counts (child_at e)).0, u.0), omega (arith, (child_counts (child_at e)).1, u.1))

  pub fewer_left : left c < left m
  fewer_left = omega (arith, child_room (child_at e), child_grows (child_at e) u.0 u.1)

pub growing_genesis : (g : Float) → Growing (genesis g)
unfolding genesis
growing_genesis g = (lit< tt, lit< tt)

pub growing_told : (g : Float) {m : FractionalMos} → given m ≡ genesis_outcome g → Growing m
growing_told g e = subst Growing (sym (told_genesis g e)) (growing_genesis g)

-- ---- one equation

module _ (m : FractionalMos) (u : Growing m) where
  same_rest : (f g : FractionalMos → List FractionalMos) (o : Option FractionalMos) → child_of m ≡ o
      → ((c : FractionalMos) → Growing c → left c < left m → f c ≡ g c) → onward o f ≡ onward o g
  same_rest f g None e h = refl
  same_rest f g (Some c) e h = h c (growing_child m c u e) (fewer_left m c u e)

  no_rest : (f : FractionalMos → List FractionalMos) (o : Option FractionalMos) → child_of m ≡ o → left m ≤ 0 → onward o f ≡ []
  no_rest f None e h = refl
  no_rest f (Some c) e h = absurd (let z : ⊥ = omega (arith, fewer_left m c u e) in z)

walk_enough : (k l : ℕ) (m : FractionalMos) → Growing m → left m ≤ k → left m ≤ l → walk k m ≡ walk l m
unfolding walk
walk_enough zero zero m u h h' = refl
walk_enough zero (suc l) m u h h' = ap (λ (r : List FractionalMos). m ∷ r) (sym (no_rest m u (walk l) (child_of m) refl h))
walk_enough (suc k) zero m u h h' = ap (λ (r : List FractionalMos). m ∷ r) (no_rest m u (walk k) (child_of m) refl h')
walk_enough (suc k) (suc l) m u h h' =
    ap (λ (r : List FractionalMos). m ∷ r)
    (same_rest m u (walk k) (walk l) (child_of m) refl (λ c v f. walk_enough k l c v (omega arith) (omega arith)))

module _ (m : FractionalMos) (u : Growing m) where
  pub children_follow : children m ≡ m ∷ onward (child_of m) children
  unfolding children walk
  children_follow =
      walk_enough (left m) (suc (left m)) m u (le_refl _) (omega arith)
      ∙ ap (λ (r : List FractionalMos). m ∷ r)
      (same_rest m u (walk (left m)) children (child_of m) refl (λ c v f. walk_enough (left m) (left c) c v (omega arith) (le_refl _)))

  pub children_next : (c : FractionalMos) → child_of m ≡ Some c → children m ≡ m ∷ children c
  children_next c e = children_follow ∙ ap (λ (o : Option FractionalMos). m ∷ onward o children) e

  pub children_end : child_of m ≡ None → children m ≡ m ∷ []
  children_end e = children_follow ∙ ap (λ (o : Option FractionalMos). m ∷ onward o children) e

  -- the k-th pattern, by what the code tests
  pub nth_here : (k : ℕ) → k ≡ 0 → Some m ≡ slice_get (children m) k
  nth_here k e = sym (ap (λ (n : ℕ). slice_get (children m) n) e ∙ ap (λ (l : List FractionalMos). slice_get l 0) children_follow)

  pub nth_end : (k : ℕ) → (k ≡ 0 → ⊥) → child_of m ≡ None → None ≡ slice_get (children m) k
  nth_end zero d e = absurd (d refl)
  nth_end (suc k) d e = sym (ap (λ (l : List FractionalMos). slice_get l (suc k)) (children_end e))

  pub nth_next : (c : FractionalMos) (k j : ℕ) → child_of m ≡ Some c → k ≡ suc j → slice_get (children c) j ≡ slice_get (children m) k
  nth_next c k j e f =
      sym (ap (λ (l : List FractionalMos). slice_get l (suc j)) (children_next c e)) ∙ ap (λ (n : ℕ). slice_get (children m) n) (sym f)

  -- how many there are
  pub length_next : (c : FractionalMos) → child_of m ≡ Some c → length (children m) ≡ suc (length (children c))
  length_next c e = ap length (children_next c e)

  pub length_end : child_of m ≡ None → length (children m) ≡ 1
  length_end e = ap length (children_end e)

  pub length_some : 0 < length (children m)
  length_some = omega (arith, ap length children_follow)

-- a walk is no longer than its bound
rest_length : (k : ℕ) (o : Option FractionalMos) → ((c : FractionalMos) → length (walk k c) ≤ suc k) → length (onward o (walk k)) ≤ suc k
rest_length k None h = omega arith
rest_length k (Some c) h = h c

walk_length : (k : ℕ) (m : FractionalMos) → length (walk k m) ≤ suc k
unfolding walk
walk_length zero m = le_refl 1
walk_length (suc k) m = let h : length (onward (child_of m) (walk k)) ≤ suc k = rest_length k (child_of m) (walk_length k) in omega (arith, h)

pub from_length : (g : Float) → length (children_from g) ≤ 65535
unfolding children genesis
from_length g = walk_length 65534 (genesis g)
