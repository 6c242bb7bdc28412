-- Walks without their bounds: where a number falls with each pattern, one equation gives a walk from the walk of what comes next.
use Rattle.std.specs.Prelude.{Option, None, Some, slice_get, is_some, MatchOption, IsSomeAnd}
use Rattle.mos.specs.declared.pattern.Pattern.{Pattern}
use mathlib.Core.Path.{◌≡◌, refl, ap, sym, ◌∙◌}
use mathlib.Core.Bool.{false}
use mathlib.Core.List.{List, [], ◌∷◌}
use Prim.Native.Nat.{ℕ, zero, suc, ◌+◌, ◌*◌, ◌-◌, ◌≤◌, ◌<◌}
use native.Mathlib.Nat.{le_refl}
use native.Mathlib.Omega.{arith}
use lib.ListN.{length}
use Rattle.mos.specs.declared.Mos.{Mos}
use Rattle.mos.specs.Patterns.{count_of, steps_of, child_of, parent_of}
use Rattle.mos.specs.Walks.{onward, walk, children, parents, last_after, genesis_of, listed}
use Rattle.mos.proofs.Descent.{child_at, child_falls, parent_falls}

-- ---- any walk, with the number that falls

module _ (next : Mos → Option Mos) (left : Mos → ℕ) (falls : (m c : Mos) → next m ≡ Some c → left c < left m) where
  same_rest : (m : Mos) (f g : Mos → List Mos) (o : Option Mos) → next m ≡ o → ((c : Mos) → left c < left m → f c ≡ g c) → onward o f ≡ onward o g
  same_rest m f g None e h = refl
  same_rest m f g (Some c) e h = h c (falls m c e)

  no_rest : (m : Mos) (f : Mos → List Mos) (o : Option Mos) → next m ≡ o → left m ≤ 0 → onward o f ≡ []
  no_rest m f None e h = refl
  no_rest m f (Some c) e h = absurd (let z : ⊥ = omega (arith, falls m c e) in z)

  walk_enough : (k l : ℕ) (m : Mos) → left m ≤ k → left m ≤ l → walk next k m ≡ walk next l m
  unfolding walk
  walk_enough zero zero m h h' = refl
  walk_enough zero (suc l) m h h' = ap (λ (r : List Mos). m ∷ r) (sym (no_rest m (walk next l) (next m) refl h))
  walk_enough (suc k) zero m h h' = ap (λ (r : List Mos). m ∷ r) (no_rest m (walk next k) (next m) refl h')
  walk_enough (suc k) (suc l) m h h' =
      ap (λ (r : List Mos). m ∷ r)
      (same_rest m (walk next k) (walk next l) (next m) refl (λ c f. walk_enough k l c (omega arith) (omega arith)))

  pub walk_follows : (m : Mos) → walk next (left m) m ≡ m ∷ onward (next m) (λ c. walk next (left c) c)
  unfolding walk
  walk_follows m =
      walk_enough (left m) (suc (left m)) m (le_refl _) (omega arith)
      ∙ ap (λ (r : List Mos). m ∷ r)
      (same_rest m (walk next (left m)) (λ c. walk next (left c) c) (next m) refl
      (λ c f. walk_enough (left m) (left c) c (omega arith) (le_refl _)))

-- ---- the two walks

pub children_follow : (m : Mos) → children m ≡ m ∷ onward (child_of m) children
unfolding children
children_follow m = walk_follows child_of steps_of (λ m c e. child_falls (child_at e)) m

pub parents_follow : (m : Mos) → parents m ≡ m ∷ onward (parent_of m) parents
unfolding parents
parents_follow m = walk_follows parent_of count_of parent_falls m

pub children_next : (m c : Mos) → child_of m ≡ Some c → children m ≡ m ∷ children c
children_next m c e = children_follow m ∙ ap (λ (o : Option Mos). m ∷ onward o children) e

pub children_end : (m : Mos) → child_of m ≡ None → children m ≡ m ∷ []
children_end m e = children_follow m ∙ ap (λ (o : Option Mos). m ∷ onward o children) e

pub parents_next : (m q : Mos) → parent_of m ≡ Some q → parents m ≡ m ∷ parents q
parents_next m q e = parents_follow m ∙ ap (λ (o : Option Mos). m ∷ onward o parents) e

pub parents_end : (m : Mos) → parent_of m ≡ None → parents m ≡ m ∷ []
parents_end m e = parents_follow m ∙ ap (λ (o : Option Mos). m ∷ onward o parents) e

-- ---- positions

pub nth_later : (m : Mos) (l : List Mos) (k : ℕ) → (k ≡ 0 → ⊥) → slice_get l (k - 1) ≡ slice_get (m ∷ l) k
nth_later m l zero h = absurd (h refl)
nth_later m l (suc k) h = ap (slice_get l) (omega arith)

nth_none : (m : Mos) (k : ℕ) → (k ≡ 0 → ⊥) → None ≡ slice_get (m ∷ []) k
nth_none m zero h = absurd (h refl)
nth_none m (suc k) h = refl

pub none_of : (o : Option Mos) → is_some o ≡ false → o ≡ None
none_of None e = refl
none_of (Some m) e = absurd (let z : ◌≡◌ {A = ℕ} 0 1 = cc in omega arith)

nth_zero : (m : Mos) (k : ℕ) → k ≡ 0 → (l : List Mos) → Some m ≡ slice_get (m ∷ l) k
nth_zero m k e l = sym (ap (slice_get (m ∷ l)) e)

-- the k-th child, by what the code tests
module _ (m : Mos) (k : ℕ) where
  pub child_here : k ≡ 0 → Some m ≡ slice_get (children m) k
  child_here e = nth_zero m k e (onward (child_of m) children) ∙ ap (λ (l : List Mos). slice_get l k) (sym (children_follow m))

  pub child_later : (c : Mos) → (k ≡ 0 → ⊥) → child_of m ≡ Some c → slice_get (children c) (k - 1) ≡ slice_get (children m) k
  child_later c h e = nth_later m (children c) k h ∙ ap (λ (l : List Mos). slice_get l k) (sym (children_next m c e))

  pub child_never : (k ≡ 0 → ⊥) → is_some (child_of m) ≡ false → None ≡ slice_get (children m) k
  child_never h e = nth_none m k h ∙ ap (λ (l : List Mos). slice_get l k) (sym (children_end m (none_of _ e)))

  pub parent_here : k ≡ 0 → Some m ≡ slice_get (parents m) k
  parent_here e = nth_zero m k e (onward (parent_of m) parents) ∙ ap (λ (l : List Mos). slice_get l k) (sym (parents_follow m))

  pub parent_later : (q : Mos) → (k ≡ 0 → ⊥) → parent_of m ≡ Some q → slice_get (parents q) (k - 1) ≡ slice_get (parents m) k
  parent_later q h e = nth_later m (parents q) k h ∙ ap (λ (l : List Mos). slice_get l k) (sym (parents_next m q e))

  pub parent_never : (k ≡ 0 → ⊥) → is_some (parent_of m) ≡ false → None ≡ slice_get (parents m) k
  parent_never h e = nth_none m k h ∙ ap (λ (l : List Mos). slice_get l k) (sym (parents_end m (none_of _ e)))

-- ---- the last parent

pub genesis_here : (m : Mos) → is_some (parent_of m) ≡ false → m ≡ genesis_of m
unfolding genesis_of
genesis_here m e = sym (ap (last_after m) (parents_end m (none_of _ e)))

pub genesis_next : (m q : Mos) → parent_of m ≡ Some q → genesis_of q ≡ genesis_of m
unfolding genesis_of
genesis_next m q e =
    ap (last_after q) (parents_follow q)
    ∙ sym (ap (last_after m) (parents_next m q e) ∙ ap (last_after m) (parents_follow q))

-- ---- lengths

pub children_count : (m c : Mos) → child_of m ≡ Some c → length (children c) + 1 ≡ length (children m)
children_count m c e = omega (arith, ap length (children_next m c e))

pub parents_count : (m q : Mos) → parent_of m ≡ Some q → length (parents q) + 1 ≡ length (parents m)
parents_count m q e = omega (arith, ap length (parents_next m q e))

pub children_one : (m : Mos) → is_some (child_of m) ≡ false → 1 ≡ length (children m)
children_one m e = sym (ap length (children_end m (none_of _ e)))

pub parents_one : (m : Mos) → is_some (parent_of m) ≡ false → 1 ≡ length (parents m)
parents_one m e = sym (ap length (parents_end m (none_of _ e)))

length_rest : (b : ℕ) (f : Mos → List Mos) (o : Option Mos) → ((c : Mos) → length (f c) ≤ b) → length (onward o f) ≤ b
length_rest b f None h = omega arith
length_rest b f (Some c) h = h c

length_walk : (next : Mos → Option Mos) (k : ℕ) (m : Mos) → length (walk next k m) ≤ k + 1
unfolding walk
length_walk next zero m = omega arith
length_walk next (suc k) m = omega (arith, length_rest (k + 1) (walk next k) (next m) (length_walk next k))

pub children_few : (m : Mos) → length (children m) ≤ steps_of m + 1
unfolding children
children_few m = length_walk child_of (steps_of m) m

pub parents_few : (m : Mos) → length (parents m) ≤ count_of m + 1
unfolding parents
parents_few m = length_walk parent_of (count_of m) m

-- ---- listings

pub length_listed : (ms : List Mos) → length (listed ms) ≡ length ms * 4
length_listed [] = refl
length_listed (m ∷ ms) = omega (arith, length_listed ms)

pub children_some : (m : Mos) → 1 ≤ length (children m)
children_some m = omega (arith, ap length (children_follow m))

pub parents_some : (m : Mos) → 1 ≤ length (parents m)
parents_some m = omega (arith, ap length (parents_follow m))

-- what `map` makes of a pattern's child or parent
pub mapped : (o : Option Pattern) (r w : Option Mos) {Made : Pattern → Mos → Type 0} → MatchOption o (r ≡ None) (λ x. IsSomeAnd r (λ y. Made x y)) → ((x : Pattern) (y : Mos) → Made x y → y ≡ x.mos)
    → MatchOption o (w ≡ None) (λ x. w ≡ Some x.mos) → r ≡ w
mapped None r w h made e = h ∙ sym e
mapped (Some x) (Some y) w h made e = ap Some (made x y h) ∙ sym e
mapped (Some x) None w h made e = absurd h
