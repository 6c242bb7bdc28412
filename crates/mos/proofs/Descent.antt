-- The three ways to a child, each with what holds there: one look decides each law in a line or two. Parents by the dual.
use Rattle.std.specs.Prelude.{Option, None, Some, option_map, is_some}
use mathlib.Core.Path.{◌≡◌, refl, ap, sym, subst, ◌∙◌}
use mathlib.Core.Bool.{Bool, true, false, not}
use Prim.Native.Nat.{ℕ, ◌-◌, ◌≤◌, ◌<◌}
use native.Mathlib.Nat.{pos_of_ne-zero, le_of_lt, mul-le-mul_left, mul-sub, add-mul}
use native.Mathlib.Omega.{arith}
use lib.Dec.{eqb, ltb}
use borrow.Author.Tests.{ltb-true, ltb-false, eqb-true, eqb-false, lt-ltb, le-ltb, eq-eqb, ne_eqb}
use Rattle.answer.specs.Choice.{pick}
use Rattle.mos.specs.declared.Mos.{Mos}
use Rattle.mos.specs.Patterns.{mos, primaries, secondaries, primary, secondary, count_of, steps_of, size_of, is_pattern, child_of, dual_of, parent_of}
use Rattle.mos.proofs.Sizes.{pattern_same, pattern_fits, counts_fit, dual_size}

pub data Child (m : Mos) : Option Mos → Type 0 where
  no_child : (0 < primary m → 0 < secondary m → primary m ≡ secondary m) → Child m None
  longer_primary : 0 < secondary m → secondary m < primary m → Child m (Some (mos (primaries m) (count_of m) (primary m - secondary m) (secondary m)))
  longer_secondary : 0 < primary m → primary m < secondary m → Child m (Some (mos (count_of m) (secondaries m) (primary m) (secondary m - primary m)))

pub child_view : (m : Mos) → Child m (child_of m)
unfolding child_of
child_view m = go (eqb (primary m) 0) refl (eqb (secondary m) 0) refl (ltb (secondary m) (primary m)) refl (ltb (primary m) (secondary m)) refl
  where
    go : (t : Bool) → eqb (primary m) 0 ≡ t → (u : Bool) → eqb (secondary m) 0 ≡ u → (v : Bool) → ltb (secondary m) (primary m) ≡ v → (w : Bool) → ltb (primary m) (secondary m) ≡ w
        → Child m (pick t None (pick u None (pick v (Some (mos (primaries m) (count_of m) (primary m - secondary m) (secondary m))) (pick w (Some (mos (count_of m) (secondaries m) (primary m) (secondary m - primary m))) None))))
    go true e u f v g w h = no_child (λ hp hs. omega (arith, eqb-true (primary m) 0 e))
    go false e true f v g w h = no_child (λ hp hs. omega (arith, eqb-true (secondary m) 0 f))
    go false e false f true g w h = longer_primary (pos_of_ne-zero (eqb-false _ _ f)) (ltb-true _ _ g)
    go false e false f false g true h = longer_secondary (pos_of_ne-zero (eqb-false _ _ e)) (ltb-true _ _ h)
    go false e false f false g false h =
        no_child (λ hp hs. omega (arith, ltb-false (secondary m) (primary m) g, ltb-false (primary m) (secondary m) h))

-- a child that is known to be there
pub child_at : {m c : Mos} → child_of m ≡ Some c → Child m (Some c)
child_at {m} e = subst (Child m) e (child_view m)

-- the three ways, from what holds to what the child is
module _ (m : Mos) where
  pub child_zero_primary : primary m ≡ 0 → child_of m ≡ None
  unfolding child_of
  child_zero_primary h = simp (eq-eqb _ _ h)

  pub child_zero_secondary : (primary m ≡ 0 → ⊥) → secondary m ≡ 0 → child_of m ≡ None
  unfolding child_of
  child_zero_secondary z h = simp (ne_eqb (primary m) 0 z, eq-eqb _ _ h)

  pub child_equal : (primary m ≡ 0 → ⊥) → (secondary m ≡ 0 → ⊥) → primary m ≡ secondary m → child_of m ≡ None
  unfolding child_of
  child_equal z y h =
      simp (
        ne_eqb (primary m) 0 z,
        ne_eqb (secondary m) 0 y,
        le-ltb (secondary m) (primary m) (omega arith),
        le-ltb (primary m) (secondary m) (omega arith),
      )

  pub child_longer_primary : 0 < secondary m → secondary m < primary m → child_of m ≡ Some (mos (primaries m) (count_of m) (primary m - secondary m) (secondary m))
  unfolding child_of
  child_longer_primary z h = simp (ne_eqb (primary m) 0 (omega arith), ne_eqb (secondary m) 0 (omega arith), lt-ltb _ _ h)

  pub child_longer_secondary : 0 < primary m → primary m < secondary m → child_of m ≡ Some (mos (count_of m) (secondaries m) (primary m) (secondary m - primary m))
  unfolding child_of
  child_longer_secondary z h =
      simp (
        ne_eqb (primary m) 0 (omega arith),
        ne_eqb (secondary m) 0 (omega arith),
        le-ltb (secondary m) (primary m) (omega arith),
        lt-ltb _ _ h,
      )

-- what holds where there is a child
pub record HasChild (m : Mos) : Type 0 where
  pub above_primary : 0 < primary m
  pub above_secondary : 0 < secondary m
  pub unequal : primary m ≡ secondary m → ⊥

some_of : {m : Mos} {o : Option Mos} → Child m o → is_some o ≡ true → HasChild m
some_of (no_child h) e = absurd (let z : ◌≡◌ {A = ℕ} 0 1 = cc in omega arith)
some_of (longer_primary z h) e = record { above_primary = omega arith; above_secondary = z; unequal = λ q. omega arith }
some_of (longer_secondary z h) e = record { above_primary = z; above_secondary = omega arith; unequal = λ q. omega arith }

pub has_child : (m : Mos) → is_some (child_of m) ≡ true → HasChild m
has_child m e = some_of (child_view m) e

-- unequal steps above 0 have a child
there_in : {m : Mos} {o : Option Mos} → Child m o → 0 < primary m → 0 < secondary m → (primary m ≡ secondary m → ⊥) → is_some o ≡ true
there_in (no_child h) hp hs d = absurd (d (h hp hs))
there_in (longer_primary z h) hp hs d = refl
there_in (longer_secondary z h) hp hs d = refl

pub there_child : (m : Mos) → 0 < primary m → 0 < secondary m → (primary m ≡ secondary m → ⊥) → is_some (child_of m) ≡ true
there_child m = there_in (child_view m)

-- the tests of the code
pub no_child_zero_primary : (m : Mos) → primary m ≡ 0 → false ≡ is_some (child_of m)
no_child_zero_primary m h = sym (ap is_some (child_zero_primary m h))

pub no_child_zero_secondary : (m : Mos) → (primary m ≡ 0 → ⊥) → secondary m ≡ 0 → false ≡ is_some (child_of m)
no_child_zero_secondary m z h = sym (ap is_some (child_zero_secondary m z h))

pub child_unless_equal : (m : Mos) → (primary m ≡ 0 → ⊥) → (secondary m ≡ 0 → ⊥) → not (eqb (primary m) (secondary m)) ≡ is_some (child_of m)
child_unless_equal m z y = go (eqb (primary m) (secondary m)) refl
  where
    go : (t : Bool) → eqb (primary m) (secondary m) ≡ t → not t ≡ is_some (child_of m)
    go true e = sym (ap is_some (child_equal m z y (eqb-true _ _ e)))
    go false e = sym (there_child m (pos_of_ne-zero z) (pos_of_ne-zero y) (eqb-false _ _ e))

-- a child's counts fit 16 bits
pub count_fits : (m : Mos) → is_pattern m ≡ true → is_some (child_of m) ≡ true → count_of m ≤ 65535
count_fits m e f =
    let h = has_child m f in omega (arith, counts_fit m h.above_primary h.above_secondary, pattern_fits m e)

-- the size is conserved
pub child_keeps_size : {m c : Mos} → Child m (Some c) → size_of c ≡ size_of m
unfolding size_of
child_keeps_size {m} (longer_primary z h) =
    omega (arith, mul-sub (primaries m) (primary m) (secondary m), mul-le-mul_left (primaries m) (le_of_lt h), add-mul (primaries m) (secondaries m) (secondary m))
child_keeps_size {m} (longer_secondary z h) =
    omega (arith, mul-sub (secondaries m) (secondary m) (primary m), mul-le-mul_left (secondaries m) (le_of_lt h), add-mul (primaries m) (secondaries m) (primary m))

pub child_keeps_pattern : {m c : Mos} → Child m (Some c) → is_pattern m ≡ true → is_pattern c ≡ true
child_keeps_pattern {m} {c} v e = pattern_same m c (child_keeps_size v) ∙ e

-- the sum of the steps falls
pub child_falls : {m c : Mos} → Child m (Some c) → steps_of c < steps_of m
child_falls (longer_primary z h) = omega arith
child_falls (longer_secondary z h) = omega arith

-- the counts do not
pub child_counts : {m c : Mos} → Child m (Some c) → (primaries m ≤ primaries c) × (secondaries m ≤ secondaries c)
child_counts (longer_primary z h) = (omega arith, omega arith)
child_counts (longer_secondary z h) = (omega arith, omega arith)

-- and both steps stay above 0
pub child_steps : {m c : Mos} → Child m (Some c) → (0 < primary c) × (0 < secondary c)
child_steps (longer_primary z h) = (omega arith, z)
child_steps (longer_secondary z h) = (z, omega arith)

-- ---- parents

some_dual : (o : Option Mos) → is_some (option_map dual_of o) ≡ is_some o
some_dual None = refl
some_dual (Some m) = refl

pub parent_there : (m : Mos) → is_some (parent_of m) ≡ is_some (child_of (dual_of m))
unfolding parent_of
parent_there m = some_dual (child_of (dual_of m))

-- the parent is the dual of the dual's child
back_of : (o : Option Mos) (q : Mos) → option_map dual_of o ≡ Some q → o ≡ Some (dual_of q)
back_of None q e = absurd (let z : ◌≡◌ {A = ℕ} 0 1 = cc in omega arith)
back_of (Some m) q e = let f : dual_of m ≡ q = cc in ap (λ (x : Mos). Some (dual_of x)) f

pub dual_child : (m q : Mos) → parent_of m ≡ Some q → child_of (dual_of m) ≡ Some (dual_of q)
unfolding parent_of
dual_child m q e = back_of (child_of (dual_of m)) q e

pub dual_parent : (m c : Mos) → child_of (dual_of m) ≡ Some c → parent_of m ≡ Some (dual_of c)
unfolding parent_of
dual_parent m c e = ap (option_map dual_of) e

pub no_parent_of : (m : Mos) → child_of (dual_of m) ≡ None → parent_of m ≡ None
unfolding parent_of
no_parent_of m e = ap (option_map dual_of) e

pub parent_keeps_size : (m q : Mos) → parent_of m ≡ Some q → size_of q ≡ size_of m
parent_keeps_size m q e = sym (dual_size q) ∙ child_keeps_size (child_at (dual_child m q e)) ∙ dual_size m

pub parent_keeps_pattern : (m q : Mos) → parent_of m ≡ Some q → is_pattern m ≡ true → is_pattern q ≡ true
parent_keeps_pattern m q e f = pattern_same m q (parent_keeps_size m q e) ∙ f

pub parent_falls : (m q : Mos) → parent_of m ≡ Some q → count_of q < count_of m
parent_falls m q e = child_falls (child_at (dual_child m q e))
