-- A child shortens the longer step: there is one where that step is the longer and the other is not 0.
use Rattle.std.specs.Prelude.{is_some}
use mathlib.Core.Path.{◌≡◌, refl, sym, ap, ◌∙◌}
use mathlib.Core.Bool.{Bool, true, false, not, ◌&&◌, and-false}
use Prim.Native.Nat.{◌<◌}
use native.Mathlib.Omega.{arith}
use lib.Dec.{eqb, ltb, leb}
use borrow.Author.Tests.{eqb-true, eqb-false, ne_eqb, ltb-true, ltb-false, le-leb, lt-leb}
use Rattle.mos.specs.declared.Mos.{Mos}
use Rattle.mos.specs.Patterns.{primary, secondary, child_of}
use Rattle.mos.proofs.Descent.{no_child_zero_primary, no_child_zero_secondary, child_unless_equal}

module _ (m : Mos) where
  abbrev child : Bool
  child = is_some (child_of m)

  no_child : (t : Bool) → false ≡ child → false ≡ (child && t)
  no_child t e = ap (λ (c : Bool). c && t) e

  some_child : (primary m ≡ 0 → ⊥) → (secondary m ≡ 0 → ⊥) → (primary m ≡ secondary m → ⊥) → child ≡ true
  some_child z y n = sym (child_unless_equal m z y) ∙ ap not (ne_eqb (primary m) (secondary m) n)

  pub without_secondary : secondary m ≡ 0 → false ≡ (child && ltb (secondary m) (primary m))
  without_secondary e = no_child (ltb (secondary m) (primary m)) (go (eqb (primary m) 0) refl)
    where
      go : (t : Bool) → eqb (primary m) 0 ≡ t → false ≡ is_some (child_of m)
      go true q = no_child_zero_primary m (eqb-true (primary m) 0 q)
      go false q = no_child_zero_secondary m (eqb-false (primary m) 0 q) e

  pub without_primary : primary m ≡ 0 → false ≡ (child && leb (primary m) (secondary m))
  without_primary e = no_child (leb (primary m) (secondary m)) (no_child_zero_primary m e)

  pub primary_longer : (secondary m ≡ 0 → ⊥) → ltb (secondary m) (primary m) ≡ (child && ltb (secondary m) (primary m))
  primary_longer y = go (ltb (secondary m) (primary m)) refl
    where
      go : (t : Bool) → ltb (secondary m) (primary m) ≡ t → t ≡ (is_some (child_of m) && t)
      go true e =
          let h : secondary m < primary m = ltb-true (secondary m) (primary m) e in
          sym (ap (λ (c : Bool). c && true) (some_child (λ q. omega (arith, h, q)) y (λ q. omega (arith, h, q))))
      go false e = sym (and-false (is_some (child_of m)))

  pub secondary_longer : (primary m ≡ 0 → ⊥) → ltb (primary m) (secondary m) ≡ (child && leb (primary m) (secondary m))
  secondary_longer z = go (ltb (primary m) (secondary m)) (eqb (primary m) (secondary m)) refl refl
    where
      go : (t u : Bool) → ltb (primary m) (secondary m) ≡ t → eqb (primary m) (secondary m) ≡ u
          → t ≡ (is_some (child_of m) && leb (primary m) (secondary m))
      go true u e f =
          let h : primary m < secondary m = ltb-true (primary m) (secondary m) e in
          sym
          (ap (λ (c : Bool). c && leb (primary m) (secondary m)) (some_child z (λ q. omega (arith, h, q)) (λ q. omega (arith, h, q)))
          ∙ le-leb (primary m) (secondary m) (omega (arith, h)))
      go false true e f =
          let q : primary m ≡ secondary m = eqb-true (primary m) (secondary m) f in
          ap (λ (c : Bool). c && leb (primary m) (secondary m)) (ap not (sym f) ∙ child_unless_equal m z (λ y. z (q ∙ y)))
      go false false e f =
          let h : secondary m < primary m = omega (arith, ltb-false (primary m) (secondary m) e, eqb-false (primary m) (secondary m) f) in
          sym (ap (λ (t : Bool). is_some (child_of m) && t) (lt-leb (primary m) (secondary m) h) ∙ and-false (is_some (child_of m)))
