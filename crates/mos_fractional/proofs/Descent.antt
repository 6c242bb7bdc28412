-- The genesis and the child, by what the code tests; and the ways to a child, each with what holds of its counts.
use Rattle.std.specs.Prelude.{Option, None, Some}
use mathlib.Core.Path.{◌≡◌, refl, sym, ap, subst, ◌∙◌}
use mathlib.Core.Bool.{Bool, true, false}
use Prim.Native.Nat.{ℕ, ◌≤◌, ◌<◌}
use native.Mathlib.Omega.{arith}
use lib.Dec.{ltb}
use lib.Ieee.{Float, nan, inf, fin, binary64, add, sub, rem, lt, eq}
use borrow.Author.Tests.{lt-ltb, le-ltb, ltb-false}
use Rattle.answer.specs.Choice.{pick}
use Rattle.answer.specs.Outcome.{Outcome, given, refused, ask}
use Rattle.answer.proofs.Asked.{given_same}
use Rattle.mos_fractional.specs.declared.FractionalMos.{FractionalMos}
use Rattle.mos_fractional.specs.Fractional.{fractional, primaries, secondaries, primary, secondary, count_of, nought, one, is_finite, first_step_of, genesis, off_primary, off_secondary, child_of}
use Rattle.mos_fractional.specs.Answers.{of_generator, genesis_outcome}

-- ---- the genesis

-- what the two comparisons with the infinities say
pub finite : (g : Float) → lt g (inf false) ≡ true → lt (inf true) g ≡ true → is_finite g ≡ true
unfolding lt
finite nan h i = absurd (let z : ◌≡◌ {A = ℕ} 0 1 = cc in omega arith)
finite (inf true) h i = absurd (let z : ◌≡◌ {A = ℕ} 0 1 = cc in omega arith)
finite (inf false) h i = absurd (let z : ◌≡◌ {A = ℕ} 0 1 = cc in omega arith)
finite (fin s m e) h i = refl

not_below : (g : Float) → lt g (inf false) ≡ false → is_finite g ≡ false
unfolding lt
not_below nan h = refl
not_below (inf s) h = refl
not_below (fin s m e) h = absurd (let z : ◌≡◌ {A = ℕ} 0 1 = cc in omega arith)

not_above : (g : Float) → lt (inf true) g ≡ false → is_finite g ≡ false
unfolding lt
not_above nan h = refl
not_above (inf s) h = refl
not_above (fin s m e) h = absurd (let z : ◌≡◌ {A = ℕ} 0 1 = cc in omega arith)

module _ (g : Float) where
  pub no_number_high : lt g (inf false) ≡ false → refused 22 ≡ genesis_outcome g
  no_number_high h = simp (not_below g h)

  pub no_number_low : lt (inf true) g ≡ false → refused 22 ≡ genesis_outcome g
  no_number_low h = simp (not_above g h)

  pub raised : lt (rem binary64 g one) nought ≡ true → first_step_of g ≡ add binary64 (rem binary64 g one) one
  unfolding first_step_of
  raised h = simp h

  pub kept : lt (rem binary64 g one) nought ≡ false → first_step_of g ≡ rem binary64 g one
  unfolding first_step_of
  kept h = simp h

  pub genesis_made : (p : Float) → is_finite g ≡ true → first_step_of g ≡ p → given (fractional 1 1 p (sub binary64 one p)) ≡ genesis_outcome g
  unfolding genesis
  genesis_made p h e = simp (h, e)

-- what the answer tells
pub told_genesis : (g : Float) {m : FractionalMos} → given m ≡ genesis_outcome g → m ≡ genesis g
told_genesis nan e = absurd (let z : ◌≡◌ {A = ℕ} 0 1 = cc in omega arith)
told_genesis (inf s) e = absurd (let z : ◌≡◌ {A = ℕ} 0 1 = cc in omega arith)
told_genesis (fin s n x) e = given_same e

pub told_finite : (g : Float) {m : FractionalMos} → given m ≡ genesis_outcome g → is_finite g ≡ true
told_finite nan e = absurd (let z : ◌≡◌ {A = ℕ} 0 1 = cc in omega arith)
told_finite (inf s) e = absurd (let z : ◌≡◌ {A = ℕ} 0 1 = cc in omega arith)
told_finite (fin s n x) e = refl

-- .. for every call that asks 22 first
pub same_refusal : {A : Type 0} (g : Float) {n : ℕ} (rest : Outcome A) → refused n ≡ genesis_outcome g → refused n ≡ ask 22 (is_finite g) rest
same_refusal nan {n = n} rest e = let z : n ≡ 22 = cc in ap refused z
same_refusal (inf s) {n = n} rest e = let z : n ≡ 22 = cc in ap refused z
same_refusal (fin s m x) rest e = absurd (let z : ◌≡◌ {A = ℕ} 0 1 = cc in omega arith)

pub same_given : {A : Type 0} (g : Float) {m : FractionalMos} (rest : Outcome A) → given m ≡ genesis_outcome g
    → rest ≡ ask 22 (is_finite g) rest
same_given g rest e = sym (simp (told_finite g e))

pub fact_told : {A : Type 0} (g : Float) {m : FractionalMos} (fact : FractionalMos → A) {a : A} → given m ≡ genesis_outcome g → a ≡ fact m
    → given a ≡ of_generator g (fact (genesis g))
fact_told g fact e f = ap given (f ∙ ap fact (told_genesis g e)) ∙ same_given g (given (fact (genesis g))) e

-- ---- the child

module _ (m : FractionalMos) where
  pub no_primary : eq (primary m) nought ≡ true → None ≡ child_of m
  unfolding child_of
  no_primary h = simp h

  module _ (h : eq (primary m) nought ≡ false) where
    pub no_secondary : eq (secondary m) nought ≡ true → None ≡ child_of m
    unfolding child_of
    no_secondary i = simp (h, i)

    module _ (i : eq (secondary m) nought ≡ false) where
      pub full : 65535 < count_of m → None ≡ child_of m
      unfolding child_of
      full k = simp (h, i, lt-ltb _ _ k)

      module _ (k : count_of m ≤ 65535) where
        pub longer_primary : lt (secondary m) (primary m) ≡ true → Some (off_primary m) ≡ child_of m
        unfolding child_of
        longer_primary l = simp (h, i, le-ltb _ _ k, l)

        module _ (l : lt (secondary m) (primary m) ≡ false) where
          pub longer_secondary : lt (primary m) (secondary m) ≡ true → Some (off_secondary m) ≡ child_of m
          unfolding child_of
          longer_secondary j = simp (h, i, le-ltb _ _ k, l, j)

          pub none_longer : lt (primary m) (secondary m) ≡ false → None ≡ child_of m
          unfolding child_of
          none_longer j = simp (h, i, le-ltb _ _ k, l, j)

-- the ways to a child
pub data Child (m : FractionalMos) : Option FractionalMos → Type 0 where
  no_child : Child m None
  off_primary_lem : count_of m ≤ 65535 → Child m (Some (off_primary m))
  off_secondary_lem : count_of m ≤ 65535 → Child m (Some (off_secondary m))

pub child_view : (m : FractionalMos) → Child m (child_of m)
unfolding child_of
child_view m =
    go (eq (primary m) nought) (eq (secondary m) nought) (ltb 65535 (count_of m)) refl (lt (secondary m) (primary m))
    (lt (primary m) (secondary m))
  where
    go : (t u v : Bool) → ltb 65535 (count_of m) ≡ v → (w y : Bool)
        → Child m (pick t None (pick u None (pick v None (pick w (Some (off_primary m)) (pick y (Some (off_secondary m)) None)))))
    go true u v e w y = no_child
    go false true v e w y = no_child
    go false false true e w y = no_child
    go false false false e true y = off_primary_lem (ltb-false 65535 (count_of m) e)
    go false false false e false true = off_secondary_lem (ltb-false 65535 (count_of m) e)
    go false false false e false false = no_child

-- a child that is known to be there
pub child_at : {m c : FractionalMos} → child_of m ≡ Some c → Child m (Some c)
child_at {m} e = subst (Child m) e (child_view m)

-- counts do not fall, and a child's fit 16 bits
pub child_counts : {m c : FractionalMos} → Child m (Some c) → (primaries m ≤ primaries c) × (secondaries m ≤ secondaries c)
child_counts (off_primary_lem h) = (omega arith, omega arith)
child_counts (off_secondary_lem h) = (omega arith, omega arith)

pub child_fits : {m c : FractionalMos} → Child m (Some c) → (primaries c ≤ 65535) × (secondaries c ≤ 65535)
child_fits (off_primary_lem h) = (omega arith, omega arith)
child_fits (off_secondary_lem h) = (omega arith, omega arith)

-- there is a child only where the counts sum to at most 65,535
pub child_room : {m c : FractionalMos} → Child m (Some c) → count_of m ≤ 65535
child_room (off_primary_lem h) = h
child_room (off_secondary_lem h) = h

-- where both counts are above 0, their sum grows
pub child_grows : {m c : FractionalMos} → Child m (Some c) → 0 < primaries m → 0 < secondaries m → count_of m < count_of c
child_grows (off_primary_lem h) p s = omega arith
child_grows (off_secondary_lem h) p s = omega arith
