-- Facts of a child carry over to whole walks by `walk_keeps`; parents are children of the dual.
use Rattle.std.specs.Prelude.{Option, None, Some, option_map, slice_get, is_some}
use mathlib.Core.Path.{◌≡◌, refl, ap, ap₂, sym, subst, ◌∙◌}
use mathlib.Core.Bool.{false}
use mathlib.Core.List.{List}
use Prim.Native.Nat.{ℕ, zero, suc, ◌*◌, ◌-◌, ◌≤◌, ◌<◌, ◌∣◌}
use native.Mathlib.Nat.{le_refl, le_of_lt, le_of_dvd, mod-lt, dvd-add, dvd-sub, dvd_antisymm, sub-add_cancel, add-sub_cancel_left, add-mul, mul-le-mul_left, le-div_iff_mul-le}
use native.Mathlib.Omega.{arith}
use Rattle.math.specs.Gcd.{gcd}
use Rattle.math.proofs.Gcd.{gcd_is, gcd_positive, gcd_or_one_lem}
use Rattle.mos.specs.declared.Mos.{Mos}
use Rattle.mos.specs.Patterns.{mos, primaries, secondaries, primary, secondary, count_of, size_of, genesis, collapsed, child_of, parent_of, dual_of, cycles_of, reduced_size_of}
use Rattle.mos.specs.Walks.{onward, children, genesis_of}
use Rattle.mos.specs.Theorems.{ChildKeeps, ParentUndoesChild, WalksAreWhole, CountsGrow, StepsStayAbove, LettersFit, GenesisIsFoundAgain, CoprimeEnds, MadePatterns}
use Rattle.mos.proofs.Sizes.{fits_pattern}
use Rattle.mos.proofs.Descent.{Child, longer_primary, longer_secondary, child_at, child_keeps_size, child_counts, child_steps, child_equal, child_longer_primary, child_longer_secondary, dual_child, dual_parent, parent_there}
use Rattle.mos.proofs.Sequences.{children_follow, parents_follow, genesis_here, genesis_next}
use Rattle.mos.proofs.Passes as Passes

-- ---- one child

-- a number divides both steps of a pattern exactly where it divides both of its child
divides_down : {m c : Mos} → Child m (Some c) → (d : ℕ) → d ∣ primary m → d ∣ secondary m → (d ∣ primary c) × (d ∣ secondary c)
divides_down (longer_primary z h) d p s = (dvd-sub d p s, s)
divides_down (longer_secondary z h) d p s = (p, dvd-sub d s p)

divides_up : {m c : Mos} → Child m (Some c) → (d : ℕ) → d ∣ primary c → d ∣ secondary c → (d ∣ primary m) × (d ∣ secondary m)
divides_up (longer_primary z h) d p s = (subst (λ (n : ℕ). d ∣ n) (sub-add_cancel (le_of_lt h)) (dvd-add d p s), s)
divides_up (longer_secondary z h) d p s = (p, subst (λ (n : ℕ). d ∣ n) (sub-add_cancel (le_of_lt h)) (dvd-add d s p))

child_keeps_divisor : {m c : Mos} → Child m (Some c) → gcd (primary c) (secondary c) ≡ gcd (primary m) (secondary m)
child_keeps_divisor {m} {c} v =
    let here = gcd_is (primary m) (secondary m) in
    let there = gcd_is (primary c) (secondary c) in
    let up = divides_up v (gcd (primary c) (secondary c)) there.left there.right in
    let down = divides_down v (gcd (primary m) (secondary m)) here.left here.right in
    dvd_antisymm (here.greatest _ up.0 up.1) (there.greatest _ down.0 down.1)

pub child_keeps : ChildKeeps
child_keeps = record { size = λ m c e. child_keeps_size (child_at e); divisor = λ m c e. child_keeps_divisor (child_at e) }

-- ---- parent and child

parent_of_child : (m c : Mos) → 0 < primaries m → 0 < secondaries m → Child m (Some c) → parent_of c ≡ Some m
parent_of_child m c ha hb (longer_primary z h) =
    dual_parent _ _ (child_longer_secondary (mos (primary m - secondary m) (secondary m) (primaries m) (count_of m)) ha (omega arith))
    ∙ ap₂ (λ (x y : ℕ). Some (mos (primaries m) x y (secondary m))) (add-sub_cancel_left (primaries m) (secondaries m)) (sub-add_cancel (le_of_lt h))
parent_of_child m c ha hb (longer_secondary z h) =
    dual_parent _ _ (child_longer_primary (mos (primary m) (secondary m - primary m) (count_of m) (secondaries m)) hb (omega arith))
    ∙ ap₂ (λ (x y : ℕ). Some (mos x (secondaries m) (primary m) y)) (omega arith) (omega arith)

back : (o : Option Mos) (m : Mos) → option_map dual_of o ≡ Some (dual_of m) → o ≡ Some m
back None m e = absurd (let z : ◌≡◌ {A = ℕ} 0 1 = cc in omega arith)
back (Some n) m e = let f : dual_of n ≡ dual_of m = cc in ap (λ (x : Mos). Some (dual_of x)) f

child_of_parent : (m q : Mos) → 0 < primary m → 0 < secondary m → parent_of m ≡ Some q → child_of q ≡ Some m
unfolding parent_of
child_of_parent m q hp hs e =
    back (child_of q) m (parent_of_child (dual_of m) (dual_of q) hp hs (child_at (dual_child m q e)))

pub parent_undoes_child : ParentUndoesChild
parent_undoes_child = record { parent = λ m c ha hb e. parent_of_child m c ha hb (child_at e); child = child_of_parent }

-- ---- walks

pub walks_are_whole : WalksAreWhole
walks_are_whole = record { down = children_follow; up = parents_follow }

-- what a child keeps, the whole walk keeps
module _ (Q : Mos → Type 0) (keeps : (m c : Mos) → child_of m ≡ Some c → Q m → Q c) where
  keeps_at : (k : ℕ) (m q : Mos) → ((c : Mos) → slice_get (children c) k ≡ Some q → Q c → Q q) → (o : Option Mos) → child_of m ≡ o
      → slice_get (onward o children) k ≡ Some q → Q m → Q q
  keeps_at k m q ih None f e x = absurd (let z : ◌≡◌ {A = ℕ} 0 1 = cc in omega arith)
  keeps_at k m q ih (Some c) f e x = ih c e (keeps m c f x)

  pub walk_keeps : (k : ℕ) (m q : Mos) → slice_get (children m) k ≡ Some q → Q m → Q q
  walk_keeps zero m q e x =
      let f : Some m ≡ Some q = sym (ap (λ (l : List Mos). slice_get l 0) (children_follow m)) ∙ e in
      let g : m ≡ q = cc in
      subst Q g x
  walk_keeps (suc k) m q e x =
      keeps_at k m q (λ c. walk_keeps k c q) (child_of m) refl (sym (ap (λ (l : List Mos). slice_get l (suc k)) (children_follow m)) ∙ e) x

pub counts_grow : CountsGrow
counts_grow = record {
  never_fall =
      λ m q k e. walk_keeps (λ x. count_of m ≤ count_of x) (λ x c f h. omega (arith, child_counts (child_at f))) k m q e (le_refl _);
  grow = λ m c ha hb e. grows (child_at e) ha hb;
}
  where
    grows : {m c : Mos} → Child m (Some c) → 0 < primaries m → 0 < secondaries m → count_of m < count_of c
    grows (longer_primary z h) ha hb = omega arith
    grows (longer_secondary z h) ha hb = omega arith

pub steps_stay_above : StepsStayAbove
steps_stay_above m q k e hp hs =
    walk_keeps (λ x. (0 < primary x) × (0 < secondary x)) (λ x c f h. child_steps (child_at f)) k m q e (hp, hs)

-- ---- letters

letters_within : (m : Mos) → 0 < primary m → 0 < secondary m → (d : ℕ) → d ∣ primary m → d ∣ secondary m → count_of m * d ≤ size_of m
unfolding size_of
letters_within m hp hs d dp ds =
    omega (
      arith,
      add-mul (primaries m) (secondaries m) d,
      mul-le-mul_left (primaries m) (le_of_dvd hp dp),
      mul-le-mul_left (secondaries m) (le_of_dvd hs ds),
    )

letters_size : (m : Mos) → 0 < primary m → 0 < secondary m → count_of m * gcd (primary m) (secondary m) ≤ size_of m
letters_size m hp hs =
    letters_within m hp hs (gcd (primary m) (secondary m)) (gcd_is (primary m) (secondary m)).left (gcd_is (primary m) (secondary m)).right

letters_reduced : (m : Mos) → 0 < primary m → 0 < secondary m → count_of m ≤ reduced_size_of m
unfolding reduced_size_of cycles_of
letters_reduced m hp hs =
    rw (gcd_or_one_lem (primary m) (secondary m) (gcd_positive (primary m) (secondary m) hp))
    ((le-div_iff_mul-le (gcd_positive (primary m) (secondary m) hp)).1 (letters_size m hp hs))

pub letters_fit : LettersFit
letters_fit = record { size = letters_size; reduced = letters_reduced }

-- ---- the genesis of a walk

-- a genesis has equal counts, so no parent
no_parent : (P G : ℕ) → is_some (parent_of (genesis P G)) ≡ false
no_parent P G =
    parent_there (genesis P G)
    ∙ ap is_some (child_equal (dual_of (genesis P G)) (λ e. omega arith) (λ e. omega arith) refl)

-- along the walk both counts stay above 0, so each parent leads back
record Descends (g m : Mos) : Type 0 where
  pub above_primaries : 0 < primaries m
  pub above_secondaries : 0 < secondaries m
  pub from : genesis_of m ≡ g

descends_on : (g m c : Mos) → child_of m ≡ Some c → Descends g m → Descends g c
descends_on g m c e d =
    record {
      above_primaries = omega (arith, d.above_primaries, child_counts (child_at e));
      above_secondaries = omega (arith, d.above_secondaries, child_counts (child_at e));
      from = sym (genesis_next c m (parent_of_child m c d.above_primaries d.above_secondaries (child_at e))) ∙ d.from;
    }

pub genesis_is_found_again : GenesisIsFoundAgain
genesis_is_found_again P G k q e =
    (walk_keeps (Descends (genesis P G)) (descends_on (genesis P G)) k (genesis P G) q e
    (record {
      above_primaries = omega arith;
      above_secondaries = omega arith;
      from = sym (genesis_here (genesis P G) (no_parent P G));
    })
    ).from

pub coprime_ends : CoprimeEnds
coprime_ends = Passes.coprime_ends

-- ---- what is made is a pattern

pub genesis_size : (P G : ℕ) → 0 < P → size_of (genesis P G) ≡ P
unfolding size_of
genesis_size P G h = omega (arith, mod-lt G h)

collapsed_size : (large small : ℕ) → size_of (collapsed large small) ≡ large
unfolding size_of
collapsed_size large small = omega arith

pub made_patterns : MadePatterns
made_patterns = record {
  of_genesis = λ P G h l. fits_pattern (genesis P G) (omega (arith, genesis_size P G h));
  of_collapsed = λ large small l. fits_pattern (collapsed large small) (omega (arith, collapsed_size large small));
}
