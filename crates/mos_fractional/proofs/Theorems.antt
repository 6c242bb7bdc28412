-- The theorems, each from its laws.
use Rattle.std.specs.Prelude.{Option, None, Some, slice_get}
use mathlib.Core.Path.{◌≡◌, refl, subst}
use Prim.Native.Nat.{ℕ, zero, suc, ◌≤◌}
use native.Mathlib.Omega.{arith}
use lib.Dec.{lit≤}
use lib.Ieee.{Float}
use Rattle.mos_fractional.specs.declared.FractionalMos.{FractionalMos}
use Rattle.mos_fractional.specs.Fractional.{primaries, secondaries, genesis, child_of}
use Rattle.mos_fractional.specs.Walk.{onward, walk, children, children_from}
use Rattle.mos_fractional.specs.Parts.{Growing}
use Rattle.mos_fractional.specs.Theorems.{WalkIsWhole, FractionalCountsGrow, WholePartsAreExact, RemainderIsExact}
use Rattle.mos_fractional.proofs.Descent.{child_at, child_counts, child_fits, child_grows}
use Rattle.mos_fractional.proofs.Walking.{left, growing_child, growing_genesis, children_follow, from_length}
use Rattle.mos_fractional.proofs.Rounding.{positive_parts}
use Rattle.mos_fractional.proofs.Exact.{walks_equally_long, patterns_agree}
use Rattle.mos_fractional.proofs.Products.{generator_of_lem, times}
use Rattle.mos_fractional.proofs.Remainders.{rem_exact}

-- a fact that a child keeps holds all along a walk
module _ (Holds : FractionalMos → Type 0) (keeps : (m c : FractionalMos) → Holds m → child_of m ≡ Some c → Holds c) where
  rest_keeps : (k : ℕ) (m q : FractionalMos) (j : ℕ) (o : Option FractionalMos) → child_of m ≡ o → Holds m
      → ((c : FractionalMos) → Holds c → slice_get (walk k c) j ≡ Some q → Holds q) → slice_get (onward o (walk k)) j ≡ Some q → Holds q
  rest_keeps k m q j None e h ih f = absurd (let z : ◌≡◌ {A = ℕ} 0 1 = cc in omega arith)
  rest_keeps k m q j (Some c) e h ih f = ih c (keeps m c h e) f

  walk_keeps : (k : ℕ) (m q : FractionalMos) (j : ℕ) → Holds m → slice_get (walk k m) j ≡ Some q → Holds q
  unfolding walk
  walk_keeps zero m q zero h e = subst Holds (let d : m ≡ q = cc in d) h
  walk_keeps zero m q (suc j) h e = absurd (let z : ◌≡◌ {A = ℕ} 0 1 = cc in omega arith)
  walk_keeps (suc k) m q zero h e = subst Holds (let d : m ≡ q = cc in d) h
  walk_keeps (suc k) m q (suc j) h e = rest_keeps k m q j (child_of m) refl h (λ c. walk_keeps k c q j) e

  from_keeps : (g : Float) (k : ℕ) (m : FractionalMos) → Holds (genesis g) → slice_get (children_from g) k ≡ Some m → Holds m
  unfolding children
  from_keeps g k m h e = walk_keeps (left (genesis g)) (genesis g) m k h e

pub walk_is_whole : WalkIsWhole
walk_is_whole =
    record {
      follows = λ m p s. children_follow m (p, s);
      counts = λ g k m e. from_keeps Growing (λ m c u e. growing_child m c u e) g k m (growing_genesis g) e;
      ends = from_length;
    }

abbrev Fits : FractionalMos → Type 0
Fits m = (primaries m ≤ 65535) × (secondaries m ≤ 65535)

genesis_fits : (g : Float) → Fits (genesis g)
unfolding genesis
genesis_fits g = (lit≤ tt, lit≤ tt)

pub fractional_counts_grow : FractionalCountsGrow
fractional_counts_grow =
    record {
      never_fall = λ m c e. child_counts (child_at e);
      grow = λ m c p s e. child_grows (child_at e) p s;
      fit = λ g k m e. from_keeps Fits (λ m c u e. child_fits (child_at e)) g k m (genesis_fits g) e;
    }

pub whole_parts_are_exact : WholePartsAreExact
whole_parts_are_exact =
    record {
      same_length = walks_equally_long;
      same_patterns = patterns_agree;
      generator = generator_of_lem;
      product = λ x k h z. times x k (positive_parts x k h z);
    }

pub remainder_is_exact : RemainderIsExact
remainder_is_exact = rem_exact
