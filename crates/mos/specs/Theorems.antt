-- What holds of every pattern and of every walk. Each statement is proved in proofs/Theorems.antt.
use Rattle.std.specs.Prelude.{ℕ, ◌*◌, ◌≤◌, ◌<◌, ◌≡◌, true, ◌∷◌, Some, slice_get}
use Rattle.math.specs.Gcd.{gcd, gcd_or_one}
use Rattle.mos.specs.declared.Mos.{Mos}
use Rattle.mos.specs.Patterns.{primaries, secondaries, primary, secondary, count_of, size_of, is_pattern, genesis, collapsed, child_of, parent_of, reduced_size_of}
use Rattle.mos.specs.Walks.{onward, children, parents, genesis_of}
use Rattle.mos.specs.Coprime.{coprime_step}

-- Theorem: "Size is conserved" from a pattern to its child, and so is the greatest common divisor of the steps.
pub record ChildKeeps : Type 0 where
  pub size : (m c : Mos) → child_of m ≡ Some c → size_of c ≡ size_of m
  pub divisor : (m c : Mos) → child_of m ≡ Some c → gcd (primary c) (secondary c) ≡ gcd (primary m) (secondary m)

-- Theorem: the parent undoes the child where both counts are above 0, and the child the parent where both steps are.
pub record ParentUndoesChild : Type 0 where
  pub parent : (m c : Mos) → 0 < primaries m → 0 < secondaries m → child_of m ≡ Some c → parent_of c ≡ Some m
  pub child : (m q : Mos) → 0 < primary m → 0 < secondary m → parent_of m ≡ Some q → child_of q ≡ Some m

-- Theorem: a walk is a pattern and the walk of what comes next, so the bounds in the definitions of `children` and `parents` are never met.
pub record WalksAreWhole : Type 0 where
  pub down : (m : Mos) → children m ≡ m ∷ onward (child_of m) children
  pub up : (m : Mos) → parents m ≡ m ∷ onward (parent_of m) parents

-- Theorem: counts only grow along a walk of children; with each child they do where both are above 0.
pub record CountsGrow : Type 0 where
  pub never_fall : (m q : Mos) (k : ℕ) → slice_get (children m) k ≡ Some q → count_of m ≤ count_of q
  pub grow : (m c : Mos) → 0 < primaries m → 0 < secondaries m → child_of m ≡ Some c → count_of m < count_of c

-- Theorem: both steps are above 0 all along a walk that begins so.
abbrev pub StepsStayAbove : Type 0
StepsStayAbove =
    (m q : Mos) (k : ℕ) → slice_get (children m) k ≡ Some q → 0 < primary m → 0 < secondary m → (0 < primary q) × (0 < secondary q)

-- Theorem: a pattern with N letters has N times the steps' greatest common divisor at most its size, so its reduced size is at least N.
pub record LettersFit : Type 0 where
  pub size : (m : Mos) → 0 < primary m → 0 < secondary m → count_of m * gcd (primary m) (secondary m) ≤ size_of m
  pub reduced : (m : Mos) → 0 < primary m → 0 < secondary m → count_of m ≤ reduced_size_of m

-- Theorem: the genesis of each pattern on the walk from a genesis is that genesis.
abbrev pub GenesisIsFoundAgain : Type 0
GenesisIsFoundAgain = (P G k : ℕ) (q : Mos) → slice_get (children (genesis P G)) k ≡ Some q → genesis_of q ≡ genesis P G

-- Theorem: `coprime` ends with steps that have no common divisor above 1.
abbrev pub CoprimeEnds : Type 0
CoprimeEnds = (p s : ℕ) → gcd_or_one p (coprime_step p s) ≡ 1

-- Theorem: a genesis and a collapsed pattern of 16-bit numbers are patterns by question 7.
pub record MadePatterns : Type 0 where
  pub of_genesis : (P G : ℕ) → 0 < P → P ≤ 65535 → is_pattern (genesis P G) ≡ true
  pub of_collapsed : (large small : ℕ) → large ≤ 65535 → is_pattern (collapsed large small) ≡ true
