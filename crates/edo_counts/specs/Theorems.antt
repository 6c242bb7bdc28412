-- What the report counts: statements; their proofs stand in proofs/.
use Rattle.std.specs.Prelude.{ℕ, zero, suc, ◌+◌, ◌*◌, true, ◌↔◌, ◌≡◌, pos, negsuc, length}
use Rattle.mos.specs.declared.Mos.{Mos}
use Rattle.mos.specs.Patterns.{sharpness_of}
use Rattle.edo_layouts.specs.Layouts.{layouts_of, numbers_of, joined_over}
use Rattle.edo_counts.specs.declared.parts.Tally.{Tally}
use Rattle.edo_counts.specs.Counts.{all_layouts, is_above, is_below, is_equal, tally_of}

-- The three sides are those of document 01's sharpness, "primary minus secondary step": each test says yes exactly where sharpness is above
-- 0 (`pos (suc k)`), below 0 (`negsuc k` is −1 − k) and at 0.
pub record SideOfSharpness (m : Mos) : Type 0 where
  pub above : (is_above m ≡ true) ↔ ((k : ℕ) × (sharpness_of m ≡ pos (suc k)))
  pub below : (is_below m ≡ true) ↔ ((k : ℕ) × (sharpness_of m ≡ negsuc k))
  pub equal : (is_equal m ≡ true) ↔ (sharpness_of m ≡ pos 0)

-- Theorem: so it is for every pattern.
abbrev pub SidesAreSharpness : Type 0
SidesAreSharpness = (m : Mos) → SideOfSharpness m

-- The sum of what is said of 0 to count − 1.
unfoldable pub sum_of : (ℕ → ℕ) → ℕ → ℕ
sum_of number zero = 0
sum_of number (suc count) = sum_of number count + number count

-- The three numbers of a line together.
abbrev pub whole : Tally → ℕ
whole t = t.above + t.below + t.equal

-- Theorem: what the report counts is what `find_by_edo` gives, summed over all divisions up to `last`, 400 in the report: the numbers of
-- all six lines together are the numbers of layouts of each division together, and `find_by_edo` writes three numbers for each.
pub record EveryLayoutIsCounted (last : ℕ) : Type 0 where
  pub all : sum_of (λ (code : ℕ). whole (tally_of code (all_layouts last))) 6 ≡ sum_of (λ (before : ℕ). length (layouts_of (before + 1))) last
  pub written : (n : ℕ) → length (joined_over numbers_of (layouts_of n)) ≡ 3 * length (layouts_of n)
