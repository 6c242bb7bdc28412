-- What holds of the moves of every pattern of every walk, for a period P above 0 and a generator G, both of 16 bits. Proofs: proofs/.
use Rattle.std.specs.Prelude.{ℕ, ◌≤◌, ◌≡◌, ℤ, pos, negsuc, ◌+ℤ◌, ◌*ℤ◌, length, Some, slice_get}
use Rattle.mos.specs.declared.Mos.{Mos}
use Rattle.mos.specs.Patterns.{primary, secondary, genesis, key_at}
use Rattle.mos.specs.Walks.{children, first_with, listed}
use Rattle.mos_moves.specs.Moves.{Table, octaves, generators, primary_row, secondary_row, genesis_moves, walk_moves, moves_with, pattern_moves, reached, determinant, SmallTable, listed_moves}

-- The k-th pattern of the walk from the genesis is m, and its moves are t.
pub record MovesAt (P G k : ℕ) (m : Mos) (t : Table ℤ) : Type 0 where
  pub pattern : slice_get (children (genesis P G)) k ≡ Some m
  pub moves : slice_get (walk_moves P G) k ≡ Some t

-- Theorem: every pattern of the walk has its moves, and as many are listed as patterns are.
pub record EveryPatternHasMoves (P G : ℕ) : Type 0 where
  pub some_moves : (k : ℕ) (m : Mos) → slice_get (children (genesis P G)) k ≡ Some m → (t : Table ℤ) × MovesAt P G k m t
  pub as_many : length (walk_moves P G) ≡ length (children (genesis P G))
  pub as_long : length (listed_moves (walk_moves P G)) ≡ length (listed (children (genesis P G)))

abbrev pub MovesBesidePatterns : Type 0
MovesBesidePatterns = (P G : ℕ) → EveryPatternHasMoves P G

-- Theorem: "A row's octaves times the octave, plus its generators times the generator, is its step"; "The determinant stays −1 all along";
-- and no number is further from 0 than 65,536, so 32 signed bits hold it.
pub record BoardMoves (P G : ℕ) (m : Mos) (t : Table ℤ) : Type 0 where
  pub primary_reached : reached P G (primary_row t) ≡ pos (primary m)
  pub secondary_reached : reached P G (secondary_row t) ≡ pos (secondary m)
  pub determinant_kept : determinant t ≡ negsuc 0
  pub small : SmallTable t

abbrev pub MovesReachTheirSteps : Type 0
MovesReachTheirSteps =
    (P G k : ℕ) (m : Mos) (t : Table ℤ) → 1 ≤ P → P ≤ 65535 → G ≤ 65535 → MovesAt P G k m t → BoardMoves P G m t

-- Theorem: so the two moves reach whatever octaves and generators reach, each in one way. For all numbers x of octaves and y of generators
-- there are c primary and d secondary moves that make them, no others do, and they lead to the same key.
pub record MadeOf (t : Table ℤ) (x y c d : ℤ) : Type 0 where
  pub octaves_are : c *ℤ octaves (primary_row t) +ℤ d *ℤ octaves (secondary_row t) ≡ x
  pub generators_are : c *ℤ generators (primary_row t) +ℤ d *ℤ generators (secondary_row t) ≡ y

pub record ReachedInOneWay (P G : ℕ) (m : Mos) (t : Table ℤ) (x y : ℤ) : Type 0 where
  pub primary_moves_lem : ℤ
  pub secondary_moves_lem : ℤ
  pub made : MadeOf t x y primary_moves_lem secondary_moves_lem
  pub only : (c d : ℤ) → MadeOf t x y c d → (c ≡ primary_moves_lem) × (d ≡ secondary_moves_lem)
  pub key : key_at m primary_moves_lem secondary_moves_lem ≡ x *ℤ pos P +ℤ y *ℤ pos G

abbrev pub MovesReachAll : Type 0
MovesReachAll =
    (P G k : ℕ) (m : Mos) (t : Table ℤ) → 1 ≤ P → MovesAt P G k m t → (x y : ℤ) → ReachedInOneWay P G m t x y

-- Theorem: a pattern's moves follow from its own numbers: a row's generators are the other step's count, up for the primary row and down for
-- the secondary, and its octaves are what is then left to the step.
abbrev pub PatternsTellTheirMoves : Type 0
PatternsTellTheirMoves = (P G k : ℕ) (m : Mos) (t : Table ℤ) → 1 ≤ P → MovesAt P G k m t → t ≡ pattern_moves P G m

-- Theorem: beside the first pattern with n steps stand the moves that `moves_with` finds.
abbrev pub MovesStandBesideThePattern : Type 0
MovesStandBesideThePattern =
    (P G n : ℕ) (m : Mos) → first_with n (children (genesis P G)) ≡ Some m
    → (k : ℕ) × (t : Table ℤ) × MovesAt P G k m t × (moves_with n (children (genesis P G)) (genesis_moves P G) ≡ Some t)
