-- The board's primary and secondary moves "in octaves and generators, as a two by two table of whole numbers, octaves first, for each
-- pattern of the walk" (document 02, W-214). P is the octave, or the period of a free pergen, and G the generator.
use Rattle.std.specs.Prelude.{ℕ, ◌+◌, ◌*◌, ◌-◌, ◌/◌, ◌≤◌, true, false, List, [], ◌∷◌, ◌++◌, eqb, ltb, get_or, ℤ, pos, negsuc, nat_abs, neg_ℤ, ◌+ℤ◌, ◌-ℤ◌, ◌*ℤ◌, Option, None, Some}
use Rattle.answer.specs.Choice.{pick}
use Rattle.mos.specs.declared.Mos.{Mos}
use Rattle.mos.specs.Patterns.{primaries, secondaries, primary, secondary, count_of, genesis}
use Rattle.mos.specs.Walks.{children}

-- ---- tables

-- A row has two numbers, octaves before generators; a table has two rows, the primary step's before the secondary's.
abbrev pub Row : Type 0 → Type 0
Row Number = List Number

abbrev pub Table : Type 0 → Type 0
Table Number = List (Row Number)

abbrev pub row : ℤ → ℤ → Row ℤ
row octaves generators = octaves ∷ generators ∷ []

abbrev pub octaves : Row ℤ → ℤ
octaves r = get_or r 0 (pos 0)

abbrev pub generators : Row ℤ → ℤ
generators r = get_or r 1 (pos 0)

abbrev pub primary_row : Table ℤ → Row ℤ
primary_row t = get_or t 0 []

abbrev pub secondary_row : Table ℤ → Row ℤ
secondary_row t = get_or t 1 []

-- ---- the moves of a walk

-- "The genesis has −q, 1 and 1 + q, −1, where q is the generator div the octave."
unfoldable pub genesis_moves : ℕ → ℕ → Table ℤ
genesis_moves P G = row (neg_ℤ (pos (G / P))) (pos 1) ∷ row (pos (1 + G / P)) (negsuc 0) ∷ []

-- One row less another.
unfoldable pub less_row : Row ℤ → Row ℤ → Row ℤ
less_row x y = row (octaves x -ℤ octaves y) (generators x -ℤ generators y)

-- "a child takes the shorter step's row from the longer's": the moves of the child of m, from those of m.
unfoldable pub child_moves : Mos → Table ℤ → Table ℤ
unfolding less_row
child_moves m t =
    pick (ltb (secondary m) (primary m)) (less_row (primary_row t) (secondary_row t) ∷ secondary_row t ∷ [])
    (primary_row t ∷ less_row (secondary_row t) (primary_row t) ∷ [])

-- The moves of each pattern of a walk of children whose first pattern has the moves t.
unfoldable pub moves_along : List Mos → Table ℤ → List (Table ℤ)
unfolding child_moves
moves_along [] t = []
moves_along (m ∷ ms) t = t ∷ moves_along ms (child_moves m t)

-- The moves of each pattern of the walk from a genesis.
unfoldable pub walk_moves : ℕ → ℕ → List (Table ℤ)
unfolding moves_along genesis_moves children
walk_moves P G = moves_along (children (genesis P G)) (genesis_moves P G)

-- The moves of the first pattern with n steps, where such a walk has one.
unfoldable pub moves_with : ℕ → List Mos → Table ℤ → Option (Table ℤ)
unfolding child_moves
moves_with n [] t = None
moves_with n (m ∷ ms) t = elim (eqb (count_of m) n) [ true ↦ Some t | false ↦ moves_with n ms (child_moves m t) ]

-- The moves of a pattern of the walk, by its own numbers: `PatternsTellTheirMoves` says that they are.
unfoldable pub pattern_moves : ℕ → ℕ → Mos → Table ℤ
pattern_moves P G m =
    row (neg_ℤ (pos ((secondaries m * G - primary m) / P))) (pos (secondaries m))
    ∷ row (pos ((primaries m * G + secondary m) / P)) (neg_ℤ (pos (primaries m)))
    ∷ []

-- ---- what a table says

-- "A row's octaves times the octave, plus its generators times the generator"
abbrev pub reached : ℕ → ℕ → Row ℤ → ℤ
reached P G r = octaves r *ℤ pos P +ℤ generators r *ℤ pos G

-- "The determinant"
abbrev pub determinant : Table ℤ → ℤ
determinant t =
    octaves (primary_row t) *ℤ generators (secondary_row t) -ℤ generators (primary_row t) *ℤ octaves (secondary_row t)

-- No number of a row is further from 0 than 65,536.
pub record SmallRow (r : Row ℤ) : Type 0 where
  pub few_octaves : nat_abs (octaves r) ≤ 65536
  pub few_generators : nat_abs (generators r) ≤ 65536

pub record SmallTable (t : Table ℤ) : Type 0 where
  pub primary_small : SmallRow (primary_row t)
  pub secondary_small : SmallRow (secondary_row t)

-- ---- listings: four numbers a table, row by row

abbrev pub numbers_of : Table ℤ → List ℤ
numbers_of t =
    octaves (primary_row t) ∷ generators (primary_row t) ∷ octaves (secondary_row t) ∷ generators (secondary_row t) ∷ []

abbrev pub listed_moves : List (Table ℤ) → List ℤ
listed_moves [] = []
listed_moves (t ∷ ts) = numbers_of t ++ listed_moves ts
