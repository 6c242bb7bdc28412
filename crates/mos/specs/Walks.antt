-- Walks of step patterns: the sequence of children, and the sequence of parents (document 01, "Step patterns" and "Port order").
use Rattle.std.specs.Prelude.{ℕ, zero, suc, true, false, List, [], ◌∷◌, ◌++◌, eqb, Option, None, Some}
use Rattle.mos.specs.declared.Mos.{Mos}
use Rattle.mos.specs.Patterns.{primaries, secondaries, primary, secondary, count_of, steps_of, child_of, parent_of}

-- The rest of a walk, where there is a next pattern.
abbrev pub onward : Option Mos → (Mos → List Mos) → List Mos
onward None rest = []
onward (Some m) rest = rest m

-- A pattern, the next one after it, and so on to the end. The number bounds the walk's length; the theorems say that it is never met.
unfoldable pub walk : (Mos → Option Mos) → ℕ → Mos → List Mos
walk next zero m = m ∷ []
walk next (suc more) m = m ∷ onward (next m) (walk next more)

-- The whole walk of children from m, m itself first: the sum of the steps falls with each.
unfoldable pub children : Mos → List Mos
unfolding walk child_of
children m = walk child_of (steps_of m) m

-- The whole walk of parents from m, m itself first: the sum of the counts falls with each.
unfoldable pub parents : Mos → List Mos
unfolding walk parent_of
parents m = walk parent_of (count_of m) m

-- The first pattern with n steps, if there is one ("does the walk meet one with as many steps as the chain has letters").
abbrev pub first_with : ℕ → List Mos → Option Mos
first_with n [] = None
first_with n (m ∷ ms) = elim (eqb (count_of m) n) [ true ↦ Some m | false ↦ first_with n ms ]

-- The last pattern of a walk that begins at m.
abbrev pub last_after : Mos → List Mos → Mos
last_after m [] = m
last_after m (n ∷ ms) = last_after n ms

-- The genesis of a pattern (`Mos::genesis`): the last of its parents.
unfoldable pub genesis_of : Mos → Mos
unfolding parents
genesis_of m = last_after m (parents m)

-- A listing has four numbers a pattern: both counts, then both steps.
abbrev pub fields : Mos → List ℕ
fields m = primaries m ∷ secondaries m ∷ primary m ∷ secondary m ∷ []

abbrev pub listed : List Mos → List ℕ
listed [] = []
listed (m ∷ ms) = fields m ++ listed ms
