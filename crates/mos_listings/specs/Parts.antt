-- What the inner functions promise to the entry points.
use Rattle.std.specs.Prelude.{ℕ, ◌+◌, ◌≤◌, ◌<◌, ◌≡◌, true, List, ◌++◌, length}
use Rattle.text.specs.Writing.{Wrote}
use Rattle.mos.specs.declared.Mos.{Mos}
use Rattle.mos.specs.Patterns.{is_pattern, steps_of, dual_of}
use Rattle.mos.specs.Walks.{children, parents, listed}

-- The walk of parents of the pattern with this dual.
abbrev pub dual_parents : Mos → List Mos
dual_parents d = parents (dual_of d)

-- A walk from m has been listed up to a pattern `next` of it: `part` stands there, and with what is still to come it makes up the whole.
-- The steps tell how far it is to the end: those of the pattern, or for parents those of its dual.
pub record Listing (walk : Mos → List Mos) (m : Mos) (before : List ℕ) (at : ℕ) (next : Mos) (after : List ℕ) (place : ℕ) : Type 0 where
  pub part : List ℕ
  pub wrote : Wrote before at part after place
  pub whole : part ++ listed (walk next) ≡ listed (walk m)
  pub pattern : is_pattern next ≡ true
  pub falls : steps_of next ≤ steps_of m

-- `to` stands so many patterns after m on the walk of children, and its steps are shorter.
pub record Leaps (m : Mos) (turns : ℕ) (to : Mos) : Type 0 where
  pub counted : length (children m) ≡ length (children to) + turns
  pub pattern : is_pattern to ≡ true
  pub falls : steps_of to < steps_of m
