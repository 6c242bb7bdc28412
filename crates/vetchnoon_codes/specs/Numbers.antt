-- The numbers that stand for the library's answers.
use Rattle.std.specs.Prelude.{ℕ, List, [], ◌∷◌, Option, None, Some}
use Rattle.answer.specs.Outcome.{Outcome, given, refused}
use Rattle.mos.specs.declared.Mos.{Mos}
use Rattle.mos.specs.Walks.{fields}
use Rattle.pergen.specs.declared.Accidentals.{Accidentals}

-- The numbers of a value, where it is given.
abbrev pub as_numbers : {A : Type 0} → (A → List ℕ) → Outcome A → Outcome (List ℕ)
as_numbers numbers (given a) = given (numbers a)
as_numbers numbers (refused n) = refused n

-- "No child" and "no parent" are ordinary answers: no numbers. A pattern has four, its `fields`.
abbrev pub walk_numbers : Option Mos → List ℕ
walk_numbers None = []
walk_numbers (Some m) = fields m

-- "The sharp index and count .. The flat index .. the flat count"
abbrev pub accidentals_numbers : Accidentals → List ℕ
accidentals_numbers a = a.sharp_index ∷ a.sharp_count ∷ a.flat_index ∷ a.flat_count ∷ []
