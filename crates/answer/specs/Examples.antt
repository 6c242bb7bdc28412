-- Worked examples of the definitions, and one theorem that they hold.
use Rattle.std.specs.Prelude.{ℕ, ◌+◌, true, false, List, [], ◌∷◌, map, ◌≡◌}
use Rattle.answer.specs.declared.Refusal.{Refusal}
use Rattle.answer.specs.declared.Refusal.TheVariants.{
  Chain,
  Period,
  Generator,
  Pattern,
  Symbols,
  Origin,
  Size,
  CoprimeSize,
  Room,
  BookPairs,
  BookCover,
  BookKey,
  Line,
  Division,
  Letter,
  Code,
  Start,
  MappingLines,
  MappingNumbers,
  Stars,
  FractionalGenerator,
  NoteName,
  TwoKeys,
  BoardSize,
}
use Rattle.answer.specs.Outcome.{Outcome, given, refused, ask, and_then}
use Rattle.answer.specs.Refusals.{number_of}
use Rattle.answer.specs.Lent.{held_in, in_room, counted, written}

-- The questions in document 01's order, but for 9.
abbrev pub in_order : List Refusal
in_order =
    Chain ∷ Period ∷ Generator ∷ Pattern ∷ Symbols ∷ Origin ∷ Size ∷ CoprimeSize ∷ Room ∷ BookPairs ∷ BookCover ∷ BookKey ∷ Line ∷ []

-- Three questions in rising order: all with the answer yes, and the second and the third with the answer no.
abbrev pub accepted : Outcome ℕ
accepted = ask 1 true (ask 2 true (ask 3 true (given 7)))

abbrev pub stopped : Outcome ℕ
stopped = ask 1 true (ask 2 false (ask 3 false (given 7)))

-- One question more, of the value.
abbrev pub further : ℕ → Outcome ℕ
further n = ask 4 true (given (n + 1))

-- An output of two elements.
abbrev pub output : List ℕ
output = 5 ∷ 6 ∷ []

-- Theorem.
pub record ExamplesHold : Type 0 where
  -- "numbered": from 1 to 14; 9 is reserved (document 02, W-207)
  pub numbers : map number_of in_order ≡ 1 ∷ 2 ∷ 3 ∷ 4 ∷ 5 ∷ 6 ∷ 7 ∷ 8 ∷ 10 ∷ 11 ∷ 12 ∷ 13 ∷ 14 ∷ []
  -- document 02: "15 when n is outside 1 to 400", "16 when the letter's place is not below the number of letters", "17 when an old strip
  -- holds a code from 202 to 254, or ..", "18 when the start is not below the number of letters", "19 when a line is missing or left over,
  -- or ..", "20 when one of the other six head numbers differs from ours or ..", "21 when the stars are not below" the cycles, "22 when the
  -- generator is infinite or not a number"; then 23 when a text is no spelling's or name's, 24 when its two spellings sound two keys, 25
  -- when a board has no columns or rows, or more than 64
  pub later_numbers :
      map number_of (Division ∷ Letter ∷ Code ∷ Start ∷ MappingLines ∷ MappingNumbers ∷ Stars ∷ FractionalGenerator ∷ NoteName ∷ TwoKeys ∷ BoardSize ∷ [])
      ≡ 15 ∷ 16 ∷ 17 ∷ 18 ∷ 19 ∷ 20 ∷ 21 ∷ 22 ∷ 23 ∷ 24 ∷ 25 ∷ []
  -- "the first no gives its number and nothing else", "a yes to all gives the answer"
  pub first_no : stopped ≡ refused 2
  pub all_yes : accepted ≡ given 7
  pub goes_on : and_then accepted further ≡ given 8
  pub stops : and_then stopped further ≡ refused 2
  -- question 10, at exactly enough room and one short
  pub enough : held_in 2 output ≡ given output
  pub one_short : held_in 1 output ≡ refused 10
  -- and after the questions of the call
  pub own_first : in_room {A = ℕ} 0 (refused 18) ≡ refused 18
  pub count : counted (given output) ≡ given 2
  pub no_count : counted {A = ℕ} (refused 10) ≡ refused 10
  -- a longer slice keeps what lies past the output, and a refusal changes nothing
  pub front : written (given output) (1 ∷ 2 ∷ 3 ∷ 4 ∷ []) ≡ 5 ∷ 6 ∷ 3 ∷ 4 ∷ []
  pub untouched : written {A = ℕ} (refused 10) (1 ∷ 2 ∷ 3 ∷ []) ≡ 1 ∷ 2 ∷ 3 ∷ []
