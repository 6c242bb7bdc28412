-- The number of each refusal, and what the shared answers mean (document 01, "Questions before an answer"; 15 to 22 of document 02; 23 to 25 of typed names and the board).
use Rattle.std.specs.Prelude.{ℕ, Result, Ok, Err}
use Rattle.answer.specs.Outcome.{Outcome, given, refused}
use Rattle.answer.specs.declared.Refusal.{Refusal}
use Rattle.answer.specs.declared.Refusal.TheVariants.{
  Chain,
  Period,
  Generator,
  Pattern,
  Symbols,
  Origin,
  Size,
  CoprimeSize,
  Room,
  BookPairs,
  BookCover,
  BookKey,
  Line,
  Division,
  Letter,
  Code,
  Start,
  MappingLines,
  MappingNumbers,
  Stars,
  FractionalGenerator,
  NoteName,
  TwoKeys,
  BoardSize,
}

-- The questions, by their numbers: document 01's, then those of document 02 that are asked. 9 is no question's any more: it always has the
-- answer yes (document 02, W-207).
abbrev pub number_of : Refusal → ℕ
number_of Chain = 1
number_of Period = 2
number_of Generator = 3
number_of Pattern = 4
number_of Symbols = 5
number_of Origin = 6
number_of Size = 7
number_of CoprimeSize = 8
number_of Room = 10
number_of BookPairs = 11
number_of BookCover = 12
number_of BookKey = 13
number_of Line = 14
number_of Division = 15
number_of Letter = 16
number_of Code = 17
number_of Start = 18
number_of MappingLines = 19
number_of MappingNumbers = 20
number_of Stars = 21
number_of FractionalGenerator = 22
number_of NoteName = 23
number_of TwoKeys = 24
number_of BoardSize = 25

-- What an answer means: the value that was given, or the number of the question that refused.
abbrev pub outcome_of : {A : Type 0} → Result A Refusal → Outcome A
outcome_of (Ok a) = given a
outcome_of (Err q) = refused (number_of q)
