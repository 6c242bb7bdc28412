-- What the parts behind the calls promise: what stands in a text, by the numbers that the code carries.
use Rattle.std.specs.Prelude.{ℕ, ◌+◌, ◌≤◌, ◌<◌, ◌≡◌, Bool, List, length, drop, Option, MatchOption, Result, Ok, Err}
use Rattle.answer.specs.Outcome.{Outcome, given, refused}
use Rattle.answer.specs.Refusals.{number_of}
use Rattle.answer.specs.declared.Refusal.{Refusal}
use Rattle.pergen.specs.declared.Spelling.{Spelling}
use Rattle.notes.specs.Names.{sharp_sign, flat_sign, letter_text, letter_at}
use Rattle.notes.specs.Reading.{leading}
use Rattle.layout.specs.Layouts.{Layout}
use Rattle.layout.specs.Parts.{layout_of}
use Rattle.layout_reading.specs.Reading.{bytes_before, letter_index}
use Rattle.layout_reading.specs.declared.reader.Reader.{Reader}
use Rattle.layout_reading.specs.declared.spellings.Front.{Front}
use Rattle.layout_reading.specs.declared.spellings.Marks.{Marks}
use Rattle.layout_reading.specs.declared.spellings.Typed.{Typed}

-- The layout that texts are read in.
abbrev pub reader_outcome : Result Reader Refusal → Outcome Layout
reader_outcome (Ok r) = given (layout_of r.found)
reader_outcome (Err q) = refused (number_of q)

-- n bytes stand before the first of a kind.
pub record Before (byte : ℕ) (text : List ℕ) (n : ℕ) : Type 0 where
  pub is : n ≡ bytes_before byte text
  pub inside : n ≤ length text

-- A byte stands n times from a place on.
pub record RunAt (byte at : ℕ) (text : List ℕ) (n : ℕ) : Type 0 where
  pub is : n ≡ leading byte (drop at text)
  pub inside : at + n ≤ length text

-- The letter at the front, and how many bytes it takes.
pub record FrontFound (letters text : List ℕ) (f : Front) : Type 0 where
  pub index_is : f.index ≡ letter_index letters text
  pub index_below : f.index < length letters
  pub bytes_are : f.bytes ≡ length (letter_text (letter_at letters f.index))
  pub inside : f.bytes ≤ length text

-- .. where one of the letters stands there.
abbrev pub FrontIn : (letters text : List ℕ) → Option Front → Type 0
FrontIn letters text o = MatchOption o (letter_index letters text ≡ length letters) (λ (f : Front). FrontFound letters text f)

-- Signs and stars from a place on.
pub record MarksFound (sharp_first : Bool) (at : ℕ) (text : List ℕ) (m : Marks) : Type 0 where
  pub sharps_are : m.sharps ≡ leading (sharp_sign sharp_first) (drop at text)
  pub flats_are : m.flats ≡ leading (flat_sign sharp_first) (drop at text)
  pub stars_are : m.stars ≡ leading 42 (drop (m.sharps + m.flats) (drop at text))
  pub inside : at + (m.sharps + m.flats) + m.stars ≤ length text

-- A spelling with any number of stars.
abbrev pub spelling_of : Typed → Spelling
spelling_of t = record { index = t.index; signs = t.signs; stars = t.stars }

abbrev pub typed_outcome : Result Typed Refusal → Outcome Spelling
typed_outcome (Ok t) = given (spelling_of t)
typed_outcome (Err q) = refused (number_of q)
