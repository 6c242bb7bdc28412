-- What the parts behind the call promise, and what they ask.
use Rattle.std.specs.Prelude.{ℕ, zero, suc, ◌≤◌, ◌≡◌, List, [], ◌∷◌, ℤ, Result, Ok, Err}
use Rattle.answer.specs.Outcome.{Outcome, given, refused}
use Rattle.answer.specs.Refusals.{number_of}
use Rattle.answer.specs.declared.Refusal.{Refusal}
use Rattle.math.specs.Division.{remainder}
use Rattle.pergen.specs.declared.stepping.Key.{Key}
use Rattle.pergen.specs.Parts.{At}
use Rattle.layout.specs.Layouts.{Layout}
use Rattle.layout.specs.Parts.{layout_in}
use Rattle.layout_lamps.specs.Lamps.{strip_length_in}
use Rattle.layout_sheet.specs.declared.Record.{Record}
use Rattle.layout_sheet.specs.declared.source.Source.{Source}
use Rattle.layout_sheet.specs.Sheets.{record_in}

-- The layout that records are filled from, or the refusal.
abbrev pub source_outcome : Result Source Refusal → Outcome Layout
source_outcome (Ok s) = given (layout_in s.prepared)
source_outcome (Err q) = refused (number_of q)

-- On the way from record to record: the key of the last one, one of the longest strip's.
abbrev pub OnStrip : Source → Key → Type 0
OnStrip s k = At s.prepared.solved k × (k.number ≤ 131070)

-- The key of the strip that a number asks for.
abbrev pub Asked : Source → ℤ → Key → Type 0
Asked s number k = OnStrip s k × (k.number ≡ remainder number (strip_length_in (layout_in s.prepared)))

-- The first elements of a list, each changed by f; the others as they are.
unfoldable pub changed : {A : Type 0} → (A → A) → (count : ℕ) → List A → List A
changed f zero xs = xs
changed f (suc count) [] = []
changed f (suc count) (x ∷ xs) = f x ∷ changed f count xs

-- The first records of a list, filled.
abbrev pub filled_to : Source → (count : ℕ) → List Record → List Record
filled_to s count records = changed (record_in (layout_in s.prepared)) count records
