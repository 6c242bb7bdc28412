-- What a lookup hands back: the name's bytes as a part of the lent book slice at the key's offset and length, or a refusal, with its number.
use Rattle.std.specs.Prelude.{ℕ, ◌+◌, List, ◌≡◌, ℤ, take, drop, Result, Ok, Err, IfOk}
use Rattle.std.specs.Borrow.{Bor}
use Rattle.answer.specs.Outcome.{Outcome, given, refused}
use Rattle.answer.specs.Refusals.{number_of}
use Rattle.answer.specs.declared.Refusal.{Refusal}
use Rattle.book.specs.declared.Place.{Place}
use Rattle.book.specs.Books.{find_outcome}

-- Which bytes of the caller's memory a slice is, and what they hold: their block, where in it the first one stands, and the bytes.
pub record Slice : Type 0 where
  pub block : ℕ
  pub start : ℕ
  pub bytes : List ℕ

-- The slice that a reference stands for; its pointer is a block and a place in it.
abbrev pub slice : Bor (List ℕ) → Slice
slice s = record { block = s.ref_ptr.0; start = s.ref_ptr.1; bytes = s.now }

-- The part of a slice that begins `from` bytes on and is `size` bytes long.
abbrev pub part : Slice → ℕ → ℕ → Slice
part s from size = record { block = s.block; start = from + s.start; bytes = take size (drop from s.bytes) }

-- The part at a place of the book; the empty part at its front stands for none.
abbrev pub part_at : Outcome Place → Slice → Slice
part_at (given place) book = part book place.offset place.length
part_at (refused n) book = part book 0 0

-- "A lookup hands back the part of the caller's book that holds the name."
unfoldable pub name_part : Slice → ℤ → Slice
unfolding find_outcome
name_part book key = part_at (find_outcome book.bytes key) book

-- The number that a lookup tells: 0 where a name is found, else that of the question.
abbrev pub refusal_number : Outcome Place → ℕ
refusal_number (given place) = 0
refusal_number (refused n) = n

unfoldable pub name_refusal : List ℕ → ℤ → ℕ
unfolding find_outcome
name_refusal book key = refusal_number (find_outcome book key)

-- The number that a lookup's answer tells: 0 where it hands back a part, else that of the question.
abbrev pub number_told : Result (Bor (List ℕ)) Refusal → ℕ
number_told (Ok name) = 0
number_told (Err question) = number_of question

-- The promise of a lookup: the part that it hands back, and which question refused.
pub record LookedUp (book : Slice) (key : ℤ) (answer : Result (Bor (List ℕ)) Refusal) : Type 0 where
  pub is_part : IfOk answer (λ name. slice name ≡ name_part book key)
  pub is_number_lem : number_told answer ≡ name_refusal book.bytes key
