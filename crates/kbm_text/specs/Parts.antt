-- What the parts behind the calls promise, line by line.
use Rattle.std.specs.Prelude.{ℕ, ◌+◌, ◌-◌, ◌<◌, ◌≤◌, Bool, true, false, ◌&&◌, List, ◌∷◌, ◌≡◌, length, get_or, take, drop, Option, Some, None}
use Rattle.text.specs.Decimal.{value}
use Rattle.text.specs.Writing.{Wrote}
use Rattle.kbm_text.specs.Lines.{lines}
use Rattle.kbm_text.specs.Kinds.{says_number, is_comment_kind}
use Rattle.kbm_text.specs.Reading.{fits_at, agrees_at, key_at, said, all_fit, all_agree, keys_from}
use Rattle.kbm_text.specs.declared.kinds.Kind.{Kind}
use Rattle.kbm_text.specs.declared.kinds.Kind.TheVariants.{Number, Frequency, Mark, Comment, Other}
use Rattle.kbm_text.specs.declared.scan.Scan.{Scan}
use Rattle.kbm_text.specs.declared.scan.Spot.{Spot}

-- ---- one line

-- What `number_in` promises.
pub record NumberRead (line : List ℕ) (r : Option ℕ) : Type 0 where
  pub yes : says_number line ≡ true → r ≡ Some (value line)
  pub no : says_number line ≡ false → r ≡ None

-- A text whose last byte is a line feed.
pub record Closed (text : List ℕ) : Type 0 where
  pub some : 0 < length text
  pub feed : get_or text (length text - 1) 0 ≡ 10

-- The line from `at` on ends at `end`.
pub record Cut (text : List ℕ) (at end : ℕ) : Type 0 where
  pub from : at ≤ end
  pub inside : end < length text
  pub first : lines (drop at text) ≡ take (end - at) (drop at text) ∷ lines (drop (end + 1) text)

-- ---- the pass that asks

abbrev pub key_count : ℕ → Kind → ℕ
key_count k kind = length (key_at k kind)

-- One line more, unless it is skipped.
abbrev pub with_line : ℕ → Scan → Kind → Scan
with_line octave s kind =
    record {
      line = s.line + 1;
      fits = s.fits && fits_at s.line kind;
      agrees = s.agrees && agrees_at octave s.line kind;
      keys = s.keys + key_count s.line kind;
    }

abbrev pub unless : Bool → Scan → Scan → Scan
unless true s t = s
unless false s t = t

unfoldable pub next_scan : ℕ → Scan → Kind → Scan
next_scan octave s kind = unless (is_comment_kind kind) s (with_line octave s kind)

pub record Scanned (octave : ℕ) (text : List ℕ) (s : Scan) : Type 0 where
  pub count : length (said (lines text)) ≡ s.line
  pub fit : all_fit 0 (said (lines text)) ≡ s.fits
  pub agree : all_agree octave 0 (said (lines text)) ≡ s.agrees
  pub mapped : length (keys_from 0 (said (lines text))) ≡ s.keys

-- ---- the pass that writes

abbrev pub line_after : ℕ → Kind → ℕ
line_after k (Number n) = k + 1
line_after k Frequency = k + 1
line_after k Mark = k + 1
line_after k Comment = k
line_after k Other = k + 1

pub record PutKey (before : List ℕ) (spot : Spot) (kind : Kind) (after : List ℕ) (next : Spot) : Type 0 where
  pub wrote : Wrote before spot.put (key_at spot.line kind) after next.put
  pub line_is : next.line ≡ line_after spot.line kind

-- ---- the writer

-- A text's length, which is at most `most`.
pub record LengthUpTo (most : ℕ) (text : List ℕ) (r : ℕ) : Type 0 where
  pub is : r ≡ length text
  pub few : r ≤ most
