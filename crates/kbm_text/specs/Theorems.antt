-- What holds of every text, and of every mapping that is written. Proofs: proofs/Whole.antt, Comments.antt, ReadBack.antt.
use Rattle.std.specs.Prelude.{ℕ, ◌+◌, ◌*◌, ◌≤◌, Bool, true, false, List, ◌∷◌, ◌++◌, ◌≡◌, length}
use Rattle.answer.specs.Outcome.{given, refused}
use Rattle.kbm_text.specs.Lines.{lines, is_closed, ended, no_feed, no_feeds}
use Rattle.kbm_text.specs.Reading.{said, read_outcome}
use Rattle.kbm_text.specs.Written.{kbm_text, mapped_keys}

-- Theorem: the lines of a text are the lines: each is ended by a line feed, and none has one within.
pub record LinesAreTheText : Type 0 where
  pub whole : (text : List ℕ) → is_closed text ≡ true → ended (lines text) ≡ text
  pub no_feed_lem : (text : List ℕ) → no_feeds (lines text) ≡ true
  pub back : (each : List (List ℕ)) → no_feeds each ≡ true → (is_closed (ended each) ≡ true) × (lines (ended each) ≡ each)

-- Theorem: what is read depends on a text through its lines alone, and of them only through what those say that are not skipped; a text
-- with bytes left over behind them is refused, whatever they are.
pub record OnlyLinesCount : Type 0 where
  pub same_lines : (octave : ℕ) (a b : List ℕ) → is_closed a ≡ true → is_closed b ≡ true → said (lines a) ≡ said (lines b)
      → read_outcome octave a ≡ read_outcome octave b
  pub left_over : (octave : ℕ) (text : List ℕ) → is_closed text ≡ false → read_outcome octave text ≡ refused 19

-- Theorem: a line that begins with an exclamation mark, wherever a line may begin, changes nothing. 33 is the exclamation mark.
abbrev pub CommentsSkipped : Type 0
CommentsSkipped =
    (octave : ℕ) (before comment after : List ℕ) → is_closed before ≡ true → no_feed comment ≡ true
    → read_outcome octave (before ++ (33 ∷ comment ++ 10 ∷ after)) ≡ read_outcome octave (before ++ after)

-- Theorem: "what we write reads back": whichever keys are mapped, these are read.
abbrev pub ReadsBack : Type 0
ReadsBack =
    (octave : ℕ) (mapped : ℕ → Bool) → octave ≤ 65535 → read_outcome octave (kbm_text octave mapped) ≡ given (mapped_keys octave mapped)

-- Theorem: how much room holds every mapping.
abbrev pub MappingsFit : Type 0
MappingsFit = (octave : ℕ) (mapped : ℕ → Bool) → octave ≤ 65535 → length (kbm_text octave mapped) ≤ 6 * octave + 35
