-- Which keys a text maps (document 02, W-210). Lines are counted from 0, those that are skipped left out: seven of the head, then entry k
-- on line 7 + k.
use Rattle.std.specs.Prelude.{ℕ, suc, ◌+◌, ◌-◌, Bool, true, false, ◌&&◌, not, List, [], ◌∷◌, ◌++◌, length, get_or, leb, eqb}
use Rattle.answer.specs.Choice.{pick}
use Rattle.answer.specs.Outcome.{Outcome, given, ask, and_then}
use Rattle.answer.specs.Lent.{held_in}
use Rattle.kbm_text.specs.Lines.{lines, is_closed}
use Rattle.kbm_text.specs.Kinds.{kind_of}
use Rattle.kbm_text.specs.declared.kinds.Kind.{Kind}
use Rattle.kbm_text.specs.declared.kinds.Kind.TheVariants.{Number, Frequency, Mark, Comment, Other}

-- ---- one line

-- The number that is due on line k: "size, first and last note, middle note, reference note, frequency, octave degree, then the entries";
-- "Size and octave degree are the octave steps. First, last, middle and reference are 0, 127, 60, 69"; entry k is k. The frequency's line
-- has no number.
unfoldable pub due : ℕ → ℕ → ℕ
due octave k = get_or (octave ∷ 0 ∷ 127 ∷ 60 ∷ 69 ∷ 0 ∷ octave ∷ []) k (k - 7)

-- 19, of one line: it is "a number of 1 to 5 digits, the frequency just given in its place, or among the entries the mark".
abbrev pub fits_at : ℕ → Kind → Bool
fits_at k (Number n) = not (eqb k 5)
fits_at k Frequency = eqb k 5
fits_at k Mark = leb 7 k
fits_at k Comment = false
fits_at k Other = false

-- 20, of one line: a number is the one that is due.
abbrev pub agrees_at : ℕ → ℕ → Kind → Bool
agrees_at octave k (Number n) = eqb n (due octave k)
agrees_at octave k Frequency = true
agrees_at octave k Mark = true
agrees_at octave k Comment = true
agrees_at octave k Other = true

-- The mapped key of a line: an entry that is a number.
abbrev pub key_at : ℕ → Kind → List ℕ
key_at k (Number n) = pick (leb 7 k) ((k - 7) ∷ []) []
key_at k Frequency = []
key_at k Mark = []
key_at k Comment = []
key_at k Other = []

-- ---- all lines

-- "It skips lines that begin with an exclamation mark."
abbrev pub not_comment : Kind → List Kind
not_comment Comment = []
not_comment (Number n) = Number n ∷ []
not_comment Frequency = Frequency ∷ []
not_comment Mark = Mark ∷ []
not_comment Other = Other ∷ []

-- What the lines say that are not skipped.
unfoldable pub said : List (List ℕ) → List Kind
unfolding kind_of
said [] = []
said (line ∷ rest) = not_comment (kind_of line) ++ said rest

-- 19 and 20 of the lines from number k on, and the keys that they map.
unfoldable pub all_fit : ℕ → List Kind → Bool
all_fit k [] = true
all_fit k (kind ∷ rest) = fits_at k kind && all_fit (suc k) rest

unfoldable pub all_agree : ℕ → ℕ → List Kind → Bool
unfolding due
all_agree octave k [] = true
all_agree octave k (kind ∷ rest) = agrees_at octave k kind && all_agree octave (suc k) rest

unfoldable pub keys_from : ℕ → List Kind → List ℕ
keys_from k [] = []
keys_from k (kind ∷ rest) = key_at k kind ++ keys_from (suc k) rest

-- 19: no line is missing or left over, and each is of a form that is due; "expects as many entries as its octave steps, even where the size
-- line says otherwise".
unfoldable pub has_lines : ℕ → List ℕ → Bool
unfolding lines said is_closed all_fit
has_lines octave text = is_closed text && eqb (length (said (lines text))) (7 + octave) && all_fit 0 (said (lines text))

-- 20: "the other six head numbers" and the entries that are numbers are ours.
unfoldable pub has_numbers : ℕ → List ℕ → Bool
unfolding lines said all_agree
has_numbers octave text = all_agree octave 0 (said (lines text))

-- "It takes any choice of mapped keys and gives them back as a list, rising".
unfoldable pub keys_in : List ℕ → List ℕ
unfolding lines said keys_from
keys_in text = keys_from 0 (said (lines text))

-- 19 of the whole text, then 20, then the mapped keys.
unfoldable pub read_outcome : ℕ → List ℕ → Outcome (List ℕ)
unfolding has_lines has_numbers keys_in
read_outcome octave text = ask 19 (has_lines octave text) (ask 20 (has_numbers octave text) (given (keys_in text)))

-- Then question 10, of an output slice with `room` elements.
abbrev pub read_in : ℕ → List ℕ → ℕ → Outcome (List ℕ)
read_in octave text room = and_then (read_outcome octave text) (held_in room)
