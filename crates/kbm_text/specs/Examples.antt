-- Worked examples for an octave of two keys, and one theorem that the definitions give what is said here.
use Rattle.std.specs.Prelude.{ℕ, List, [], ◌∷◌, ◌++◌, map, ◌≡◌, eqb}
use Rattle.answer.specs.Outcome.{Outcome, given, refused}
use Rattle.kbm_text.specs.Kinds.{mark, frequency}
use Rattle.kbm_text.specs.Reading.{read_outcome}
use Rattle.kbm_text.specs.Written.{line, kbm_text}

-- 48 to 57 are digits, 120 is x and 88 X, 33 the exclamation mark, 13 the carriage return, 10 the line feed.
abbrev pub notes : List ℕ
notes = line (48 ∷ []) ++ line (49 ∷ 50 ∷ 55 ∷ []) ++ line (54 ∷ 48 ∷ []) ++ line (54 ∷ 57 ∷ [])

-- A head, by its size and octave degree.
abbrev pub head : List ℕ → List ℕ → List ℕ
head size degree = line size ++ notes ++ line frequency ++ line degree

abbrev pub two : List ℕ
two = 50 ∷ []

-- A text, by its two entries.
abbrev pub entries : List ℕ → List ℕ → List ℕ
entries a b = head two two ++ line a ++ line b

-- Key 0 mapped and key 1 not: 2, 0, 127, 60, 69, 440.000000, 2, 0, x.
abbrev pub good : List ℕ
good = 50 ∷ 10 ∷ 48 ∷ 10 ∷ 49 ∷ 50 ∷ 55 ∷ 10 ∷ 54 ∷ 48 ∷ 10 ∷ 54 ∷ 57 ∷ 10
    ∷ 52 ∷ 52 ∷ 48 ∷ 46 ∷ 48 ∷ 48 ∷ 48 ∷ 48 ∷ 48 ∷ 48 ∷ 10 ∷ 50 ∷ 10 ∷ 48 ∷ 10 ∷ 120 ∷ 10 ∷ []

pub record Example : Type 0 where
  pub text : List ℕ
  pub outcome : Outcome (List ℕ)

abbrev no_text : List ℕ
no_text = []

abbrev pub examples : List Example
examples =
    record { text = good; outcome = given (0 ∷ []) }
    -- the other choices
    ∷ record { text = entries mark (49 ∷ []); outcome = given (1 ∷ []) }
    ∷ record { text = entries (48 ∷ []) (49 ∷ []); outcome = given (0 ∷ 1 ∷ []) }
    ∷ record { text = entries mark mark; outcome = given [] }
    -- a line that is skipped: first, between head and entries, last; left over without its line feed
    ∷ record { text = line (33 ∷ 120 ∷ []) ++ good; outcome = given (0 ∷ []) }
    ∷ record { text = head two two ++ line (33 ∷ []) ++ line (48 ∷ []) ++ line mark; outcome = given (0 ∷ []) }
    ∷ record { text = good ++ line (33 ∷ []); outcome = given (0 ∷ []) }
    ∷ record { text = good ++ (33 ∷ []); outcome = refused 19 }
    -- an exclamation mark behind a space skips nothing
    ∷ record { text = line (32 ∷ 33 ∷ []) ++ good; outcome = refused 19 }
    -- a line left over: an empty one, a third entry, bytes; a line missing: an entry, all of them
    ∷ record { text = good ++ (10 ∷ []); outcome = refused 19 }
    ∷ record { text = good ++ line mark; outcome = refused 19 }
    ∷ record { text = good ++ (50 ∷ []); outcome = refused 19 }
    ∷ record { text = head two two ++ line mark; outcome = refused 19 }
    ∷ record { text = no_text; outcome = refused 19 }
    -- three entries that the size line asks for; two that it does not
    ∷ record { text = head (51 ∷ []) two ++ line mark ++ line mark ++ line mark; outcome = refused 19 }
    ∷ record { text = head (51 ∷ []) two ++ line mark ++ line mark; outcome = refused 20 }
    -- leading zeros; six digits; 99999, and 65538, which 16 bits would take for 2
    ∷ record { text = head (48 ∷ 48 ∷ 48 ∷ 48 ∷ 50 ∷ []) two ++ line mark ++ line (48 ∷ 49 ∷ []); outcome = given (1 ∷ []) }
    ∷ record { text = head (48 ∷ 48 ∷ 48 ∷ 48 ∷ 48 ∷ 50 ∷ []) two ++ line mark ++ line mark; outcome = refused 19 }
    ∷ record { text = head (57 ∷ 57 ∷ 57 ∷ 57 ∷ 57 ∷ []) two ++ line mark ++ line mark; outcome = refused 20 }
    ∷ record { text = head (54 ∷ 53 ∷ 53 ∷ 51 ∷ 56 ∷ []) two ++ line mark ++ line mark; outcome = refused 20 }
    -- a carriage return; an empty line for an entry; a sign; X
    ∷ record { text = head (50 ∷ 13 ∷ []) two ++ line mark ++ line mark; outcome = refused 19 }
    ∷ record { text = entries mark []; outcome = refused 19 }
    ∷ record { text = entries mark (43 ∷ 49 ∷ []); outcome = refused 19 }
    ∷ record { text = entries mark (88 ∷ []); outcome = refused 19 }
    -- the mark in the head, for the size and for the frequency; a number for the frequency; the frequency for a number
    ∷ record { text = head mark two ++ line mark ++ line mark; outcome = refused 19 }
    ∷ record { text = line two ++ notes ++ line mark ++ line two ++ line mark ++ line mark; outcome = refused 19 }
    ∷ record { text = line two ++ notes ++ line (52 ∷ 52 ∷ 48 ∷ []) ++ line two ++ line mark ++ line mark; outcome = refused 19 }
    ∷ record { text = head two frequency ++ line mark ++ line mark; outcome = refused 19 }
    -- another octave degree; entry 1 says 0; entry 0 says 1
    ∷ record { text = head two (51 ∷ []) ++ line mark ++ line mark; outcome = refused 20 }
    ∷ record { text = entries mark (48 ∷ []); outcome = refused 20 }
    ∷ record { text = entries (49 ∷ []) mark; outcome = refused 20 }
    -- both: another size, and an entry that is neither number nor mark
    ∷ record { text = head (51 ∷ []) two ++ line mark ++ line (121 ∷ []); outcome = refused 19 }
    ∷ []

-- Theorem.
pub record ExamplesHold : Type 0 where
  pub outcomes : map (λ (e : Example). read_outcome 2 e.text) examples ≡ map (λ (e : Example). e.outcome) examples
  -- key 0 alone is mapped
  pub written : kbm_text 2 (λ key. eqb key 0) ≡ good
