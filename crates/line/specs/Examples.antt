-- Worked examples of lines, given and refused, and one theorem that the definitions give what is said here.
use Rattle.std.specs.Prelude.{ℕ, List, [], ◌∷◌, map, ◌≡◌}
use Rattle.answer.specs.Outcome.{Outcome, given, refused}
use Rattle.line.specs.Lines.{line_text, line_outcome, number_line}
use Rattle.line.specs.declared.Line.{Line}

abbrev pub three : ℕ → ℕ → ℕ → Outcome Line
three a b c = given (record { genchain = a; octave = b; tritave = c })

pub record LineExample : Type 0 where
  pub line : List ℕ
  pub outcome : Outcome Line

-- 48 to 57 are digits, 32 is the space, 10 the line feed, 13 the carriage return, 43 and 45 the signs.
abbrev pub line_examples : List LineExample
line_examples =
    -- "1 12 19", "0 1817 3432", "5 4096 65535"
    record { line = 49 ∷ 32 ∷ 49 ∷ 50 ∷ 32 ∷ 49 ∷ 57 ∷ 10 ∷ []; outcome = three 1 12 19 }
    ∷ record { line = 48 ∷ 32 ∷ 49 ∷ 56 ∷ 49 ∷ 55 ∷ 32 ∷ 51 ∷ 52 ∷ 51 ∷ 50 ∷ 10 ∷ []; outcome = three 0 1817 3432 }
    ∷ record { line = 53 ∷ 32 ∷ 52 ∷ 48 ∷ 57 ∷ 54 ∷ 32 ∷ 54 ∷ 53 ∷ 53 ∷ 51 ∷ 53 ∷ 10 ∷ []; outcome = three 5 4096 65535 }
    -- leading zeros: "00001 00012 00019"
    ∷ record { line = 48 ∷ 48 ∷ 48 ∷ 48 ∷ 49 ∷ 32 ∷ 48 ∷ 48 ∷ 48 ∷ 49 ∷ 50 ∷ 32 ∷ 48 ∷ 48 ∷ 48 ∷ 49 ∷ 57 ∷ 10 ∷ []; outcome = three 1 12 19 }
    -- bytes after the line feed: "1 12 19", then ". 9" and a line feed
    ∷ record { line = 49 ∷ 32 ∷ 49 ∷ 50 ∷ 32 ∷ 49 ∷ 57 ∷ 10 ∷ 46 ∷ 32 ∷ 57 ∷ 10 ∷ []; outcome = three 1 12 19 }
    -- no byte; a line feed alone; no line feed; a carriage return before it
    ∷ record { line = []; outcome = refused 14 }
    ∷ record { line = 10 ∷ []; outcome = refused 14 }
    ∷ record { line = 49 ∷ 32 ∷ 49 ∷ 50 ∷ 32 ∷ 49 ∷ 57 ∷ []; outcome = refused 14 }
    ∷ record { line = 49 ∷ 32 ∷ 49 ∷ 50 ∷ 32 ∷ 49 ∷ 57 ∷ 13 ∷ 10 ∷ []; outcome = refused 14 }
    -- two spaces; a space first; a space last; a line feed between
    ∷ record { line = 49 ∷ 32 ∷ 32 ∷ 49 ∷ 50 ∷ 32 ∷ 49 ∷ 57 ∷ 10 ∷ []; outcome = refused 14 }
    ∷ record { line = 32 ∷ 49 ∷ 32 ∷ 49 ∷ 50 ∷ 32 ∷ 49 ∷ 57 ∷ 10 ∷ []; outcome = refused 14 }
    ∷ record { line = 49 ∷ 32 ∷ 49 ∷ 50 ∷ 32 ∷ 49 ∷ 57 ∷ 32 ∷ 10 ∷ []; outcome = refused 14 }
    ∷ record { line = 49 ∷ 10 ∷ 49 ∷ 50 ∷ 32 ∷ 49 ∷ 57 ∷ 10 ∷ []; outcome = refused 14 }
    ∷ record { line = 49 ∷ 32 ∷ 49 ∷ 50 ∷ 10 ∷ 49 ∷ 57 ∷ 10 ∷ []; outcome = refused 14 }
    -- signs; the bytes before 0 and after 9 as digits
    ∷ record { line = 43 ∷ 49 ∷ 32 ∷ 49 ∷ 50 ∷ 32 ∷ 49 ∷ 57 ∷ 10 ∷ []; outcome = refused 14 }
    ∷ record { line = 49 ∷ 32 ∷ 45 ∷ 49 ∷ 50 ∷ 32 ∷ 49 ∷ 57 ∷ 10 ∷ []; outcome = refused 14 }
    ∷ record { line = 49 ∷ 32 ∷ 49 ∷ 47 ∷ 32 ∷ 49 ∷ 57 ∷ 10 ∷ []; outcome = refused 14 }
    ∷ record { line = 49 ∷ 32 ∷ 49 ∷ 50 ∷ 32 ∷ 49 ∷ 58 ∷ 10 ∷ []; outcome = refused 14 }
    -- "1 4097 19", "1 12 65536", "65536 1 1", "123456 1 1", "000001 12 19", two numbers, four
    ∷ record { line = 49 ∷ 32 ∷ 52 ∷ 48 ∷ 57 ∷ 55 ∷ 32 ∷ 49 ∷ 57 ∷ 10 ∷ []; outcome = refused 14 }
    ∷ record { line = 49 ∷ 32 ∷ 49 ∷ 50 ∷ 32 ∷ 54 ∷ 53 ∷ 53 ∷ 51 ∷ 54 ∷ 10 ∷ []; outcome = refused 14 }
    ∷ record { line = 54 ∷ 53 ∷ 53 ∷ 51 ∷ 54 ∷ 32 ∷ 49 ∷ 32 ∷ 49 ∷ 10 ∷ []; outcome = refused 14 }
    ∷ record { line = 49 ∷ 50 ∷ 51 ∷ 52 ∷ 53 ∷ 54 ∷ 32 ∷ 49 ∷ 32 ∷ 49 ∷ 10 ∷ []; outcome = refused 14 }
    ∷ record { line = 48 ∷ 48 ∷ 48 ∷ 48 ∷ 48 ∷ 49 ∷ 32 ∷ 49 ∷ 50 ∷ 32 ∷ 49 ∷ 57 ∷ 10 ∷ []; outcome = refused 14 }
    ∷ record { line = 49 ∷ 32 ∷ 49 ∷ 50 ∷ 10 ∷ []; outcome = refused 14 }
    ∷ record { line = 49 ∷ 32 ∷ 49 ∷ 50 ∷ 32 ∷ 49 ∷ 57 ∷ 32 ∷ 49 ∷ 10 ∷ []; outcome = refused 14 }
    ∷ []

-- Theorem.
pub record ExamplesHold : Type 0 where
  pub outcomes : map (λ (e : LineExample). line_outcome e.line) line_examples ≡ map (λ (e : LineExample). e.outcome) line_examples
  -- a code of 6 or more is a number too: question 1 comes later
  pub any_code : line_outcome (line_text 65535 4096 65535) ≡ three 65535 4096 65535
  pub zeros : line_outcome (line_text 0 0 0) ≡ three 0 0 0
  pub written : line_text 1 12 19 ≡ 49 ∷ 32 ∷ 49 ∷ 50 ∷ 32 ∷ 49 ∷ 57 ∷ 10 ∷ []
  -- "31", "00031", "65535", "31" with bytes after the line feed
  pub numbers : map number_line ((51 ∷ 49 ∷ 10 ∷ []) ∷ (48 ∷ 48 ∷ 48 ∷ 51 ∷ 49 ∷ 10 ∷ []) ∷ (54 ∷ 53 ∷ 53 ∷ 51 ∷ 53 ∷ 10 ∷ []) ∷ (51 ∷ 49 ∷ 10 ∷ 46 ∷ []) ∷ [])
      ≡ given 31 ∷ given 31 ∷ given 65535 ∷ given 31 ∷ []
  -- no byte, a line feed alone, no line feed, a space behind, a sign, "65536", "000031"
  pub no_numbers : map number_line ([] ∷ (10 ∷ []) ∷ (51 ∷ 49 ∷ []) ∷ (51 ∷ 49 ∷ 32 ∷ 10 ∷ []) ∷ (45 ∷ 49 ∷ 10 ∷ []) ∷ (54 ∷ 53 ∷ 53 ∷ 51 ∷ 54 ∷ 10 ∷ []) ∷ (48 ∷ 48 ∷ 48 ∷ 48 ∷ 51 ∷ 49 ∷ 10 ∷ []) ∷ [])
      ≡ refused 14 ∷ refused 14 ∷ refused 14 ∷ refused 14 ∷ refused 14 ∷ refused 14 ∷ refused 14 ∷ []
