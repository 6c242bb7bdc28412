-- What is printed for a line: each pattern that the search for a layout's pattern stands at, then what it answers (document 02, W-205).
use Rattle.std.specs.Prelude.{ℕ, true, false, List, [], ◌∷◌, ◌++◌, length, ltb, Option, None, Some}
use Rattle.answer.specs.Outcome.{Outcome, given, and_then}
use Rattle.text.specs.Decimal.{digits}
use Rattle.line.specs.declared.Line.{Line}
use Rattle.line.specs.Lines.{space, line_feed, line_outcome}
use Rattle.genchain.specs.Chains.{chain_of}
use Rattle.genchain.specs.Answers.{generator_outcome}
use Rattle.mos.specs.declared.Mos.{Mos}
use Rattle.mos.specs.Patterns.{primaries, secondaries, primary, secondary, count_of}
use Rattle.mos.specs.Answers.{genesis_outcome}
use Rattle.mos.specs.Walks.{children, first_with}
use Rattle.line.specs.Refusals.{refusal_line, output_of}

-- A pattern's line: both counts, then both steps, one space between.
unfoldable pub pattern_line : Mos → List ℕ
unfolding digits
pattern_line m =
    (digits (primaries m) ++ (space ∷ []))
    ++ (digits (secondaries m) ++ (space ∷ []))
    ++ (digits (primary m) ++ (space ∷ []))
    ++ (digits (secondary m) ++ (line_feed ∷ []))

-- The patterns of a walk up to the first with n steps or more: where the search for n steps stands.
unfoldable pub passed : ℕ → List Mos → List Mos
passed n [] = []
passed n (m ∷ ms) = m ∷ elim (ltb (count_of m) n) [ true ↦ passed n ms | false ↦ [] ]

unfoldable pub pattern_lines : List Mos → List ℕ
unfolding pattern_line
pattern_lines [] = []
pattern_lines (m ∷ ms) = pattern_line m ++ pattern_lines ms

-- "found " and the pattern, or "nothing".
abbrev pub found_word : List ℕ
found_word = 102 ∷ 111 ∷ 117 ∷ 110 ∷ 100 ∷ space ∷ []

abbrev pub nothing_line : List ℕ
nothing_line = 110 ∷ 111 ∷ 116 ∷ 104 ∷ 105 ∷ 110 ∷ 103 ∷ line_feed ∷ []

unfoldable pub answer_line : Option Mos → List ℕ
unfolding pattern_line
answer_line None = nothing_line
answer_line (Some m) = found_word ++ pattern_line m

-- What is shown of the search for n steps from a pattern.
unfoldable pub shown : ℕ → Mos → List ℕ
unfolding passed pattern_lines answer_line children
shown n m = pattern_lines (passed n (children m)) ++ answer_line (first_with n (children m))

-- From the genesis of a generator, for a chain's letters.
unfoldable pub shown_from : Line → ℕ → Outcome (List ℕ)
unfolding chain_of genesis_outcome shown
shown_from a generator = and_then (genesis_outcome a.octave generator) (λ (m : Mos). given (shown (length (chain_of a.genchain).letters) m))

-- The questions of the generator, then the search.
unfoldable pub shown_for : Line → Outcome (List ℕ)
unfolding generator_outcome shown_from
shown_for a = and_then (generator_outcome a.genchain a.octave a.tritave) (shown_from a)

-- What the program prints: for the layout on the line, or the line of a refusal.
unfoldable pub output : List ℕ → List ℕ
unfolding line_outcome shown_for refusal_line
output line = output_of (and_then (line_outcome line) shown_for)
