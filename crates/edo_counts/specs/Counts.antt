-- The report over all octave divisions (document 02, W-202): "one line per chain code, rising: the code, then the number of layouts with
-- sharpness above 0, below 0 and at 0, one space between."
use Rattle.std.specs.Prelude.{ℕ, ◌+◌, Bool, ◌&&◌, List, [], ◌∷◌, ◌++◌, eqb, ltb}
use Rattle.line.specs.Lines.{space, line_feed}
use Rattle.mos.specs.declared.Mos.{Mos}
use Rattle.mos.specs.Patterns.{primary, secondary}
use Rattle.text.specs.Decimal.{digits}
use Rattle.text.specs.Writing.{joined}
use Rattle.edo_layouts.specs.declared.EdoLayout.{EdoLayout}
use Rattle.edo_layouts.specs.Layouts.{gathered, layouts_of, one}
use Rattle.edo_counts.specs.declared.parts.Tally.{Tally}

-- ---- "over all 400"

-- All layouts that `find_by_edo` gives for 1, for 2, and so on up to `last`.
unfoldable pub all_layouts : ℕ → List EdoLayout
unfolding gathered layouts_of
all_layouts last = gathered (λ (before : ℕ). layouts_of (before + 1)) last

-- ---- "the number of layouts with sharpness above 0, below 0 and at 0"

-- How many of a list pass a test.
unfoldable pub count_passing : (EdoLayout → Bool) → List EdoLayout → ℕ
count_passing test [] = 0
count_passing test (c ∷ rest) = one (test c) + count_passing test rest

-- Sharpness is the primary less the secondary step.
abbrev pub is_above : Mos → Bool
is_above m = ltb (secondary m) (primary m)

abbrev pub is_below : Mos → Bool
is_below m = ltb (primary m) (secondary m)

abbrev pub is_equal : Mos → Bool
is_equal m = eqb (primary m) (secondary m)

-- A layout of this chain, on this side of 0.
abbrev pub of_chain : ℕ → (Mos → Bool) → EdoLayout → Bool
of_chain code side c = eqb c.layout.genchain code && side c.pattern

-- The three numbers of a chain.
unfoldable pub tally_of : ℕ → List EdoLayout → Tally
unfolding count_passing
tally_of code list =
    record {
      above = count_passing (of_chain code is_above) list;
      below = count_passing (of_chain code is_below) list;
      equal = count_passing (of_chain code is_equal) list;
    }

-- ---- the lines

-- "the code, then the number[s] .. one space between"
unfoldable pub report_line : (code above below equal : ℕ) → List ℕ
unfolding digits
report_line code above below equal =
    (digits code ++ (space ∷ [])) ++ (digits above ++ (space ∷ [])) ++ (digits below ++ (space ∷ [])) ++ (digits equal ++ (line_feed ∷ []))

-- A chain's line.
unfoldable pub chain_line : ℕ → List ℕ
unfolding report_line tally_of all_layouts
chain_line code =
    let t = tally_of code (all_layouts 400) in
    report_line code t.above t.below t.equal

-- "one line per chain code, rising"
unfoldable pub report : List ℕ
unfolding joined chain_line
report = joined chain_line 6
