-- What the program `edo` prints for a line (document 02, W-202: "Schools type only "31""), as bytes.
use Rattle.std.specs.Prelude.{ℕ, List, [], ◌∷◌, ◌++◌}
use Rattle.answer.specs.Outcome.{Outcome, given, ask, and_then}
use Rattle.genchain.specs.Chains.{chain_of}
use Rattle.layout.specs.ScaleNames.{scale_name}
use Rattle.line.specs.Refusals.{refusal_line, output_of}
use Rattle.line.specs.Lines.{space, line_feed, number_line}
use Rattle.text.specs.Decimal.{digits}
use Rattle.edo_layouts.specs.declared.EdoLayout.{EdoLayout}
use Rattle.edo_layouts.specs.Layouts.{layouts_of, joined_over}
use Rattle.edo_tritaves.specs.Tritaves.{is_division}

-- Three numbers, each with a space behind it.
abbrev pub numbers_part : ℕ → ℕ → ℕ → List ℕ
numbers_part a b c = (digits a ++ (space ∷ [])) ++ (digits b ++ (space ∷ [])) ++ (digits c ++ (space ∷ []))

-- Two names, a space between and a line feed behind.
abbrev pub names_part : List ℕ → List ℕ → List ℕ
names_part chain scale = chain ++ (space ∷ []) ++ scale ++ (line_feed ∷ [])

-- Chain code, octave, tritave, and two names, one space between.
unfoldable pub line_with : (code octave tritave : ℕ) (chain scale : List ℕ) → List ℕ
unfolding digits
line_with code octave tritave chain scale = numbers_part code octave tritave ++ names_part chain scale

-- A layout's line: "1 31 49 Meantone[7] diatonic".
unfoldable pub layout_line : EdoLayout → List ℕ
unfolding line_with scale_name chain_of
layout_line c =
    let r = c.layout in
    line_with r.genchain r.octave r.tritave (chain_of r.genchain).name (scale_name r.genchain c.pattern)

-- Question 15, then a line for each layout, in the order of chains; where none has a layout there is no line.
unfoldable pub division_lines : ℕ → Outcome (List ℕ)
unfolding layout_line joined_over layouts_of
division_lines n = ask 15 (is_division n) (given (joined_over layout_line (layouts_of n)))

-- What the program prints: question 14, of the line, then the lines; a refusal prints only `refused`, a space and the number.
unfoldable pub output : List ℕ → List ℕ
unfolding number_line division_lines refusal_line
output line = output_of (and_then (number_line line) division_lines)
