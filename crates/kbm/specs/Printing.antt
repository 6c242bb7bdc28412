-- What is printed: `kbm_output` of the whole line, by `Printed` of `streams`.
use Rattle.std.specs.Prelude.{ℕ, List}
use Rattle.answer.specs.Outcome.{and_then}
use Rattle.line.specs.declared.Line.{Line}
use Rattle.line.specs.Lines.{line_outcome}
use Rattle.line.specs.LineLayouts.{layout_on}
use Rattle.line.specs.Refusals.{refusal_line, output_of}
use Rattle.layout_kbm.specs.Mappings.{get_kbm}

-- The key table's line: question 14, then the mapping of the layout, with the chain's own start; or the line of a refusal.
unfoldable pub kbm_output : List ℕ → List ℕ
unfolding line_outcome get_kbm refusal_line
kbm_output line = output_of (and_then (line_outcome line) (λ (a : Line). get_kbm (layout_on a)))
