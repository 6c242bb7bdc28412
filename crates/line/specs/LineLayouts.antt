-- The layout that a line asks for (document 01, question 14, then those of the layout).
use Rattle.std.specs.Prelude.{List, ℕ}
use Rattle.answer.specs.Outcome.{Outcome, and_then}
use Rattle.layout.specs.declared.IsomorphicLayout.{IsomorphicLayout}
use Rattle.layout.specs.Layouts.{Layout, layout_outcome, default_layout}
use Rattle.line.specs.Lines.{line_outcome}
use Rattle.line.specs.declared.Line.{Line}

-- The layout that a line asks for, with the chain's own start.
abbrev pub layout_on : Line → IsomorphicLayout
layout_on a = default_layout a.genchain a.octave a.tritave

-- Question 14, then those of the layout.
unfoldable pub line_layout : List ℕ → Outcome Layout
unfolding line_outcome layout_outcome
line_layout line = and_then (line_outcome line) (λ (a : Line). layout_outcome (layout_on a))
