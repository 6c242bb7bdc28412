-- The patterns, then the answer.
use Rattle.std.specs.Prelude.{Option}
use Rattle.streams.proofs.Onward.{written_then, written_as, written_first}
use mathlib.Core.Path.{ap}
use Rattle.mos.specs.Walks.{children}
use mathlib.Core.List.{◌++◌}
use Rattle.mos.specs.declared.Mos.{Mos}
use Rattle.passed_patterns.specs.Printing.{passed, pattern_lines, answer_line, shown}
use Rattle.passed_patterns.proofs.print_search.Goals as goal

pub returns : goal.returns
unfolding shown
returns c =
    let lines = pattern_lines (passed c.args.n (children c.args.genesis)) in
    written_first c.begin.ensures.none
    (written_as (ap (λ (o : Option Mos). lines ++ answer_line o) c.first_with.ensures)
    (written_then c.print_patterns-done.ensures c.print_answer.ensures))
