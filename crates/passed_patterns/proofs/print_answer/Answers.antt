-- The word and the pattern, or that there is nothing.
use mathlib.Core.Path.{sym, ap}
use Rattle.streams.proofs.Onward.{written_then, written_as}
use Rattle.passed_patterns.specs.Printing.{answer_line}
use Rattle.passed_patterns.proofs.print_answer.Goals as goal

pub returns-in-Some : goal.returns-in-Some
unfolding answer_line
returns-in-Some c =
    written_as (sym (ap (λ o. answer_line o) c.in-Some.is)) (written_then c.write.ensures c.print_pattern.ensures)

pub returns-in-None : goal.returns-in-None
unfolding answer_line
returns-in-None c = written_as (sym (ap (λ o. answer_line o) c.in-None.is)) c.write-in-None.ensures
