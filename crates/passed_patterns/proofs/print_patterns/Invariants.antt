-- As the search's own loop: the pattern at hand stays a pattern, and the sum of the steps falls with each child.
use Rattle.mos.specs.Patterns.{steps_of}
use Rattle.passed_patterns.proofs.Showing.{Going}
use Rattle.passed_patterns.proofs.print_patterns.Given as goal

abbrev pub invariant-loop-done : goal.invariant-loop-done
invariant-loop-done l = Going l.initial.done l.n l.initial.pattern l.done l.pattern

abbrev pub decreases-loop-done : goal.decreases-loop-done
decreases-loop-done l = steps_of l.pattern
