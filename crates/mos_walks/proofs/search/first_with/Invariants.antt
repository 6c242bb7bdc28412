-- The loop's invariant: the search from the pattern at hand is the search from the first. The sum of the steps falls with each child.
use mathlib.Core.Path.{◌≡◌}
use mathlib.Core.Bool.{true}
use Rattle.mos.specs.Patterns.{is_pattern, steps_of}
use Rattle.mos.specs.Walks.{children, first_with}
use Rattle.mos_walks.proofs.search.first_with.Given as goal

abbrev pub invariant-loop-pattern : goal.invariant-loop-pattern
invariant-loop-pattern l =
    (is_pattern l.pattern.0 ≡ true) × (first_with l.n (children l.pattern.0) ≡ first_with l.n (children l.fn.m))

abbrev pub decreases-loop-pattern : goal.decreases-loop-pattern
decreases-loop-pattern l = steps_of l.pattern.0
