-- Above 0, below 0, and neither.
use Rattle.edo_counts.proofs.Counting.{side_above, side_below, side_equal}
use Rattle.edo_counts.proofs.parts.Tally.with_pattern.Goals as goal

pub returns-then-pattern : goal.returns-then-pattern
returns-then-pattern c = side_above c.args.self c.args.pattern c.if-pattern.true

pub returns-then-pattern-2 : goal.returns-then-pattern-2
returns-then-pattern-2 c =
    side_below
    c.args.self
    c.args.pattern
    c.if-pattern-2.true

pub returns : goal.returns
returns c =
    side_equal
    c.args.self
    c.args.pattern
    c.if-pattern.false
    c.if-pattern-2.false
