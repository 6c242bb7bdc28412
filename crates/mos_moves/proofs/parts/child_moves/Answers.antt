-- Which of the two steps is the longer one decides.
use Rattle.mos_moves.proofs.Going.{moves_longer_primary, moves_longer_secondary}
use Rattle.mos_moves.proofs.parts.child_moves.Goals as goal

pub returns-then-pattern : goal.returns-then-pattern
returns-then-pattern c =
    moves_longer_primary c.args.pattern c.args.moves c.if-pattern.true c.less_row.ensures

pub returns : goal.returns
returns c =
    moves_longer_secondary c.args.pattern c.args.moves c.if-pattern.false c.less_row-2.ensures
