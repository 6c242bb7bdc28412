-- By two tests.
use Rattle.layout_explaining.proofs.Numbers.{stars_differ, comes_round, comes_not_round}
use Rattle.layout_explaining.proofs.counting.verdict.Goals as goal

pub returns-then-one-other : goal.returns-then-one-other
returns-then-one-other c = stars_differ _ _ _ _ c.if-one-other.true

pub returns-then-apart-reduced_period-eq0 : goal.returns-then-apart-reduced_period-eq0
returns-then-apart-reduced_period-eq0 c = comes_round _ _ _ _ c.if-one-other.false c.if-apart-reduced_period-eq0.true

pub returns : goal.returns
returns c = comes_not_round _ _ _ _ c.if-one-other.false c.if-apart-reduced_period-eq0.false
