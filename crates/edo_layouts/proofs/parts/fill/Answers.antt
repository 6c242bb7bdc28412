-- Question 10; then all numbers stand at the front.
use mathlib.Core.Path.{refl}
use Rattle.answer.proofs.Lent.{not_held, filled_refused}
use Rattle.edo_layouts.proofs.parts.fill.Goals as goal

pub returns-then-out-len : goal.returns-then-out-len
returns-then-out-len c = filled_refused 10 _ (not_held _ c.args.numbers.now c.if-out-len.true) refl
