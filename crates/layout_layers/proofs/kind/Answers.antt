-- The definition's tests.
use native.Mathlib.Omega.{arith}
use Rattle.layout_layers.proofs.PlanLaws.{kind_natural, kind_sharp, kind_enharmonic, kind_flat}
use Rattle.layout_layers.proofs.kind.Goals as goal

pub returns-then-number-eq0 : goal.returns-then-number-eq0
returns-then-number-eq0 c = kind_natural _ _ c.if-number-eq0.true

pub returns-then-doubled-whole : goal.returns-then-doubled-whole
returns-then-doubled-whole c = kind_sharp _ _ c.if-number-eq0.false c.if-doubled-whole.true

pub returns-then-doubled-whole-2 : goal.returns-then-doubled-whole-2
returns-then-doubled-whole-2 c = kind_enharmonic _ _ c.if-number-eq0.false c.if-doubled-whole-2.true

pub returns-then-number-total : goal.returns-then-number-total
returns-then-number-total c = kind_flat _ _ c.if-number-eq0.false (omega arith) (omega arith)

pub returns : goal.returns
returns c = kind_flat _ _ c.if-number-eq0.false (omega arith) (omega arith)
