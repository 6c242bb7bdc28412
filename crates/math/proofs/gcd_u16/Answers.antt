use mathlib.Core.Path.{sym, ap, ◌∙◌}
use borrow.Author.Rules.{rules}
use Rattle.math.specs.Gcd.{gcd}
use Rattle.math.proofs.Gcd.{gcd_step, gcd_found, gcd_none}
use Rattle.math.proofs.gcd_u16.Goals as goal

pub loop-b-preserved : goal.loop-b-preserved
loop-b-preserved c = sym (gcd_step c.loop-b.a c.loop-b.b (search rules)) ∙ c.loop-b.invariant

pub returns-then-a-eq0 : goal.returns-then-a-eq0
returns-then-a-eq0 c =
    gcd_none _ _ _ c.if-a-eq0.true (ap (gcd c.loop-b.a) (sym c.loop-b-test.false) ∙ c.loop-b.invariant)

pub returns-else-a-eq0 : goal.returns-else-a-eq0
returns-else-a-eq0 c =
    gcd_found _ _ _ c.if-a-eq0.false (ap (gcd c.loop-b.a) (sym c.loop-b-test.false) ∙ c.loop-b.invariant)
