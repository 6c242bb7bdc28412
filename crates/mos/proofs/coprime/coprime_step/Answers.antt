use mathlib.Core.Path.{refl, ◌∙◌}
use native.Mathlib.Omega.{arith}
use Rattle.mos.proofs.Passes.{code_falls, code_more, coprime_end}
use Rattle.mos.proofs.coprime.coprime_step.Goals as goal

pub loop-g-init : goal.loop-g-init
loop-g-init c = (c.gcd_u16-g.ensures.is, refl)

pub pass_of-step-requires : goal.pass_of-step-requires
pass_of-step-requires c = (c.loop-g-test.true, c.loop-g.invariant.0)

pub loop-g-smaller : goal.loop-g-smaller
loop-g-smaller c =
    let loop = c.loop-g in
    code_falls _ _ loop.g _ (omega arith) loop.invariant.0 c.pass_of-step.ensures

pub loop-g-preserved : goal.loop-g-preserved
loop-g-preserved c =
    let loop = c.loop-g in (
      c.gcd_u16-g-in-loop-g.ensures.is,
      code_more _ _ loop.g _ (omega arith) loop.invariant.0 c.pass_of-step.ensures ∙ loop.invariant.1,
    )

pub returns : goal.returns
returns c = coprime_end _ _ (omega arith) ∙ c.loop-g.invariant.1
