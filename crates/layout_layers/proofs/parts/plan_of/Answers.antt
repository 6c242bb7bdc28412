-- With the divisor of the steps.
use Rattle.layout.proofs.Kept.{found_laid}
use Rattle.layout_layers.proofs.PlanLaws.{divisor_is_cycles}
use Rattle.layout_layers.proofs.parts.plan_of.Goals as goal

pub plan_with-requires : goal.plan_with-requires
plan_with-requires c = divisor_is_cycles _ (found_laid c.args.found) _ c.gcd_u16-num_cycles.ensures.is
