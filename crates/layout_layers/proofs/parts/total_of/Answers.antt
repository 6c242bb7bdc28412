-- The plan's layers, times the cycles.
use Prim.Native.Nat.{ℕ, ◌*◌}
use mathlib.Core.Path.{ap, ◌∙◌}
use native.Mathlib.Omega.{arith}
use Rattle.layout_layers.proofs.PlanLaws.{count_alternates, count_listed}
use Rattle.layout_layers.proofs.parts.total_of.Goals as goal

pub overflow_mul-result : goal.overflow_mul-result
overflow_mul-result c =
    omega (arith, c.args.plan.sound.layers_fit, ap (λ (k : ℕ). k * c.args.plan.chain.num_cycles) (count_alternates c.args.plan c.if-plan.true))

pub returns-then-plan : goal.returns-then-plan
returns-then-plan c =
    ap (λ (k : ℕ). k * c.args.plan.chain.num_cycles) (count_alternates c.args.plan c.if-plan.true)

pub overflow_mul-result-2 : goal.overflow_mul-result-2
overflow_mul-result-2 c =
    omega (
      arith,
      c.args.plan.sound.layers_fit,
      ap (λ (k : ℕ). k * c.args.plan.chain.num_cycles) (c.count_sizes.ensures ∙ count_listed c.args.plan c.if-plan.false),
    )

pub overflow_cast-result-2 : goal.overflow_cast-result-2
overflow_cast-result-2 c =
    omega (
      arith,
      c.args.plan.sound.layers_fit,
      ap (λ (k : ℕ). k * c.args.plan.chain.num_cycles) (c.count_sizes.ensures ∙ count_listed c.args.plan c.if-plan.false),
    )

pub returns : goal.returns
returns c =
    ap (λ (k : ℕ). k * c.args.plan.chain.num_cycles) (c.count_sizes.ensures ∙ count_listed c.args.plan c.if-plan.false)
