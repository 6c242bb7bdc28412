-- The parts of the plan, of an accepted layout.
use mathlib.Core.Bool.{Bool}
use mathlib.Core.Path.{◌≡◌, sym, subst}
use Prim.Native.Nat.{ℕ}
use Rattle.mos_layers.specs.declared.Runs.{Runs}
use Rattle.layout_layers.specs.declared.chain.Chain.{Chain}
use Rattle.layout_layers.specs.Kept.{IsSound}
use Rattle.layout.proofs.Kept.{found_laid}
use Rattle.layout_layers.proofs.PlanLaws.{plan_parts, runs_room, some_divisor, offset_room, sound_plan, plan_made}
use borrow.Author.Rules.{rules}
use Rattle.layout_layers.proofs.parts.plan_with.Goals as goal

equal_sound : (chain : Chain) (runs : Runs) (offset letters secondaries : ℕ) (a b : Bool) → a ≡ b → IsSound chain runs offset letters secondaries b
    → IsSound chain runs offset letters secondaries a
equal_sound chain runs offset letters secondaries a b e s = subst (λ (x : Bool). IsSound chain runs offset letters secondaries x) (sym e) s

pub runs_over-runs-requires : goal.runs_over-runs-requires
runs_over-runs-requires c = runs_room _ (found_laid c.args.found) (search rules) _ c.requires

pub divided-reduced_period-requires : goal.divided-reduced_period-requires
divided-reduced_period-requires c = some_divisor _ (found_laid c.args.found) (search rules) _ c.requires

pub within_octave-step-requires : goal.within_octave-step-requires
within_octave-step-requires c = (plan_parts _ (found_laid c.args.found)).positive

pub divided-advance-requires : goal.divided-advance-requires
divided-advance-requires c = some_divisor _ (found_laid c.args.found) (search rules) _ c.requires

pub offset_of-offset-requires : goal.offset_of-offset-requires
offset_of-offset-requires c = offset_room _ (found_laid c.args.found) (search rules) _ c.requires

pub returns : goal.returns
returns c =
    let runs = c.runs_over-runs in
    plan_made _ (found_laid c.args.found) (search rules) _ c.requires
    _ c.divided-reduced_period.ensures _ c.within_octave-step.ensures _ c.divided-advance.ensures
    runs.result runs.ensures _ c.offset_of-offset.ensures _ c.is_equalized.ensures _

pub invariant_of-result : goal.invariant_of-result
invariant_of-result c =
    let runs = c.runs_over-runs in
    let sound = sound_plan _ (found_laid c.args.found) (search rules) _ c.requires
    _ c.divided-reduced_period.ensures _ c.within_octave-step.ensures _ c.divided-advance.ensures
    runs.result runs.ensures _ c.offset_of-offset.ensures in
    record { sound = equal_sound _ _ _ _ _ _ _ c.is_equalized.ensures sound }
