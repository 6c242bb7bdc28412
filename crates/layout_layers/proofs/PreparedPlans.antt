-- From a prepared layout to the plan of its layers, and from the plan's numbers to the layout's.
use Prim.Native.Nat.{ℕ, ◌*◌, ◌/◌, ◌%◌, ◌≤◌, ◌<◌}
use mathlib.Core.Path.{◌≡◌, sym, ap, ◌∙◌}
use mathlib.Core.Bool.{Bool, true, false}
use native.Mathlib.Omega.{arith}
use lib.Dec.{eqb}
use lib.IntN.{ℤ}
use Rattle.answer.specs.Choice.{pick}
use Rattle.answer.specs.Outcome.{given}
use Rattle.math.specs.Division.{remainder}
use Rattle.math.proofs.Division.{remainder_below}
use Rattle.mos.specs.declared.Mos.{Mos}
use Rattle.mos.specs.Patterns.{primary, secondary}
use Rattle.pergen.specs.Pergen.{degree, cycle}
use Rattle.pergen.specs.Parts.{Walkable, At}
use Rattle.pergen.specs.declared.stepping.Key.{Key}
use Rattle.layout.specs.Layouts.{cycles_in, layout_outcome}
use Rattle.layout.specs.Parts.{Laid, layout_in, Ready}
use Rattle.layout.specs.declared.IsomorphicLayout.{IsomorphicLayout}
use Rattle.layout.specs.declared.prepared.Prepared.{Prepared}
use Rattle.layout.proofs.Calls.{of_given}
use Rattle.layout.proofs.Readiness.{parts_ready, found_twice, key_degree_lem, key_cycle_lem}
use Rattle.layout_layers.specs.KeyLayers.{equalized, entry_count, number_in}
use Rattle.layout_layers.specs.Answers.{get_layer}
use Rattle.layout_layers.specs.Kept.{inverse_of}
use Rattle.layout_layers.specs.Parts.{PlanOf}
use Rattle.layout_layers.specs.declared.plan.Plan.{Plan}
use Rattle.layout_layers.proofs.Calls.{cycles_given}

-- ---- how many entries

pub entries_double : (P : ℕ) (m : Mos) → equalized m ≡ true → 2 * P ≡ entry_count P m
entries_double P m e = ap (λ (b : Bool). pick b (2 * P) P) (sym e)

pub entries_single : (P : ℕ) (m : Mos) → equalized m ≡ false → P ≡ entry_count P m
entries_single P m e = ap (λ (b : Bool). pick b (2 * P) P) (sym e)

pub entries_few : (P : ℕ) (m : Mos) → entry_count P m ≤ 2 * P
entries_few P m = by (eqb (primary m) (secondary m))
  where
    by : (b : Bool) → pick b (2 * P) P ≤ 2 * P
    by true = omega arith
    by false = omega arith

pub entries_some : (P : ℕ) (m : Mos) → 0 < P → 0 < entry_count P m
entries_some P m h = by (eqb (primary m) (secondary m))
  where
    by : (b : Bool) → 0 < pick b (2 * P) P
    by true = omega arith
    by false = omega arith

module _ (p : Prepared) (h : Ready p) where
  pub cycles_ready : p.solved.num_cycles ≡ cycles_in (layout_in p)
  cycles_ready = cycles_given p.found.octave p.found.generator p.solved h.solved_is

  pub plan_asked : Laid (layout_in p) × (p.solved.num_cycles ≡ cycles_in (layout_in p))
  plan_asked = (h.laid, cycles_ready)

  -- a key of any octave, brought round the entries
  module _ (key : ℤ) (count entry : ℕ) (many : count ≡ entry_count p.found.octave p.found.pattern) (round : entry ≡ remainder key count) where
    pub entries_positive : 0 < count
    entries_positive =
        omega (arith, many, entries_some p.found.octave p.found.pattern (parts_ready p h).positive)

    pub entry_below : entry < 2 * p.found.octave
    entry_below =
        omega (arith, round, remainder_below key count entries_positive, many, entries_few p.found.octave p.found.pattern)

    pub entry_found : Walkable p.solved × (entry < 2 * (p.solved.reduced_period * p.solved.num_cycles))
    entry_found = found_twice p h entry entry_below

    pub layer_answered : (r : IsomorphicLayout) → given (layout_in p) ≡ layout_outcome r → (number j : ℕ) → number ≡ entry
        → j ≡ number_in (layout_in p) number → given j ≡ get_layer r key
    unfolding get_layer
    layer_answered r e number j same q =
        ap given (q ∙ ap (number_in (layout_in p)) (same ∙ round ∙ ap (remainder key) many)) ∙ of_given r _ (layout_in p) e

  -- the plan that is made of it
  module _ (plan : Plan) (of : PlanOf (layout_in p) plan) where
    pub key_asked : (k : Key) → At p.solved k
        → (k.degree ≡ inverse_of plan.chain * (k.number / plan.chain.num_cycles) % plan.chain.reduced_period)
        × (k.cycle ≡ k.number % plan.chain.num_cycles)
    unfolding degree cycle
    key_asked k at = (
      simp (of.inverse_is, of.cycles_are, of.period_is) (key_degree_lem p h k at),
      simp of.cycles_are (key_cycle_lem p h k at),
    )
