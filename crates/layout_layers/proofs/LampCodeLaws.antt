-- The lamp code of a number, by what the code tests, and what a writer of entries writes for it.
use Rattle.std.specs.Prelude.{None, Some}
use Prim.Native.Nat.{ℕ, ◌+◌, ◌*◌, ◌-◌, ◌<◌}
use mathlib.Core.Path.{◌≡◌, refl, ap, subst, ◌∙◌}
use mathlib.Core.Bool.{Bool, true, false}
use mathlib.Core.List.{List}
use native.Mathlib.Omega.{arith}
use lib.Dec.{ltb}
use borrow.Author.Tests.{ltb-true, ltb-false}
use Rattle.answer.specs.Choice.{pick}
use Rattle.layout_layers.specs.LampCodes.{lamp_code, code_of}
use Rattle.layout_layers.specs.declared.plan.Plan.{Plan}
use Rattle.layout_layers.specs.Parts.{plan_number, turns_of, listed, Fronted, plan_layers, shown_as, plan_entries}
use Rattle.layout_layers.proofs.PlanLaws.{kind_natural, kind_sharp, kind_enharmonic, kind_flat}

-- the codes, by what the code tests
module _ (T j : ℕ) (in-range : j < T) where
  pub code_first : j ≡ 0 → 1 ≡ code_of T j
  unfolding code_of lamp_code
  code_first e = ap lamp_code (kind_natural T j e)

  module _ (some : j ≡ 0 → ⊥) where
    pub code_half : j ≡ T - j → 65535 ≡ code_of T j
    unfolding code_of lamp_code
    code_half e = ap lamp_code (kind_enharmonic T j some (omega (arith, e)))

    code_low : j < T - j → 2 * j ≡ code_of T j
    unfolding code_of lamp_code
    code_low h = (let q : 2 * j ≡ 2 + 2 * (j - 1) = omega (arith, some) in q) ∙ ap lamp_code (kind_sharp T j some (omega arith))

    code_high : T - j < j → 2 * (T - j) + 1 ≡ code_of T j
    unfolding code_of lamp_code
    code_high h =
        (let q : 2 * (T - j) + 1 ≡ 3 + 2 * (T - j - 1) = omega arith in q) ∙ ap lamp_code (kind_flat T j some (omega arith) refl)

    pub code_side : (j ≡ T - j → ⊥) → (c : ℕ) → c ≡ pick (ltb j (T - j)) (2 * j) (2 * (T - j) + 1) → c ≡ code_of T j
    code_side apart c e = e ∙ by (ltb j (T - j)) refl
      where
        by : (t : Bool) → ltb j (T - j) ≡ t → pick t (2 * j) (2 * (T - j) + 1) ≡ code_of T j
        by true q = code_low (ltb-true j (T - j) q)
        by false q = code_high (omega (arith, ltb-false j (T - j) q, apart))

-- ---- all entries

-- as numbers
numbers_written : (p : Plan) → plan_entries p None ≡ plan_layers p
unfolding shown_as
numbers_written p = refl

pub numbers_front : (p : Plan) (xs ys : List ℕ) → Fronted (plan_entries p None) xs ys → Fronted (plan_layers p) xs ys
numbers_front p xs ys f = subst (λ (text : List ℕ). Fronted text xs ys) (numbers_written p) f

-- as codes
pub codes_written : (p : Plan) (T : ℕ) → plan_entries p (Some T) ≡ listed (λ i. code_of T (plan_number p i)) (turns_of p * p.chain.num_cycles)
unfolding shown_as
codes_written p T = refl
