-- The two spellings as marks, then one law for each way in which the plan is made.
use Rattle.notes.proofs.PlanTexts.{planned_alone, planned_sharp, planned_flat, planned_sharp_flat, planned_flat_sharp}
use Rattle.std.specs.Prelude.{None, Option, Some, is_some}
use Prim.Native.Nat.{ℕ}
use mathlib.Core.Path.{◌≡◌, refl, sym, ap, ◌∙◌}
use Rattle.notes.specs.Parts.{marked, is_present}
use Rattle.notes.proofs.plans.plan_letters.Goals as goal

signed : {sign of : ℕ} (letter count : ℕ) → sign ≡ of → marked letter sign count ≡ marked letter of count
signed letter count e = ap (λ (s : ℕ). marked letter s count) e

some_present : (cycle : Option ℕ) → is_some cycle ≡ is_present cycle
some_present None = refl
some_present (Some c) = refl

pub returns-then-alone : goal.returns-then-alone
returns-then-alone c letters at =
    planned_alone letters _ _ _ c.unwrap_or-stars.ensures _ _ c.requires _ _ (signed _ _ c.sharp_sign.ensures) (signed _ _ c.flat_sign.ensures) at
    c.one.ensures (sym c.letter_alone-alone.ensures ∙ c.if-alone.true)

pub returns-then-sharps-flats : goal.returns-then-sharps-flats
returns-then-sharps-flats c letters at =
    planned_sharp letters _ _ _ c.unwrap_or-stars.ensures _ _ c.requires _ _ (signed _ _ c.sharp_sign.ensures) (signed _ _ c.flat_sign.ensures) at
    c.one-then-sharps-flats.ensures c.if-sharps-flats.true

pub returns-then-flats-sharps : goal.returns-then-flats-sharps
returns-then-flats-sharps c letters at =
    planned_flat letters _ _ _ c.unwrap_or-stars.ensures _ _ c.requires _ _ (signed _ _ c.sharp_sign.ensures) (signed _ _ c.flat_sign.ensures) at
    c.one-then-flats-sharps.ensures c.if-flats-sharps.true

pub returns-then-sharp_first : goal.returns-then-sharp_first
returns-then-sharp_first c letters at =
    planned_sharp_flat letters _ _ _ c.unwrap_or-stars.ensures _ _ c.requires _ _ (signed _ _ c.sharp_sign.ensures) (signed _ _ c.flat_sign.ensures) at
    _ (c.is_some-bracketed.ensures ∙ some_present _) (sym c.letter_alone-alone.ensures ∙ c.if-alone.false) c.if-flats-sharps.false c.if-sharps-flats.false
    c.two.ensures c.if-sharp_first.true

pub returns : goal.returns
returns c letters at =
    planned_flat_sharp letters _ _ _ c.unwrap_or-stars.ensures _ _ c.requires _ _ (signed _ _ c.sharp_sign.ensures) (signed _ _ c.flat_sign.ensures) at
    _ (c.is_some-bracketed.ensures ∙ some_present _) (sym c.letter_alone-alone.ensures ∙ c.if-alone.false) c.if-flats-sharps.false c.if-sharps-flats.false
    c.two-2.ensures c.if-sharp_first.false
