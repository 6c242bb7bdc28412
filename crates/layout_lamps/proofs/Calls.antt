-- From the plan to what the calls answer: one law for each way in which a call ends.
use Prim.Native.Nat.{ℕ}
use mathlib.Core.Path.{◌≡◌, refl, sym, ap, ◌∙◌}
use mathlib.Core.List.{List}
use lib.IntN.{ℤ}
use lib.ListN.{length}
use Rattle.answer.specs.Outcome.{Outcome, given, refused, and_then}
use Rattle.answer.specs.Lent.{held_in, in_room, counted, Filled}
use Rattle.answer.proofs.Lent.{filled_refused}
use Rattle.math.specs.Division.{remainder}
use Rattle.layout.specs.declared.IsomorphicLayout.{IsomorphicLayout}
use Rattle.layout.specs.Layouts.{Layout, layout_outcome}
use Rattle.layout.proofs.Calls.{of_refused, of_given, parts_of, filled_as, refused_in_room}
use Rattle.layout_layers.specs.declared.plan.Plan.{Plan}
use Rattle.layout_layers.specs.KeyLayers.{entry_count}
use Rattle.layout_layers.specs.Parts.{PlanOf, total_of, plan_layers}
use Rattle.layout_layers.proofs.PlanLaws.{count_is, layers_are}
use Rattle.layout_layers.proofs.Theorems.{entries_are_counted}
use Rattle.layout_lamps.specs.Lamps.{lamp_in, strip_in}
use Rattle.layout_lamps.specs.Answers.{get_strip, get_lamp}
use Rattle.layout_lamps.specs.Parts.{plan_strip}
use Rattle.layout_lamps.proofs.StripLaws.{strip_is}
use Rattle.layout_lamps.proofs.Theorems.{strips_are_whole}

module _ (r : IsomorphicLayout) (n : ℕ) (e : refused n ≡ layout_outcome r) where
  pub strip_refused : refused n ≡ get_strip r
  unfolding get_strip
  strip_refused = of_refused r _ n e

  pub lamp_refused : (key : ℤ) → refused n ≡ get_lamp r key
  unfolding get_lamp
  lamp_refused key = of_refused r _ n e

-- a strip that is refused is not written
pub strip_not_written : (r : IsomorphicLayout) (n : ℕ) → refused n ≡ get_strip r → (xs : List ℕ) → Filled (in_room (length xs) (get_strip r)) (refused n) xs xs
strip_not_written r n e xs = filled_refused n xs (refused_in_room (length xs) n (get_strip r) e) refl

module _ (r : IsomorphicLayout) (l : Layout) (e : given l ≡ layout_outcome r) (p : Plan) (k : PlanOf l p) where
  pub strip_of_layout : given (strip_in l) ≡ get_strip r
  unfolding get_strip
  strip_of_layout = of_given r _ l e

  strip_given : given (plan_strip p (total_of p)) ≡ get_strip r
  strip_given =
      ap given (strip_is l p k (parts_of r l e).positive (total_of p) (count_is l p k)) ∙ strip_of_layout

  pub strip_counted : (n : ℕ) → n ≡ length (plan_layers p) → given n ≡ counted (get_strip r)
  strip_counted n q =
      ap given
      (q ∙ ap length (layers_are l p k (parts_of r l e).positive) ∙ entries_are_counted l ∙ sym (strips_are_whole l))
      ∙ ap counted strip_of_layout

  pub strip_written : {a : Outcome ℕ} {xs ys : List ℕ} → Filled (held_in (length xs) (plan_strip p (total_of p))) a xs ys
      → Filled (in_room (length xs) (get_strip r)) a xs ys
  strip_written {xs = xs} f = filled_as (ap (λ (o : Outcome (List ℕ)). and_then o (held_in (length xs))) strip_given) f

-- a key that was brought round the strip
pub lamp_answered : (r : IsomorphicLayout) (l : Layout) → given l ≡ layout_outcome r → (key : ℤ) (count place number c : ℕ)
    → count ≡ entry_count l.octave l.pattern → place ≡ remainder key count → number ≡ place → c ≡ lamp_in l number → given c ≡ get_lamp r key
unfolding get_lamp
lamp_answered r l e key count place number c many at same q =
    ap given (q ∙ ap (lamp_in l) (same ∙ at ∙ ap (remainder key) many)) ∙ of_given r _ l e
