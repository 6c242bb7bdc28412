-- From the plan to what the calls answer: one law for each way in which a call ends.
use Prim.Native.Nat.{ℕ, ◌*◌, ◌≤◌, ◌<◌}
use mathlib.Core.Path.{◌≡◌, refl, sym, ap, ◌∙◌}
use mathlib.Core.Bool.{Bool}
use mathlib.Core.List.{List}
use native.Mathlib.Omega.{arith}
use lib.IntN.{ℤ}
use lib.ListN.{length}
use Rattle.answer.specs.Choice.{pick}
use Rattle.answer.specs.Outcome.{Outcome, given, refused, and_then}
use Rattle.answer.specs.Lent.{held_in, in_room, counted, written, Filled}
use Rattle.answer.proofs.Lent.{held, not_held, filled_refused}
use Rattle.math.specs.Division.{remainder}
use Rattle.pergen.specs.Pergen.{cycles}
use Rattle.pergen.specs.declared.euclid.Solved.{Solved}
use Rattle.pergen.specs.Parts.{solved_of}
use Rattle.layout.specs.declared.IsomorphicLayout.{IsomorphicLayout}
use Rattle.layout.specs.Layouts.{Layout, layout_outcome}
use Rattle.layout.proofs.Calls.{of_refused, of_given, parts_of, filled_as, refused_in_room}
use Rattle.layout_layers.specs.declared.plan.Plan.{Plan}
use Rattle.layout_layers.specs.KeyLayers.{number_in}
use Rattle.layout_layers.specs.Answers.{get_layers, get_layer_count, get_layer}
use Rattle.layout_layers.specs.Kept.{inverse_of}
use Rattle.layout_layers.specs.Parts.{PlanOf, plan_number, total_of, Fronted, plan_layers}
use Rattle.layout_layers.proofs.PlanLaws.{number_is, count_is, layers_are}

module _ (r : IsomorphicLayout) (n : ℕ) (e : refused n ≡ layout_outcome r) where
  pub layers_refused : refused n ≡ get_layers r
  unfolding get_layers
  layers_refused = of_refused r _ n e

  pub count_refused : refused n ≡ get_layer_count r
  unfolding get_layer_count
  count_refused = of_refused r _ n e

  pub layer_refused : (key : ℤ) → refused n ≡ get_layer r key
  unfolding get_layer
  layer_refused key = of_refused r _ n e

  pub layers_not_written : (xs : List ℕ) → Filled (in_room (length xs) (get_layers r)) (refused n) xs xs
  layers_not_written xs = filled_refused n xs (refused_in_room (length xs) n (get_layers r) layers_refused) refl

module _ (r : IsomorphicLayout) (l : Layout) (e : given l ≡ layout_outcome r) (p : Plan) (k : PlanOf l p) where
  pub layers_given : given (plan_layers p) ≡ get_layers r
  unfolding get_layers
  layers_given = ap given (layers_are l p k (parts_of r l e).positive) ∙ of_given r _ l e

  pub count_given : (T : ℕ) → T ≡ total_of p → given T ≡ get_layer_count r
  unfolding get_layer_count
  count_given T q = ap given (q ∙ count_is l p k) ∙ of_given r _ l e

  pub layer_given : (key : ℤ) (entry count j : ℕ) → entry ≡ remainder key count → count ≡ pick p.equalized (2 * l.octave) l.octave
      → j ≡ plan_number p entry → given j ≡ get_layer r key
  unfolding get_layer
  layer_given key entry count j round many q =
      ap given
      (q
      ∙ number_is l p k entry
      ∙ ap (number_in l)
      (round ∙ ap (remainder key) (many ∙ ap (λ (b : Bool). pick b (2 * l.octave) l.octave) k.equalized_is)))
      ∙ of_given r _ l e

  pub inverse_given : (s : Solved) → s ≡ solved_of l.octave l.generator → s.generator_inverse ≡ inverse_of p.chain
  unfolding solved_of
  inverse_given s q = ap (λ (x : Solved). x.generator_inverse) q ∙ sym k.inverse_is

  pub length_given : (m : ℕ) → m ≡ length (plan_layers p) → given m ≡ counted (get_layers r)
  length_given m q = ap given q ∙ ap counted layers_given

  pub layers_written : {a : Outcome ℕ} {xs ys : List ℕ} → Filled (held_in (length xs) (plan_layers p)) a xs ys
      → Filled (in_room (length xs) (get_layers r)) a xs ys
  layers_written {xs = xs} f = filled_as (ap (λ (o : Outcome (List ℕ)). and_then o (held_in (length xs))) layers_given) f

-- the cycles of what was solved
pub cycles_given : (P G : ℕ) (s : Solved) → s ≡ solved_of P G → s.num_cycles ≡ cycles P G
unfolding solved_of
cycles_given P G s q = ap (λ (x : Solved). x.num_cycles) q

-- a text in a lent slice, by question 10
module _ (text xs : List ℕ) (n : ℕ) (is : n ≡ length text) where
  pub text_too_long : length xs < n → Filled (held_in (length xs) text) (refused 10) xs xs
  text_too_long h = filled_refused 10 xs (not_held (length xs) text (omega arith)) refl

  pub text_room : n ≤ length xs → length text ≤ length xs
  text_room h = omega arith

  pub text_held : n ≤ length xs → {ys : List ℕ} → Fronted text xs ys → Filled (held_in (length xs) text) (given n) xs ys
  text_held h f =
      let e = held (length xs) text (text_room h) in
      record {
        answered = ap given is ∙ sym (ap counted e);
        content = f ∙ sym (ap (λ (o : Outcome (List ℕ)). written o xs) e);
      }
