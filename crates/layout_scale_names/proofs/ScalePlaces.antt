-- The place of a scale's name in the table, by what the code tests; from there to what the calls answer.
use Prim.Native.Nat.{ℕ, ◌+◌, ◌*◌, ◌<◌}
use mathlib.Core.Path.{◌≡◌, ap, ◌∙◌}
use mathlib.Core.List.{List}
use native.Mathlib.Omega.{arith}
use lib.ListN.{length}
use borrow.Author.Tests.{lt-ltb, le-ltb}
use Rattle.answer.specs.Outcome.{Outcome, given, and_then}
use Rattle.answer.specs.Lent.{held_in, in_room, counted}
use Rattle.mos.specs.declared.Mos.{Mos}
use Rattle.mos.specs.Patterns.{primary, secondary}
use Rattle.genchain.specs.Texts.{text_at, PlaceOf}
use Rattle.genchain.proofs.TextTable.{equalized_at, texts_at}
use Rattle.layout.specs.Layouts.{Layout, layout_outcome}
use Rattle.layout.specs.ScaleNames.{scale_name}
use Rattle.layout.specs.Answers.{get_scale_name}
use Rattle.layout.specs.declared.IsomorphicLayout.{IsomorphicLayout}
use Rattle.layout.proofs.Calls.{scale_given}

module _ (code : ℕ) (m : Mos) (h : code < 6) where
  pub place_above_lem : secondary m < primary m → PlaceOf (scale_name code m) (2 + 3 * code)
  unfolding scale_name
  place_above_lem a = record { below = omega arith; is = simp (lt-ltb _ _ a) (texts_at code h).above }

  pub place_below : primary m < secondary m → PlaceOf (scale_name code m) (3 + 3 * code)
  unfolding scale_name
  place_below b = record { below = omega arith; is = simp (le-ltb (secondary m) (primary m) (omega (arith, b)), lt-ltb _ _ b) (texts_at code h).below }

  pub place_equal : primary m ≡ secondary m → PlaceOf (scale_name code m) 0
  unfolding scale_name
  place_equal e =
      record {
        below = omega arith;
        is = simp (le-ltb (secondary m) (primary m) (omega (arith, e)), le-ltb (primary m) (secondary m) (omega (arith, e))) equalized_at;
      }

-- an accepted layout, and the place of its scale's name
module _ (r : IsomorphicLayout) (l : Layout) (e : given l ≡ layout_outcome r) (place : ℕ) (p : PlaceOf (scale_name l.chain l.pattern) place) where
  pub scale_count : (n : ℕ) → n ≡ length (text_at place) → given n ≡ counted (get_scale_name r)
  scale_count n q = ap given (q ∙ ap length p.is) ∙ ap counted (scale_given r l e)

  pub scale_in_room : (room : ℕ) → held_in room (text_at place) ≡ in_room room (get_scale_name r)
  scale_in_room room = ap (held_in room) p.is ∙ ap (λ (o : Outcome (List ℕ)). and_then o (held_in room)) (scale_given r l e)
