-- A plan's text is the name: one law for each way in which the plan is made; and how long a name can be.
use Rattle.std.specs.Prelude.{None, Option, Some}
use Prim.Native.Nat.{ℕ, ◌+◌, ◌≤◌, ◌<◌}
use mathlib.Core.Path.{◌≡◌, refl, ap, ◌∙◌}
use mathlib.Core.Bool.{Bool, true, false}
use mathlib.Core.List.{List, [], ◌∷◌, ◌++◌, append-nil}
use native.Mathlib.Omega.{arith}
use lib.ListN.{replicate}
use Rattle.pergen.specs.Spelling.{stars_of, sharp_spelling, flat_spelling}
use Rattle.pergen.specs.declared.Accidentals.{Accidentals}
use Rattle.pergen.specs.declared.Spelling.{Spelling}
use Rattle.notes.specs.Names.{sharp_sign, flat_sign, spelling_text, letter_alone, in_order, printed, in_parentheses, name_text}
use Rattle.notes.specs.Parts.{mark_text, two_text, parenthesis_text, bracketed_text, body_text, starred_text, plan_text, marked, is_present, one_plan, two_plan, LettersOf, ShortLetters, Planned}
use Rattle.notes.specs.declared.plans.Mark.{Mark}
use Rattle.notes.specs.declared.plans.NamePlan.{NamePlan}
use Rattle.notes.proofs.Printing.{printed_alone, printed_sharp, printed_flat, printed_both}

parentheses : (c : Option ℕ) (text : List ℕ) → parenthesis_text (is_present c) 40 ++ text ++ parenthesis_text (is_present c) 41 ≡ in_parentheses c text
parentheses None text = append-nil text
parentheses (Some n) text = refl

module _ (letters : List ℕ) (sf : Bool) (a : Accidentals) (stars : ℕ) (is-stars : stars ≡ stars_of a.cycle) where
  one_text : (m other : Mark) (s : Spelling) → printed sf a ≡ s ∷ [] → mark_text m ≡ spelling_text letters sf s
      → plan_text (one_plan m other stars) ≡ name_text letters sf a
  unfolding plan_text starred_text body_text name_text
  one_text m other s p e = rw (p, e, is-stars)

  two_text_lem : (m n : Mark) (b : Bool) (s t : Spelling) → b ≡ is_present a.cycle → printed sf a ≡ s ∷ t ∷ []
      → mark_text m ≡ spelling_text letters sf s → mark_text n ≡ spelling_text letters sf t
      → plan_text (two_plan m n b stars) ≡ name_text letters sf a
  unfolding plan_text starred_text body_text bracketed_text two_text name_text
  two_text_lem m n b s t k p e f =
      rw (p, e, f, is-stars, k)
      (ap (λ (x : List ℕ). x ++ replicate (stars_of a.cycle) 42)
      (parentheses a.cycle (spelling_text letters sf s ++ (47 ∷ []) ++ spelling_text letters sf t)))

  module _ (u v : ℕ) (short : (u < 2048) × (v < 2048)) (sharp flat : Mark)
      (is_sharp : sharp ≡ marked u (sharp_sign sf) a.sharp_count)
      (is_flat : flat ≡ marked v (flat_sign sf) a.flat_count)
      (at : LettersOf letters a u v) where
    sharp_text : mark_text sharp ≡ spelling_text letters sf (sharp_spelling a)
    unfolding mark_text spelling_text sharp_spelling
    sharp_text = ap mark_text (is_sharp ∙ ap (λ (x : ℕ). marked x (sharp_sign sf) a.sharp_count) at.sharp_is)

    flat_text : mark_text flat ≡ spelling_text letters sf (flat_spelling a)
    unfolding mark_text spelling_text flat_spelling
    flat_text = ap mark_text (is_flat ∙ ap (λ (x : ℕ). marked x (flat_sign sf) a.flat_count) at.flat_is)

    sharp_signs : sharp.count ≡ a.sharp_count
    sharp_signs = ap (λ (m : Mark). m.count) is_sharp

    flat_signs : flat.count ≡ a.flat_count
    flat_signs = ap (λ (m : Mark). m.count) is_flat

    sharp_short : sharp.letter < 2048
    sharp_short = rw is_sharp short.0

    flat_short : flat.letter < 2048
    flat_short = rw is_flat short.1

    abbrev plan : Mark → Mark → Bool → Bool → NamePlan
    plan first second both bracketed = record { first = first; second = second; both = both; bracketed = bracketed; stars = stars }

    planned : (first second : Mark) (both bracketed : Bool) (p : NamePlan)
        → ShortLetters (plan first second both bracketed) → first.count + second.count ≡ a.sharp_count + a.flat_count
        → p ≡ plan first second both bracketed → plan_text (plan first second both bracketed) ≡ name_text letters sf a → Planned letters sf a p
    planned first second both bracketed p s n e t = rw e (record { text = t; short = s; signs = n; stars = is-stars })

    -- sharp and flat, in this order
    sharp_then_flat : (both bracketed : Bool) (p : NamePlan) → p ≡ plan sharp flat both bracketed
        → plan_text (plan sharp flat both bracketed) ≡ name_text letters sf a → Planned letters sf a p
    sharp_then_flat both bracketed p =
        planned sharp flat both bracketed p (record { first = sharp_short; second = flat_short }) (omega (arith, sharp_signs, flat_signs))

    flat_then_sharp : (both bracketed : Bool) (p : NamePlan) → p ≡ plan flat sharp both bracketed
        → plan_text (plan flat sharp both bracketed) ≡ name_text letters sf a → Planned letters sf a p
    flat_then_sharp both bracketed p =
        planned flat sharp both bracketed p (record { first = flat_short; second = sharp_short }) (omega (arith, sharp_signs, flat_signs))

    pub planned_alone : {p : NamePlan} → p ≡ one_plan sharp flat stars → letter_alone a ≡ true → Planned letters sf a p
    planned_alone {p} e h = sharp_then_flat false false p e (one_text sharp flat (sharp_spelling a) (printed_alone sf a h) sharp_text)

    pub planned_sharp : {p : NamePlan} → p ≡ one_plan sharp flat stars → a.sharp_count < a.flat_count → Planned letters sf a p
    planned_sharp {p} e h = sharp_then_flat false false p e (one_text sharp flat (sharp_spelling a) (printed_sharp sf a h) sharp_text)

    pub planned_flat : {p : NamePlan} → p ≡ one_plan flat sharp stars → a.flat_count < a.sharp_count → Planned letters sf a p
    planned_flat {p} e h = flat_then_sharp false false p e (one_text flat sharp (flat_spelling a) (printed_flat sf a h) flat_text)

    module _ (b : Bool) (is-present : b ≡ is_present a.cycle) (not-alone : letter_alone a ≡ false)
        (le : a.sharp_count ≤ a.flat_count) (ge : a.flat_count ≤ a.sharp_count) where
      pub planned_sharp_flat : {p : NamePlan} → p ≡ two_plan sharp flat b stars → sf ≡ true → Planned letters sf a p
      planned_sharp_flat {p} e t =
          sharp_then_flat true b p e
          (two_text_lem sharp flat b (sharp_spelling a) (flat_spelling a) is-present
          (printed_both sf a not-alone le ge ∙ ap (λ (x : Bool). in_order x (sharp_spelling a) (flat_spelling a)) t) sharp_text flat_text)

      pub planned_flat_sharp : {p : NamePlan} → p ≡ two_plan flat sharp b stars → sf ≡ false → Planned letters sf a p
      planned_flat_sharp {p} e t =
          flat_then_sharp true b p e
          (two_text_lem flat sharp b (flat_spelling a) (sharp_spelling a) is-present
          (printed_both sf a not-alone le ge ∙ ap (λ (x : Bool). in_order x (sharp_spelling a) (flat_spelling a)) t) flat_text sharp_text)
