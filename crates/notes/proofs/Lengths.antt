-- How long the texts of a plan are, part by part, and which part is printed.
use Prim.Native.Nat.{ℕ, ◌+◌}
use mathlib.Core.Path.{◌≡◌, refl, ap, ◌∙◌}
use mathlib.Core.List.{◌++◌}
use native.Mathlib.Omega.{arith}
use mathlib.Core.Bool.{true, false}
use lib.ListN.{length, length-append, length-replicate}
use Rattle.notes.specs.Names.{letter_text}
use Rattle.notes.specs.Parts.{mark_text, two_text, parenthesis_text, bracketed_text, body_text, starred_text, plan_text}
use Rattle.notes.specs.declared.plans.Mark.{Mark}
use Rattle.notes.specs.declared.plans.NamePlan.{NamePlan}

pub length_mark : (m : Mark) → length (mark_text m) ≡ length (letter_text m.letter) + m.count
unfolding mark_text
length_mark m = simp (length-append, length-replicate)

module _ (p : NamePlan) where
  pub length_two : length (two_text p) ≡ length (mark_text p.first) + 1 + length (mark_text p.second)
  unfolding two_text
  length_two = simp (length-append, length-append)

  pub length_bracketed : length (bracketed_text p)
      ≡ length (parenthesis_text p.bracketed 40) + length (two_text p) + length (parenthesis_text p.bracketed 41)
  unfolding bracketed_text
  length_bracketed =
      length-append (parenthesis_text p.bracketed 40 ++ two_text p) (parenthesis_text p.bracketed 41)
      ∙ ap (λ (x : ℕ). x + length (parenthesis_text p.bracketed 41)) (length-append (parenthesis_text p.bracketed 40) (two_text p))

  pub length_in_parentheses : p.bracketed ≡ true → length (bracketed_text p) ≡ 1 + length (two_text p) + 1
  length_in_parentheses k = length_bracketed ∙ rw k refl

  pub length_plain : p.bracketed ≡ false → length (bracketed_text p) ≡ length (two_text p)
  length_plain k = length_bracketed ∙ rw k (omega arith)

  pub length_starred : (stars : ℕ) → length (starred_text p stars) ≡ length (body_text p) + stars
  unfolding starred_text
  length_starred stars = simp (length-append, length-replicate)

  pub length_plan : length (plan_text p) ≡ length (body_text p) + p.stars
  unfolding plan_text
  length_plan = length_starred p.stars

  pub body_bracketed : p.both ≡ true → body_text p ≡ bracketed_text p
  unfolding body_text
  body_bracketed b = simp b

  pub body_one : p.both ≡ false → body_text p ≡ mark_text p.first
  unfolding body_text
  body_one b = simp b
