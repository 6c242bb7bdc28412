-- What the parts behind the calls promise: a name's plan, and the text that it stands for.
use Rattle.std.specs.Prelude.{ℕ, ◌+◌, ◌≤◌, ◌<◌, ◌≡◌, Bool, true, false, List, [], ◌∷◌, ◌++◌, length, replicate, None, Option, Some}
use Rattle.answer.specs.Choice.{pick}
use Rattle.pergen.specs.Spelling.{stars_of}
use Rattle.pergen.specs.declared.Accidentals.{Accidentals}
use Rattle.notes.specs.Names.{letter_text, letter_at, name_text}
use Rattle.notes.specs.declared.plans.Mark.{Mark}
use Rattle.notes.specs.declared.plans.NamePlan.{NamePlan}

-- ---- the text of a plan

unfoldable pub mark_text : Mark → List ℕ
mark_text m = letter_text m.letter ++ replicate m.count m.sign

unfoldable pub two_text : NamePlan → List ℕ
two_text p = mark_text p.first ++ (47 ∷ []) ++ mark_text p.second

-- 40 is (, 41 is )
abbrev pub parenthesis_text : Bool → ℕ → List ℕ
parenthesis_text wanted byte = pick wanted (byte ∷ []) []

unfoldable pub bracketed_text : NamePlan → List ℕ
bracketed_text p = parenthesis_text p.bracketed 40 ++ two_text p ++ parenthesis_text p.bracketed 41

unfoldable pub body_text : NamePlan → List ℕ
body_text p = pick p.both (bracketed_text p) (mark_text p.first)

-- With so many stars as a cycle asks for, and with the plan's own.
unfoldable pub starred_text : NamePlan → ℕ → List ℕ
starred_text p stars = body_text p ++ replicate stars 42

unfoldable pub plan_text : NamePlan → List ℕ
plan_text p = starred_text p p.stars

-- ---- the two spellings as marks

abbrev pub marked : ℕ → ℕ → ℕ → Mark
marked letter sign count = record { letter = letter; sign = sign; count = count }

-- A cycle is present.
abbrev pub is_present : Option ℕ → Bool
is_present None = false
is_present (Some c) = true

-- One spelling printed, or both.
abbrev pub one_plan : Mark → Mark → ℕ → NamePlan
one_plan printed other stars = record { first = printed; second = other; both = false; bracketed = false; stars = stars }

abbrev pub two_plan : Mark → Mark → Bool → ℕ → NamePlan
two_plan first second bracketed stars =
    record { first = first; second = second; both = true; bracketed = bracketed; stars = stars }

-- ---- promises

-- Both letters take at most two bytes.
pub record ShortLetters (p : NamePlan) : Type 0 where
  pub first : p.first.letter < 2048
  pub second : p.second.letter < 2048

-- The letters at the two indices.
pub record LettersOf (letters : List ℕ) (a : Accidentals) (sharp flat : ℕ) : Type 0 where
  pub sharp_is : sharp ≡ letter_at letters a.sharp_index
  pub flat_is : flat ≡ letter_at letters a.flat_index

-- A plan whose text is the name, with all signs and stars of the accidentals, printed or not.
pub record Planned (letters : List ℕ) (sharp_first : Bool) (a : Accidentals) (p : NamePlan) : Type 0 where
  pub text : plan_text p ≡ name_text letters sharp_first a
  pub short : ShortLetters p
  pub signs : p.first.count + p.second.count ≡ a.sharp_count + a.flat_count
  pub stars : p.stars ≡ stars_of a.cycle

-- A text's length with its bound: two letters of two bytes, a slash and two parentheses are 7.
pub record Measured (p : NamePlan) (n : ℕ) : Type 0 where
  pub length_is : n ≡ length (plan_text p)
  pub bound : n ≤ 7 + (p.first.count + p.second.count) + p.stars

pub record MarkMeasured (m : Mark) (n : ℕ) : Type 0 where
  pub length_is : n ≡ length (mark_text m)
  pub bound : n ≤ 2 + m.count

pub record BodyMeasured (p : NamePlan) (n : ℕ) : Type 0 where
  pub length_is : n ≡ length (body_text p)
  pub bound : n ≤ 7 + (p.first.count + p.second.count)
