-- The signed numbers that the calls on typed names write, each after the questions of its call.
use Rattle.std.specs.Prelude.{ℕ, List, [], ◌∷◌, ℤ, pos, neg_ℤ}
use Rattle.answer.specs.Outcome.{Outcome, given, refused}
use Rattle.pergen.specs.declared.Signs.{Signs}
use Rattle.pergen.specs.declared.Signs.TheVariants.{Sharps, Flats}
use Rattle.pergen.specs.declared.Spelling.{Spelling}
use Rattle.layout_explaining.specs.declared.Verdict.{Verdict}
use Rattle.layout_explaining.specs.declared.Verdict.TheVariants.{OneKey, OneChain, TwoChains}
use Rattle.layout_explaining.specs.declared.Explanation.{Explanation}

-- The numbers of a value, where it is given.
abbrev pub as_signed : {A : Type 0} → (A → List ℤ) → Outcome A → Outcome (List ℤ)
as_signed numbers (given a) = given (numbers a)
as_signed numbers (refused n) = refused n

-- As many sharps as the number is above 0, or flats as it is below.
abbrev pub signs_number : Signs → ℤ
signs_number (Sharps k) = pos k
signs_number (Flats k) = neg_ℤ (pos k)

-- A letter's index along the chain, signs and stars.
abbrev pub spelling_numbers : Spelling → List ℤ
spelling_numbers x = pos x.index ∷ signs_number x.signs ∷ pos x.stars ∷ []

-- A verdict as a number.
abbrev pub verdict_number : Verdict → ℕ
verdict_number OneKey = 0
verdict_number OneChain = 1
verdict_number TwoChains = 2

-- Both places, both stars, both keys, how far apart the places are, the reduced period, the verdict.
abbrev pub explanation_numbers : Explanation → List ℤ
explanation_numbers e =
    e.first.place
    ∷ e.second.place
    ∷ pos e.first.stars
    ∷ pos e.second.stars
    ∷ pos e.first.key
    ∷ pos e.second.key
    ∷ pos e.apart
    ∷ pos e.reduced_period
    ∷ pos (verdict_number e.verdict)
    ∷ []
