-- What the calls answer: questions 1 to 4 and 18 of the layout, then 23 of the first text and of the second, then 21 of the first and of
-- the second, then the explanation, or its text.
use Rattle.answer.specs.declared.Refusal.{Refusal}
use Rattle.std.specs.Prelude.{List, ℕ, ◌+◌, ◌≤◌, ◌<◌, ◌^◌, ◌≡◌, ltb, length, Result, IfOk}
use Rattle.answer.specs.Outcome.{Outcome, given, ask, and_then}
use Rattle.answer.specs.Refusals.{outcome_of}
use Rattle.answer.specs.Lent.{counted}
use Rattle.pergen.specs.Pergen.{cycles}
use Rattle.pergen.specs.declared.Spelling.{Spelling}
use Rattle.layout.specs.Layouts.{Layout, layout_outcome, cycles_in}
use Rattle.layout.specs.Answers.{of_layout}
use Rattle.layout.specs.declared.IsomorphicLayout.{IsomorphicLayout}
use Rattle.layout_reading.specs.Answers.{typed_in}
use Rattle.layout_explaining.specs.Explanations.{explanation_of}
use Rattle.layout_explaining.specs.Sentences.{explanation_text}
use Rattle.layout_explaining.specs.declared.Explanation.{Explanation}

-- 21. Are the stars below the cycles? Of the first spelling, then of the second.
unfoldable pub compared_in : Layout → Spelling → Spelling → Outcome Explanation
unfolding cycles explanation_of
compared_in l x y =
    ask 21 (ltb x.stars (cycles_in l)) (ask 21 (ltb y.stars (cycles_in l)) (given (explanation_of l x y)))

-- 23. Is the text a spelling's? Of the first text, then of the second.
unfoldable pub explained_in : Layout → (first second : List ℕ) → Outcome Explanation
unfolding typed_in compared_in
explained_in l first second =
    and_then (typed_in l first) (λ (x : Spelling). and_then (typed_in l second) (λ (y : Spelling). compared_in l x y))

unfoldable pub get_explanation : IsomorphicLayout → (first second : List ℕ) → Outcome Explanation
unfolding layout_outcome explained_in
get_explanation r first second = of_layout r (λ (l : Layout). explained_in l first second)

-- The same questions, then the explanation in words.
unfoldable pub told_in : Layout → (first second : List ℕ) → Outcome (List ℕ)
unfolding explained_in explanation_text
told_in l first second = and_then (explained_in l first second) (λ (e : Explanation). given (explanation_text l first second e))

unfoldable pub get_explanation_text : IsomorphicLayout → (first second : List ℕ) → Outcome (List ℕ)
unfolding layout_outcome told_in
get_explanation_text r first second = of_layout r (λ (l : Layout). told_in l first second)

-- How long the words can be: beside the two texts they have at most 600 bytes, and 64 signed bits hold the number of all.
pub record ShortWords (first second : List ℕ) (n : ℕ) : Type 0 where
  pub beside : n ≤ length first + length second + 600
  pub held : n < 2 ^ 63

abbrev pub ShortAnswer : (first second : List ℕ) → Result ℕ Refusal → Type 0
ShortAnswer first second a = IfOk a (ShortWords first second)

-- What the call that tells the length promises.
pub record LengthTold (r : IsomorphicLayout) (first second : List ℕ) (a : Result ℕ Refusal) : Type 0 where
  pub answered : outcome_of a ≡ counted (get_explanation_text r first second)
  pub short : ShortAnswer first second a
