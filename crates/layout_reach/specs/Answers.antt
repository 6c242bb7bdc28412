-- What the calls answer: questions 1 to 4 and 18 of the layout, question 16, then the value; a list goes through question 10 too.
use Rattle.std.specs.Prelude.{ℕ, List, ◌≡◌, ltb, ℤ}
use Rattle.answer.specs.Outcome.{Outcome, given, ask}
use Rattle.answer.specs.Lent.{counted}
use Rattle.layout.specs.declared.IsomorphicLayout.{IsomorphicLayout}
use Rattle.layout.specs.Layouts.{Layout, layout_outcome}
use Rattle.layout.specs.Answers.{of_layout}
use Rattle.layout_reach.specs.Reach.{nearest, in_reach}

-- "16 when the letter's place is not below the number of letters, after question 4": and after 18, which goes "before 16" (W-209).
unfoldable pub nearest_in : Layout → ℤ → ℕ → Outcome ℕ
unfolding nearest
nearest_in l key letter = ask 16 (ltb letter l.letters) (given (nearest l key letter))

unfoldable pub get_nearest : IsomorphicLayout → ℤ → ℕ → Outcome ℕ
unfolding layout_outcome nearest_in
get_nearest r key letter = of_layout r (λ (l : Layout). nearest_in l key letter)

unfoldable pub get_reach : IsomorphicLayout → ℤ → ℕ → Outcome (List ℕ)
unfolding layout_outcome in_reach
get_reach r key d = of_layout r (λ (l : Layout). given (in_reach l.octave key d))

-- How many keys the list has, whatever the key.
abbrev pub CountsReach : IsomorphicLayout → ℕ → Outcome ℕ → Type 0
CountsReach r d answer = (key : ℤ) → answer ≡ counted (get_reach r key d)
