-- What the calls answer: questions 1 to 4 and 18 of the layout, then the value; a strip goes through question 10 too. "Question 9 then
-- always has the answer yes" (document 02, W-207): it is not asked.
use Rattle.std.specs.Prelude.{ℕ, List, ℤ}
use Rattle.answer.specs.Outcome.{Outcome, given}
use Rattle.math.specs.Division.{remainder}
use Rattle.layout.specs.declared.IsomorphicLayout.{IsomorphicLayout}
use Rattle.layout.specs.Layouts.{Layout, layout_outcome}
use Rattle.layout.specs.Answers.{of_layout}
use Rattle.layout_lamps.specs.Lamps.{lamp_of, strip_of, lamp_in, strip_length_in, strip_in}

unfoldable pub get_strip : IsomorphicLayout → Outcome (List ℕ)
unfolding layout_outcome strip_of
get_strip r = of_layout r (λ (l : Layout). given (strip_in l))

-- "The board repeats the strip": a key's code, below 0 too, is the strip's at the remainder, never negative, by the strip's length.
unfoldable pub get_lamp : IsomorphicLayout → ℤ → Outcome ℕ
unfolding layout_outcome lamp_of
get_lamp r key = of_layout r (λ (l : Layout). given (lamp_in l (remainder key (strip_length_in l))))
