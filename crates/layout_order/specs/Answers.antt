-- What the calls answer: questions 1 to 4 and 18 of the layout, question 10 of the list that is lent, then the list in the other order;
-- question 10 of the second list comes behind it.
use Rattle.std.specs.Prelude.{ℕ, List, leb, length}
use Rattle.answer.specs.Outcome.{Outcome, given, ask}
use Rattle.layout.specs.declared.IsomorphicLayout.{IsomorphicLayout}
use Rattle.layout.specs.Layouts.{Layout, layout_outcome}
use Rattle.layout.specs.Answers.{of_layout}
use Rattle.layout_order.specs.Order.{in_chain_order, in_key_order}

-- "if either is shorter than the octave, question 10 says no": here of the list that is read.
abbrev pub ordered : ℕ → List ℕ → List ℕ → Outcome (List ℕ)
ordered octave entries output = ask 10 (leb octave (length entries)) (given output)

unfoldable pub get_chain_order : IsomorphicLayout → List ℕ → Outcome (List ℕ)
unfolding layout_outcome in_chain_order
get_chain_order r entries = of_layout r (λ (l : Layout). ordered l.octave entries (in_chain_order l.octave l.generator entries))

unfoldable pub get_key_order : IsomorphicLayout → List ℕ → Outcome (List ℕ)
unfolding layout_outcome in_key_order
get_key_order r entries = of_layout r (λ (l : Layout). ordered l.octave entries (in_key_order l.octave l.generator entries))
