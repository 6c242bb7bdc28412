-- What the calls answer: the questions of both layouts, then those of the call, then the value; a table goes through question 10 too.
use Rattle.std.specs.Prelude.{ℕ, ◌&&◌, List, ltb}
use Rattle.answer.specs.Outcome.{Outcome, given, ask}
use Rattle.pergen.specs.Pergen.{cycles}
use Rattle.pergen.specs.declared.Spelling.{Spelling}
use Rattle.layout.specs.Layouts.{Layout, layout_outcome, cycles_in}
use Rattle.layout.specs.Answers.{of_layout}
use Rattle.layout_retuning.specs.Retunings.{first_of, second_of, moved, move_table, largest}
use Rattle.layout_retuning.specs.declared.Retuning.{Retuning}

-- "The first layout's questions go before the second's": 1 to 4 and 18 of the one, 1 to 4 and 18 of the other. Chain, octave and start are
-- the same, so of the second only 3 and 4 can have the answer no.
abbrev pub of_retuning : {A : Type 0} → Retuning → (Layout → Layout → Outcome A) → Outcome A
of_retuning t next = of_layout (first_of t) (λ (l : Layout). of_layout (second_of t) (λ (m : Layout). next l m))

-- 16. Is the letter's place below the number of letters? "21 when the stars are not below both cycle counts, after 16." Then the move.
unfoldable pub moved_in : Layout → Layout → Spelling → Outcome ℕ
unfolding cycles moved
moved_in l m x =
    ask 16 (ltb x.index l.letters) (ask 21 (ltb x.stars (cycles_in l) && ltb x.stars (cycles_in m)) (given (moved l m x)))

unfoldable pub get_moved : Retuning → Spelling → Outcome ℕ
unfolding layout_outcome moved_in
get_moved t x = of_retuning t (λ (l m : Layout). moved_in l m x)

unfoldable pub get_move_table : Retuning → Outcome (List ℕ)
unfolding layout_outcome move_table
get_move_table t = of_retuning t (λ (l m : Layout). given (move_table l m))

unfoldable pub get_largest_move : Retuning → Outcome ℕ
unfolding layout_outcome move_table largest
get_largest_move t = of_retuning t (λ (l m : Layout). given (largest (move_table l m)))
