-- What the parts behind the calls promise, by the numbers that the code carries.
use Rattle.std.specs.Prelude.{ℕ, ◌*◌, ◌/◌, ◌%◌, ◌<◌, ◌≤◌, ◌≡◌, ◌&&◌, List, [], ◌∷◌, ltb, ℤ, pos, ◌-ℤ◌, Result, Ok, Err}
use Rattle.answer.specs.Outcome.{Outcome, given, refused, ask}
use Rattle.answer.specs.Refusals.{number_of}
use Rattle.answer.specs.declared.Refusal.{Refusal}
use Rattle.text.specs.Writing.{joined}
use Rattle.pergen.specs.Pergen.{cycles}
use Rattle.pergen.specs.Spelling.{place, sounds, sounded_key}
use Rattle.pergen.specs.declared.Spelling.{Spelling}
use Rattle.layout.specs.declared.IsomorphicLayout.{IsomorphicLayout}
use Rattle.layout.specs.Layouts.{Layout, layout_outcome}
use Rattle.layout_reach.specs.Reach.{distance}
use Rattle.layout_retuning.specs.Retunings.{table_spelling}
use Rattle.layout_retuning.specs.Answers.{of_retuning}
use Rattle.layout_retuning.specs.declared.Retuning.{Retuning}
use Rattle.layout_retuning.specs.declared.parts.Keys.{Keys}
use Rattle.layout_retuning.specs.declared.parts.Strides.{Strides}
use Rattle.layout_retuning.specs.declared.tunings.Tunings.{Tunings}

-- The layout with a tritave: `first_of` with the one before, `second_of` with the one after.
abbrev pub layout_at : Retuning → ℕ → IsomorphicLayout
layout_at t tritave = record { genchain = t.genchain; octave = t.octave; tritave = tritave; start = t.start }

-- What a move reads of two layouts.
pub record Numbers : Type 0 where
  pub octave : ℕ
  pub num_letters : ℕ
  pub start : ℕ
  pub first : ℕ
  pub second : ℕ

abbrev pub tunings_of : Layout → Layout → Numbers
tunings_of l m =
    record { octave = l.octave; num_letters = l.letters; start = l.start; first = l.generator; second = m.generator }

-- The same of what the questions found.
abbrev pub numbers_of : Tunings → Numbers
numbers_of k = record { octave = k.octave; num_letters = k.num_letters; start = k.start; first = k.first; second = k.second }

abbrev pub tunings_outcome : Result Tunings Refusal → Outcome Numbers
tunings_outcome (Ok k) = given (numbers_of k)
tunings_outcome (Err q) = refused (number_of q)

unfoldable pub get_tunings : Retuning → Outcome Numbers
unfolding layout_outcome
get_tunings t = of_retuning t (λ (l m : Layout). given (tunings_of l m))

-- What holds of these numbers.
pub record Tuned (k : Numbers) : Type 0 where
  pub positive : 0 < k.octave
  pub few_letters : k.num_letters ≤ 9

-- The keys that a place of the chain sounds in both tunings, with so many stars.
unfoldable pub keys_at : Numbers → ℤ → ℕ → Keys
unfolding sounds
keys_at k at stars = record { first = sounds k.octave k.first at stars; second = sounds k.octave k.second at stars }

-- The move, by these numbers.
unfoldable pub steps_by : Numbers → Spelling → ℕ
unfolding distance sounded_key
steps_by k x =
    distance k.octave
    (pos (sounded_key k.octave k.first k.num_letters k.start x))
    (pos (sounded_key k.octave k.second k.num_letters k.start x))

-- Questions 16 and 21, then the move.
unfoldable pub moved_by : Numbers → Spelling → Outcome ℕ
unfolding cycles steps_by
moved_by k x =
    ask 16 (ltb x.index k.num_letters)
    (ask 21 (ltb x.stars (cycles k.octave k.first) && ltb x.stars (cycles k.octave k.second)) (given (steps_by k x)))

-- How many entries the table has, and its first ones.
abbrev pub table_length : Numbers → ℕ
table_length k = k.num_letters * 17

unfoldable pub table_by : Numbers → ℕ → List ℕ
unfolding joined steps_by
table_by k count = joined (λ i. steps_by k (table_spelling (i / 17) (i % 17)) ∷ []) count

-- Both keys of the i-th entry.
unfoldable pub table_keys : Numbers → ℕ → Keys
unfolding keys_at place
table_keys k i = keys_at k (place k.num_letters k.start (table_spelling (i / 17) (i % 17))) 0

-- What they go on by: a sharp is as many places as there are letters; the next letter with sixteen signs less is one place on and sixteen
-- times as many back.
pub record StridesOf (k : Numbers) (r : Strides) : Type 0 where
  pub sharp_is : r.sharp ≡ keys_at k (pos k.num_letters -ℤ pos 0) 0
  pub letter_is : r.letter ≡ keys_at k (pos 1 -ℤ pos (k.num_letters * 16)) 0
