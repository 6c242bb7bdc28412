-- What each call answers: the questions with their numbers, in their order, and what an answer means.
use Rattle.std.specs.Prelude.{ℕ, List, length, Float, Option, slice_get}
use Rattle.answer.specs.Outcome.{Outcome, given, ask}
use Rattle.answer.specs.Lent.{held_in}
use Rattle.mos_fractional.specs.declared.FractionalMos.{FractionalMos}
use Rattle.mos_fractional.specs.Fractional.{is_finite, genesis}
use Rattle.mos_fractional.specs.Walk.{children_from}

-- "22 when the generator is infinite or not a number, first of all", then a fact of it.
abbrev pub of_generator : {A : Type 0} → Float → A → Outcome A
of_generator generator fact = ask 22 (is_finite generator) (given fact)

-- The genesis, the k-th pattern of the walk from 0 on if there is one, and how many there are.
abbrev pub genesis_outcome : Float → Outcome FractionalMos
genesis_outcome generator = of_generator generator (genesis generator)

abbrev pub nth_outcome : Float → ℕ → Outcome (Option FractionalMos)
nth_outcome generator k = of_generator generator (slice_get (children_from generator) k)

abbrev pub length_outcome : Float → Outcome ℕ
length_outcome generator = of_generator generator (length (children_from generator))

-- Question 22, then question 10, for a listing of the walk.
abbrev pub listing_outcome : Float → ℕ → Outcome (List FractionalMos)
listing_outcome generator room = ask 22 (is_finite generator) (held_in room (children_from generator))
