-- What the calls answer: the questions of document 01 that concern them, in rising order, then the value.
use Rattle.std.specs.Prelude.{ℕ, Bool, List, length}
use Rattle.answer.specs.Outcome.{Outcome, given}
use Rattle.answer.specs.Lent.{held_in}
use Rattle.genchain.specs.Chains.{chain_of}
use Rattle.genchain.specs.Answers.{ask_chain}
use Rattle.pergen.specs.declared.Accidentals.{Accidentals}
use Rattle.notes.specs.Names.{name_text}

-- The name of a key with these accidentals, in the letters of a chain.
unfoldable pub chain_name : ℕ → Bool → Accidentals → List ℕ
unfolding name_text chain_of
chain_name code sharp_first a = name_text (chain_of code).letters sharp_first a

-- Question 1, then the name's length.
unfoldable pub name_length_outcome : ℕ → Bool → Accidentals → Outcome ℕ
unfolding chain_name
name_length_outcome code sharp_first a = ask_chain code (given (length (chain_name code sharp_first a)))

-- Questions 1 and 10, of an output slice with `room` elements, then the name.
unfoldable pub name_outcome : ℕ → Bool → Accidentals → ℕ → Outcome (List ℕ)
unfolding chain_name
name_outcome code sharp_first a room = ask_chain code (held_in room (chain_name code sharp_first a))
