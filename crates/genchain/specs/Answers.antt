-- What the calls answer: the questions of document 01 that concern them, in rising order, then the value.
use Rattle.std.specs.Prelude.{ℕ, List, length, leb, ltb}
use Rattle.answer.specs.Outcome.{Outcome, given, ask}
use Rattle.answer.specs.Lent.{held_in}
use Rattle.genchain.specs.Chains.{chain_of}

-- 1. Is the chain code 0 to 5?
abbrev pub ask_chain : {A : Type 0} → ℕ → Outcome A → Outcome A
ask_chain code rest = ask 1 (ltb code 6) rest

-- Then 2: "Is the octave (or period) at least 1?", and 3 as the chain's rule asks it.
unfoldable pub generator_outcome : ℕ → ℕ → ℕ → Outcome ℕ
unfolding chain_of
generator_outcome code octave tritave = ask_chain code (ask 2 (leb 1 octave) ((chain_of code).generator octave tritave))

unfoldable pub num_letters_outcome : ℕ → Outcome ℕ
unfolding chain_of
num_letters_outcome code = ask_chain code (given (length (chain_of code).letters))

unfoldable pub start_outcome : ℕ → Outcome ℕ
unfolding chain_of
start_outcome code = ask_chain code (given (chain_of code).start)

unfoldable pub name_length_outcome : ℕ → Outcome ℕ
unfolding chain_of
name_length_outcome code = ask_chain code (given (length (chain_of code).name))

-- Then 10, of an output slice with `room` elements.
unfoldable pub letters_outcome : ℕ → ℕ → Outcome (List ℕ)
unfolding chain_of
letters_outcome code room = ask_chain code (held_in room (chain_of code).letters)

unfoldable pub name_outcome : ℕ → ℕ → Outcome (List ℕ)
unfolding chain_of
name_outcome code room = ask_chain code (held_in room (chain_of code).name)
