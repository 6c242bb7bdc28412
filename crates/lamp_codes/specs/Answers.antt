-- What the calls answer: question 17, then the strip; it goes through question 10 too.
use Rattle.std.specs.Prelude.{ℕ, Bool, List, map}
use Rattle.answer.specs.Outcome.{Outcome, given, ask}
use Rattle.answer.specs.Tests.{all_of}
use Rattle.lamp_codes.specs.Codes.{is_old, wide_code, is_converted, old_code}

-- A strip whose codes all have a partner has their partners for its answer.
abbrev pub converting : {A B : Type 0} → (A → Bool) → (A → B) → List A → Outcome (List B)
converting test partner strip = ask 17 (all_of test strip) (given (map partner strip))

-- "17 when an old strip holds a code from 202 to 254"
unfoldable pub get_widened : List ℕ → Outcome (List ℕ)
unfolding wide_code
get_widened strip = ask 17 (all_of is_old strip) (given (map wide_code strip))

-- ".. or a strip on its way back holds a code that no old code converts to"
unfoldable pub get_narrowed : List ℕ → Outcome (List ℕ)
unfolding old_code
get_narrowed strip = ask 17 (all_of is_converted strip) (given (map old_code strip))
