-- What the calls answer: the questions of document 01 that concern them, in rising order, then the value.
use Rattle.std.specs.Prelude.{ℕ, ℤ, leb, ltb}
use Rattle.answer.specs.Outcome.{Outcome, given, ask}
use Rattle.pergen.specs.Pergen.{generation_of}
use Rattle.pergen.specs.Spelling.{key_accidentals, place, sounded_key}
use Rattle.pergen.specs.declared.PerGen.{PerGen}
use Rattle.pergen.specs.declared.Generation.{Generation}
use Rattle.pergen.specs.declared.AccidentalsFormat.{AccidentalsFormat}
use Rattle.pergen.specs.declared.Accidentals.{Accidentals}
use Rattle.pergen.specs.declared.Spelling.{Spelling}

-- 2. Is the period at least 1?
abbrev pub ask_period : {A : Type 0} → PerGen → Outcome A → Outcome A
ask_period p rest = ask 2 (leb 1 p.period) rest

-- 5. Is a free format's symbol count at least 1? 6. Is its origin below that count?
abbrev pub ask_format : {A : Type 0} → AccidentalsFormat → Outcome A → Outcome A
ask_format f rest = ask 5 (leb 1 f.num_symbols) (ask 6 (ltb f.genchain_origin f.num_symbols) rest)

-- A number that a pergen has.
unfoldable pub of_pergen : PerGen → ℕ → Outcome ℕ
of_pergen p number = ask_period p (given number)

unfoldable pub new_outcome : ℕ → ℕ → Outcome PerGen
new_outcome period generator =
    let p : PerGen = record { period = period; generator = generator } in
    ask_period p (given p)

unfoldable pub get_generation : PerGen → ℤ → Outcome Generation
unfolding generation_of
get_generation p key = ask_period p (given (generation_of p.period p.generator key))

unfoldable pub get_accidentals : PerGen → AccidentalsFormat → ℤ → Outcome Accidentals
unfolding key_accidentals
get_accidentals p f key =
    ask_period p
    (ask_format f (given (key_accidentals p.period p.generator f.num_symbols f.genchain_origin key)))

unfoldable pub get_place : AccidentalsFormat → Spelling → Outcome ℤ
unfolding place
get_place f s = ask_format f (given (place f.num_symbols f.genchain_origin s))

unfoldable pub get_sounded_key : PerGen → AccidentalsFormat → Spelling → Outcome ℕ
unfolding sounded_key
get_sounded_key p f s =
    ask_period p (ask_format f (given (sounded_key p.period p.generator f.num_symbols f.genchain_origin s)))
