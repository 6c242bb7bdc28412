-- What the calls answer: the questions of document 01 that concern them, in rising order, then the value.
use Rattle.std.specs.Prelude.{ℕ, List, ltb, ℤ}
use Rattle.answer.specs.Outcome.{Outcome, given, ask, and_then}
use Rattle.mos.specs.declared.Mos.{Mos}
use Rattle.pergen.specs.declared.PerGen.{PerGen}
use Rattle.pergen.specs.declared.Accidentals.{Accidentals}
use Rattle.pergen.specs.declared.Spelling.{Spelling}
use Rattle.pergen.specs.Pergen.{cycles}
use Rattle.layout.specs.Layouts.{Layout, layout_outcome, cycles_in, accidentals_in}
use Rattle.layout.specs.ScaleNames.{scale_name}
use Rattle.layout.specs.Names.{key_of, name_in}
use Rattle.layout.specs.declared.IsomorphicLayout.{IsomorphicLayout}

-- Questions 1 to 4 and 18 of a caller's record, then what is asked of the layout.
abbrev pub of_layout : {A : Type 0} → IsomorphicLayout → (Layout → Outcome A) → Outcome A
of_layout r next = and_then (layout_outcome r) next

unfoldable pub create_outcome : IsomorphicLayout → Outcome IsomorphicLayout
unfolding layout_outcome
create_outcome r = of_layout r (λ (l : Layout). given r)

unfoldable pub get_genchain : IsomorphicLayout → Outcome ℕ
unfolding layout_outcome
get_genchain r = of_layout r (λ (l : Layout). given l.chain)

unfoldable pub get_pergen : IsomorphicLayout → Outcome PerGen
unfolding layout_outcome
get_pergen r = of_layout r (λ (l : Layout). given (record { period = l.octave; generator = l.generator }))

unfoldable pub get_mos : IsomorphicLayout → Outcome Mos
unfolding layout_outcome
get_mos r = of_layout r (λ (l : Layout). given l.pattern)

unfoldable pub get_accidentals : IsomorphicLayout → ℤ → Outcome Accidentals
unfolding layout_outcome accidentals_in
get_accidentals r key = of_layout r (λ (l : Layout). given (accidentals_in l key))

-- Questions 1 to 4 and 18, then the scale's name.
unfoldable pub get_scale_name : IsomorphicLayout → Outcome (List ℕ)
unfolding layout_outcome scale_name
get_scale_name r = of_layout r (λ (l : Layout). given (scale_name l.chain l.pattern))

-- Questions 1 to 4 and 18, then the key's name.
unfoldable pub get_note_name : IsomorphicLayout → ℤ → Outcome (List ℕ)
unfolding layout_outcome name_in
get_note_name r key = of_layout r (λ (l : Layout). given (name_in l key))

-- 16. Is the letter's place below the number of letters? 21. Are the stars below the number of cycles? (Document 02.) Then the key
-- of the octave that the spelling sounds.
unfoldable pub sounded_in : Layout → Spelling → Outcome ℕ
unfolding cycles key_of
sounded_in l x = ask 16 (ltb x.index l.letters) (ask 21 (ltb x.stars (cycles_in l)) (given (key_of l x)))

-- Questions 1 to 4 and 18, then those of the spelling.
unfoldable pub get_sounded_key : IsomorphicLayout → Spelling → Outcome ℕ
unfolding layout_outcome sounded_in
get_sounded_key r x = of_layout r (λ (l : Layout). sounded_in l x)
