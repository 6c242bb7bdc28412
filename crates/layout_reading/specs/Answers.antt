-- What the calls answer: questions 1 to 4 and 18 of the layout, then 23, 21 and 24 of the text, then the spelling or the key.
use Rattle.std.specs.Prelude.{ℕ, ◌+◌, ◌-◌, ◌&&◌, List, [], ◌∷◌, length, take, drop, eqb, ltb}
use Rattle.answer.specs.Choice.{pick}
use Rattle.answer.specs.Outcome.{Outcome, given, ask, and_then}
use Rattle.genchain.specs.Chains.{chain_of}
use Rattle.pergen.specs.declared.Spelling.{Spelling}
use Rattle.pergen.specs.Pergen.{cycles}
use Rattle.notes.specs.Reading.{leading}
use Rattle.layout.specs.Layouts.{Layout, layout_outcome, cycles_in, sharp_first}
use Rattle.layout.specs.Names.{key_of}
use Rattle.layout.specs.Answers.{of_layout}
use Rattle.layout.specs.declared.IsomorphicLayout.{IsomorphicLayout}
use Rattle.layout_reading.specs.Reading.{in_front, bytes_before, read_spelling}

-- ---- one spelling

-- 23. Is the text a spelling's, in the chain's letters and the layout's signs?
unfoldable pub typed_in : Layout → List ℕ → Outcome Spelling
unfolding read_spelling
typed_in l text = read_spelling (chain_of l.chain).letters (sharp_first l) text

-- Then 21. Are its stars below the cycles?
unfoldable pub spelling_in : Layout → List ℕ → Outcome Spelling
unfolding typed_in cycles
spelling_in l text = and_then (typed_in l text) (λ (x : Spelling). ask 21 (ltb x.stars (cycles_in l)) (given x))

-- Questions 1 to 4 and 18, then those of the text.
unfoldable pub get_spelling : IsomorphicLayout → List ℕ → Outcome Spelling
unfolding layout_outcome spelling_in
get_spelling r text = of_layout r (λ (l : Layout). spelling_in l text)

-- ---- two spellings of one key

-- 23. Is the text that of a spelling without stars?
unfoldable pub starless_in : Layout → List ℕ → Outcome Spelling
unfolding typed_in
starless_in l text = and_then (typed_in l text) (λ (x : Spelling). ask 23 (eqb x.stars 0) (given x))

-- The same letter and signs, with these stars.
abbrev pub with_stars : ℕ → Spelling → Spelling
with_stars stars x = record { index = x.index; signs = x.signs; stars = stars }

-- 24. Do two spellings, with these stars, sound one key?
unfoldable pub key_of_both : Layout → ℕ → Spelling → Spelling → Outcome ℕ
unfolding key_of
key_of_both l stars x y =
    ask 24 (eqb (key_of l (with_stars stars x)) (key_of l (with_stars stars y))) (given (key_of l (with_stars stars x)))

-- 23, of the first text and of the second; 21, of the stars that both spellings have; 24.
unfoldable pub both_in : Layout → ℕ → (first second : List ℕ) → Outcome ℕ
unfolding starless_in cycles key_of_both
both_in l stars first second =
    and_then (starless_in l first)
    (λ (x : Spelling). and_then (starless_in l second) (λ (y : Spelling). ask 21 (ltb stars (cycles_in l)) (key_of_both l stars x y)))

-- "with / between": 47 is /
unfoldable pub slashed_in : Layout → ℕ → List ℕ → Outcome ℕ
unfolding bytes_before both_in
slashed_in l stars text =
    let slash = bytes_before 47 text in
    ask 23 (ltb slash (length text)) (both_in l stars (take slash text) (drop (slash + 1) text))

-- "in parentheses if a cycle is present .. Then one * per cycle number": 40 is (, 41 is ), 42 is *
unfoldable pub enclosed_in : Layout → List ℕ → Outcome ℕ
unfolding in_front bytes_before leading slashed_in
enclosed_in l text =
    let close = bytes_before 41 text in
    let stars = drop (close + 1) text in
    ask 23 (in_front (40 ∷ []) text && (ltb close (length text) && eqb (leading 42 stars) (length stars)))
    (slashed_in l (length stars) (take (close - 1) (drop 1 text)))

-- ---- the key that a text names

-- A text with a / is read as two spellings, in parentheses where the layout has more cycles than one; any other text as one spelling.
unfoldable pub named_in : Layout → List ℕ → Outcome ℕ
unfolding bytes_before cycles enclosed_in slashed_in spelling_in key_of
named_in l text =
    pick (ltb (bytes_before 47 text) (length text))
    (pick (ltb 1 (cycles_in l)) (enclosed_in l text) (slashed_in l 0 text))
    (and_then (spelling_in l text) (λ (x : Spelling). given (key_of l x)))

-- Questions 1 to 4 and 18, then those of the text.
unfoldable pub get_named_key : IsomorphicLayout → List ℕ → Outcome ℕ
unfolding layout_outcome named_in
get_named_key r text = of_layout r (λ (l : Layout). named_in l text)
