-- The keyboard mapping of a layout (document 02, W-210), and what the calls answer: questions 1 to 4 and 18 of the layout, then the text,
-- or 19 and 20 of a text and the keys that it maps; what is written to a slice goes through question 10 last.
use Rattle.std.specs.Prelude.{ℕ, Bool, List, eqb}
use Rattle.answer.specs.Outcome.{Outcome, given}
use Rattle.layout.specs.declared.IsomorphicLayout.{IsomorphicLayout}
use Rattle.layout.specs.Layouts.{Layout, layout_outcome}
use Rattle.layout.specs.Answers.{of_layout}
use Rattle.layout_layers.specs.KeyLayers.{layer_number, number_in}
use Rattle.math.specs.Passing.{passing}
use Rattle.kbm_text.specs.Reading.{read_outcome}
use Rattle.kbm_text.specs.Written.{kbm_text}

-- "where key k's layer in the first octave is natural": of the numbers of the layers "0 is natural" (document 01, "Step patterns"). The
-- entries of the first octave are those of keys 0 to octave − 1.
unfoldable pub natural : Layout → ℕ → Bool
unfolding layer_number
natural l key = eqb (number_in l key) 0

-- "Write one for an accepted layout"
unfoldable pub mapping_in : Layout → List ℕ
unfolding kbm_text natural
mapping_in l = kbm_text l.octave (natural l)

-- "the natural keys", rising
unfoldable pub natural_keys : Layout → List ℕ
unfolding passing natural
natural_keys l = passing (natural l) l.octave 0

unfoldable pub get_kbm : IsomorphicLayout → Outcome (List ℕ)
unfolding layout_outcome mapping_in
get_kbm r = of_layout r (λ (l : Layout). given (mapping_in l))

-- "The reader is given the accepted layout too and expects as many entries as its octave steps"
unfoldable pub get_mapped_keys : IsomorphicLayout → List ℕ → Outcome (List ℕ)
unfolding layout_outcome read_outcome
get_mapped_keys r text = of_layout r (λ (l : Layout). read_outcome l.octave text)
