-- A keyboard mapping as it is written, for a choice of keys.
use Rattle.std.specs.Prelude.{ℕ, Bool, List, [], ◌∷◌, ◌++◌}
use Rattle.answer.specs.Choice.{pick}
use Rattle.text.specs.Writing.{joined}
use Rattle.text.specs.Decimal.{digits}
use Rattle.kbm_text.specs.Kinds.{mark, frequency}

-- "Each stands on a line of its own, ended by a line feed."
abbrev pub line : List ℕ → List ℕ
line text = text ++ (10 ∷ [])

-- "size, first and last note, middle note, reference note, frequency, octave degree"
unfoldable pub head_text : ℕ → List ℕ
unfolding digits
head_text octave =
    line (digits octave)
    ++ line (digits 0)
    ++ line (digits 127)
    ++ line (digits 60)
    ++ line (digits 69)
    ++ line frequency
    ++ line (digits octave)

-- "Entry k is k where" it is mapped, "and else the unmapped mark".
unfoldable pub entry_line : ℕ → Bool → List ℕ
unfolding digits
entry_line key mapped = line (pick mapped (digits key) mark)

-- The whole text, for the keys of an octave that are mapped.
unfoldable pub kbm_text : ℕ → (ℕ → Bool) → List ℕ
unfolding head_text joined entry_line
kbm_text octave mapped = head_text octave ++ joined (λ key. entry_line key (mapped key)) octave

-- The keys of an octave that are mapped, rising.
unfoldable pub mapped_keys : ℕ → (ℕ → Bool) → List ℕ
unfolding joined
mapped_keys octave mapped = joined (λ key. pick (mapped key) (key ∷ []) []) octave
