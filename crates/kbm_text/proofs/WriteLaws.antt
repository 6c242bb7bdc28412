-- The head and an entry: their lengths, and how each is written.
use Prim.Native.Nat.{ℕ, ◌+◌, ◌*◌}
use native.Mathlib.Omega.{arith}
use mathlib.Core.Bool.{Bool, true, false}
use mathlib.Core.Path.{◌≡◌, sym, ap, subst}
use mathlib.Core.List.{List, [], ◌∷◌, ◌++◌, append_assoc}
use lib.ListN.{length, length-append}
use Rattle.answer.specs.Choice.{pick}
use Rattle.text.specs.Writing.{Room}
use Rattle.text.specs.Decimal.{digits, DigitsLength}
use Rattle.kbm_text.specs.Kinds.{mark, frequency}
use Rattle.kbm_text.specs.Written.{line, head_text, entry_line}
use Rattle.kbm_text.specs.Parts.{LengthUpTo}

-- ---- the head

-- what stands between the size and the octave degree, with the line feed of the size
abbrev pub notes : List ℕ
notes = 10 ∷ 48 ∷ 10 ∷ 49 ∷ 50 ∷ 55 ∷ 10 ∷ 54 ∷ 48 ∷ 10 ∷ 54 ∷ 57 ∷ 10 ∷ frequency ++ (10 ∷ [])

pub head_is : (octave : ℕ) → head_text octave ≡ ((digits octave ++ notes) ++ digits octave) ++ (10 ∷ [])
unfolding head_text
head_is octave = simp append_assoc

pub length_head : (octave : ℕ) → length (head_text octave) ≡ 2 * length (digits octave) + 25
length_head octave =
    omega (
      arith,
      ap length (head_is octave),
      length-append ((digits octave ++ notes) ++ digits octave) (10 ∷ []),
      length-append (digits octave ++ notes) (digits octave),
      length-append (digits octave) notes,
    )

pub head_length : (octave r : ℕ) → DigitsLength octave r → LengthUpTo 35 (head_text octave) (2 * r + 25)
head_length octave r d = record { is = omega (arith, d.is_length, length_head octave); few = omega (arith, d.few) }

-- ---- an entry

module _ (key : ℕ) (mapped : Bool) where
  pub entry_number : mapped ≡ true → entry_line key mapped ≡ digits key ++ (10 ∷ [])
  unfolding entry_line
  entry_number e = ap (λ (t : Bool). line (pick t (digits key) mark)) e

  pub entry_mark : mapped ≡ false → entry_line key mapped ≡ 120 ∷ 10 ∷ []
  unfolding entry_line
  entry_mark e = ap (λ (t : Bool). line (pick t (digits key) mark)) e

  pub number_length : mapped ≡ true → (r : ℕ) → DigitsLength key r → LengthUpTo 6 (entry_line key mapped) (r + 1)
  number_length e r d =
      record {
        is = omega (arith, d.is_length, ap length (entry_number e), length-append (digits key) (10 ∷ []));
        few = omega (arith, d.few);
      }

  pub mark_length : mapped ≡ false → LengthUpTo 6 (entry_line key mapped) 2
  mark_length e = record { is = sym (ap length (entry_mark e)); few = omega arith }

-- ---- room, for a text that is said otherwise

pub room_as : (xs : List ℕ) (at : ℕ) {t u : List ℕ} → t ≡ u → Room xs at t → Room xs at u
room_as xs at {t} {u} e r = subst (Room xs at) e r
