-- UTF-8 of a letter, by its two forms: one byte, or two bytes above 127.
use Prim.Native.Nat.{ℕ, ◌+◌, ◌/◌, ◌%◌, ◌<◌, ◌≤◌}
use mathlib.Core.Path.{◌≡◌}
use mathlib.Core.Bool.{Bool, true, false}
use mathlib.Core.List.{[], ◌∷◌}
use native.Mathlib.Omega.{arith}
use lib.Dec.{ltb}
use lib.ListN.{length}
use borrow.Author.Tests.{lt-ltb, le-ltb}
use Rattle.answer.specs.Choice.{pick}
use Rattle.notes.specs.Names.{letter_text}

pub letter_one : (c : ℕ) → c < 128 → letter_text c ≡ c ∷ []
unfolding letter_text
letter_one c h = simp (lt-ltb c 128 h)

pub letter_two : (c : ℕ) → 128 ≤ c → letter_text c ≡ (192 + c / 64) ∷ (128 + c % 64) ∷ []
unfolding letter_text
letter_two c h = simp (le-ltb c 128 h)

pub length_letter : (c : ℕ) → length (letter_text c) ≤ 2
unfolding letter_text
length_letter c = by (ltb c 128)
  where
    by : (b : Bool) → length (pick b (c ∷ []) ((192 + c / 64) ∷ (128 + c % 64) ∷ [])) ≤ 2
    by true = omega arith
    by false = omega arith

pub letter_not_empty : (c : ℕ) → 1 ≤ length (letter_text c)
unfolding letter_text
letter_not_empty c = by (ltb c 128)
  where
    by : (b : Bool) → 1 ≤ length (pick b (c ∷ []) ((192 + c / 64) ∷ (128 + c % 64) ∷ []))
    by true = omega arith
    by false = omega arith
