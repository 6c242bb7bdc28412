-- A list whose first elements have been changed, one by one: what a loop over it has done after so many turns.
use Prim.Native.Nat.{ℕ, zero, suc, ◌+◌, ◌<◌}
use mathlib.Core.Path.{◌≡◌, refl, sym, ap, ◌∙◌}
use mathlib.Core.List.{List, [], ◌∷◌, map}
use native.Mathlib.Nat.{not-suc-le-zero, le_of_suc-le-suc, add-suc, add-zero}
use lib.ListN.{length, get_or, set}
use Rattle.layout_sheet.specs.Parts.{changed}

module _ {A : Type 0} (f : A → A) where
  pub changed_none : (xs : List A) → changed f 0 xs ≡ xs
  unfolding changed
  changed_none xs = refl

  pub changed_all : (xs : List A) → changed f (length xs) xs ≡ map f xs
  unfolding changed
  changed_all [] = refl
  changed_all (x ∷ xs) = ap {B = List A} (λ ys. f x ∷ ys) (changed_all xs)

  pub changed_length : (i : ℕ) (xs : List A) → length (changed f i xs) ≡ length xs
  unfolding changed
  changed_length zero xs = refl
  changed_length (suc i) [] = refl
  changed_length (suc i) (x ∷ xs) = ap suc (changed_length i xs)

  -- one turn more
  changed_suc : (i : ℕ) (xs : List A) (d : A) → i < length xs → set (changed f i xs) i (f (get_or (changed f i xs) i d)) ≡ changed f (suc i) xs
  unfolding changed
  changed_suc i [] d l = absurd (not-suc-le-zero l)
  changed_suc zero (x ∷ xs) d l = refl
  changed_suc (suc i) (x ∷ xs) d l = ap {B = List A} (λ ys. f x ∷ ys) (changed_suc i xs d (le_of_suc-le-suc l))

  pub changed_next : (i : ℕ) (xs : List A) (d : A) → i < length xs → set (changed f i xs) i (f (get_or (changed f i xs) i d)) ≡ changed f (i + 1) xs
  changed_next i xs d l = changed_suc i xs d l ∙ ap (λ (k : ℕ). changed f k xs) (sym (add-suc i zero ∙ ap suc (add-zero i)))

-- some element of a list that has one
abbrev pub some_of : {A : Type 0} (xs : List A) {i : ℕ} → i < length xs → A
some_of [] l = absurd (not-suc-le-zero l)
some_of (x ∷ xs) l = x
