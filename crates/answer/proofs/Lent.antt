-- Laws of lent slices: how question 10 is answered, and what a refusal leaves. That a written output fills a slice is in text: Writing.
use mathlib.Core.Path.{◌≡◌, refl, sym, ap, ◌∙◌}
use Prim.Native.Nat.{ℕ, ◌≤◌, ◌<◌}
use mathlib.Core.List.{List}
use lib.ListN.{length}
use borrow.Author.Tests.{le-leb, lt-leb}
use Rattle.answer.specs.Outcome.{Outcome, given, refused}
use Rattle.answer.specs.Lent.{held_in, in_room, counted, written, Filled}

module _ {A : Type 0} where
  -- question 10, by what the code tests
  pub held : (room : ℕ) (output : List A) → length output ≤ room → held_in room output ≡ given output
  held room output h = simp (le-leb (length output) room h)

  pub not_held : (room : ℕ) (output : List A) → room < length output → held_in room output ≡ refused 10
  not_held room output h = simp (lt-leb (length output) room h)

  -- a refusal, with the slice untouched
  pub filled_refused : {o : Outcome (List A)} {a : Outcome ℕ} (n : ℕ) (xs : List A) → o ≡ refused n → a ≡ refused n → Filled o a xs xs
  filled_refused n xs e f = record { answered = f ∙ sym (ap counted e); content = sym (ap (λ (p : Outcome (List A)). written p xs) e) }

  -- question 10 refuses an output that the call would give
  pub filled_short : {o : Outcome (List A)} (xs output : List A) → o ≡ given output → length xs < length output
      → Filled (in_room (length xs) o) (refused 10) xs xs
  filled_short xs output e h = filled_refused 10 xs (ap (in_room (length xs)) e ∙ not_held (length xs) output h) refl
