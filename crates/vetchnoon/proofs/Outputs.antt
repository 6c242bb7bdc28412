-- What each call writes, from what the library answered.
use Rattle.std.specs.Prelude.{Option}
use Prim.Native.Nat.{ℕ, ◌≤◌, ◌<◌, ◌^◌}
use mathlib.Core.Path.{◌≡◌, refl, sym, ap, ◌∙◌, subst}
use mathlib.Core.Bool.{Bool, true}
use mathlib.Core.List.{List, [], ◌∷◌, ◌++◌}
use native.Mathlib.Omega.{arith}
use lib.Dec.{leb, ltb}
use lib.IntN.{ℤ}
use lib.ListN.{length}
use borrow.Author.Tests.{leb-true}
use Rattle.answer.specs.Outcome.{Outcome, given, refused, ask, and_then}
use Rattle.answer.specs.Lent.{held_in, in_room}
use Rattle.answer.proofs.Asked.{given_same, asked_yes, asked_rest, ask_then}
use Rattle.answer.proofs.Questions.{ask_none, ask_some}
use Rattle.genchain.specs.Answers.{letters_outcome, name_outcome}
use Rattle.genchain.specs.Chains.{chain_of}
use Rattle.mos_layers.specs.Answers.{layers_outcome}
use Rattle.mos_layers.specs.Layers.{layers_of}
use Rattle.layout.specs.Answers.{get_note_name}
use Rattle.layout.specs.Layouts.{Layout, layout_outcome, Accepted}
use Rattle.layout.specs.Names.{name_in}
use Rattle.layout.specs.declared.IsomorphicLayout.{IsomorphicLayout}
use Rattle.layout.proofs.Calls.{of_refused, of_given}
use Rattle.layout.proofs.Finding.{accepted, octave_is}
use Rattle.layout_book.specs.LayoutBooks.{book_in, get_book}
use Rattle.layout_book.proofs.NameBounds.{name_short}
use Rattle.layout_book.proofs.Theorems.{offsets_fit}
use Rattle.mos.specs.Answers.{of_pattern, genesis_outcome, listing_outcome}
use Rattle.mos.specs.Patterns.{is_pattern}
use Rattle.mos.specs.Walks.{children, first_with, fields, listed}
use Rattle.mos.specs.declared.Mos.{Mos}
use Rattle.mos.proofs.Theorems.{made_patterns}
use Rattle.pergen.specs.Parts.{solved_of}
use Rattle.pergen.specs.declared.euclid.Solved.{Solved}
use Rattle.vetchnoon_codes.specs.Numbers.{as_numbers, walk_numbers}
use Rattle.vetchnoon.specs.Written.{pergen_numbers, pergen_output, find_output, letters_output, name_output, layout_numbers, layout_output}

-- ---- pergens

abbrev solved_numbers : Solved → List ℕ
solved_numbers s = s.num_cycles ∷ s.reduced_period ∷ s.generator_inverse ∷ []

solved_numbers_lem : (P G : ℕ) (s : Solved) → s ≡ solved_of P G → solved_numbers s ≡ pergen_numbers P G
unfolding pergen_numbers solved_of
solved_numbers_lem P G s is = ap solved_numbers is

pub pergen_refused : (P G : ℕ) → P ≡ 0 → refused 2 ≡ pergen_output P G
unfolding pergen_output
pergen_refused P G none = sym (ask_none 2 P _ none)

pub pergen_given : (P G : ℕ) (s : Solved) → (P ≡ 0 → ⊥) → s ≡ solved_of P G → given (solved_numbers s) ≡ pergen_output P G
unfolding pergen_output
pergen_given P G s some is = ap given (solved_numbers_lem P G s is) ∙ sym (ask_some 2 P _ some)

-- ---- step patterns

module _ (P G steps : ℕ) where
  abbrev walked : Mos → Outcome (List ℕ)
  walked m = given (walk_numbers (first_with steps (children m)))

  pub find_refused : (n : ℕ) → refused n ≡ genesis_outcome P G → refused n ≡ find_output P G steps
  unfolding find_output
  find_refused n e = ap (λ (o : Outcome Mos). and_then o walked) e

  -- a genesis is a pattern
  genesis_pattern : (m : Mos) → P ≤ 65535 → given m ≡ genesis_outcome P G → is_pattern m ≡ true
  unfolding genesis_outcome
  genesis_pattern m small e =
      subst (λ (x : Mos). is_pattern x ≡ true) (given_same (asked_rest 2 (leb 1 P) _ (sym e)))
      (made_patterns.of_genesis P G (leb-true 1 P (asked_yes 2 (leb 1 P) _ (sym e))) small)

  pub find_given : (m : Mos) (w : Outcome (Option Mos)) → P ≤ 65535 → given m ≡ genesis_outcome P G
      → w ≡ of_pattern m (first_with steps (children m)) → as_numbers walk_numbers w ≡ find_output P G steps
  unfolding find_output of_pattern
  find_given m w small e q =
      ap (as_numbers walk_numbers)
      (q ∙ ap (λ (b : Bool). ask 7 b (given (first_with steps (children m)))) (genesis_pattern m small e))
      ∙ ap (λ (o : Outcome Mos). and_then o walked) e

pub listing_in_room : (room : ℕ) (m : Mos) (patterns : List Mos) → in_room room (of_pattern m (listed patterns)) ≡ listing_outcome m patterns room
unfolding of_pattern listing_outcome
listing_in_room room m patterns = ask_then 7 (is_pattern m) (given (listed patterns)) (held_in room)

pub layers_in_room : (room : ℕ) (m : Mos) → in_room room (of_pattern m (layers_of m)) ≡ layers_outcome m room
unfolding of_pattern layers_outcome
layers_in_room room m = ask_then 7 (is_pattern m) (given (layers_of m)) (held_in room)

-- ---- chains

pub letters_in_room : (room code : ℕ) → in_room room (letters_output code) ≡ letters_outcome code room
unfolding letters_output letters_outcome
letters_in_room room code = ask_then 1 (ltb code 6) (given (chain_of code).letters) (held_in room)

pub name_in_room : (room code : ℕ) → in_room room (name_output code) ≡ name_outcome code room
unfolding name_output name_outcome
name_in_room room code = ask_then 1 (ltb code 6) (given (chain_of code).name) (held_in room)

-- ---- layouts

module _ (r : IsomorphicLayout) where
  pub layout_refused : (n : ℕ) → refused n ≡ layout_outcome r → refused n ≡ layout_output r
  unfolding layout_output
  layout_refused n e = of_refused r _ n e

  pub layout_given : (l : Layout) (s : Solved) → given l ≡ layout_outcome r → s ≡ solved_of l.octave l.generator
      → given (l.generator ∷ (solved_numbers s ++ fields l.pattern)) ≡ layout_output r
  unfolding layout_output layout_numbers
  layout_given l s e is =
      ap (λ (x : List ℕ). given (l.generator ∷ (x ++ fields l.pattern))) (solved_numbers_lem l.octave l.generator s is) ∙ of_given r _ l e

-- ---- names and books are short enough to be counted

fits_given : (o : Outcome Layout) (f : Layout → List ℕ) → ((l : Layout) → o ≡ given l → length (f l) < 2 ^ 63)
    → (text : List ℕ) → and_then o (λ (l : Layout). given (f l)) ≡ given text → length text < 2 ^ 63
fits_given (given l) f h text e = subst (λ (t : List ℕ). length t < 2 ^ 63) (given_same e) (h l refl)
fits_given (refused n) f h text e = absurd (let z : ◌≡◌ {A = ℕ} 0 1 = cc in omega arith)

module _ (r : IsomorphicLayout) (small : r.octave ≤ 65535) where
  octave_fits : (l : Layout) → Accepted r l → l.octave ≤ 65535
  octave_fits l e = omega (arith, octave_is r l e)

  name_fits : (key : ℤ) (l : Layout) → Accepted r l → length (name_in l key) < 2 ^ 63
  name_fits key l e = omega (arith, name_short l (accepted r l e) (octave_fits l e) key)

  pub names_fit : (key : ℤ) (text : List ℕ) → get_note_name r key ≡ given text → length text < 2 ^ 63
  unfolding get_note_name
  names_fit key = fits_given _ (λ (l : Layout). name_in l key) (name_fits key)

  book_fits : (l : Layout) → Accepted r l → length (book_in l) < 2 ^ 63
  book_fits l e = omega (arith, (offsets_fit r l e (octave_fits l e)).whole)

  pub books_fit : (text : List ℕ) → get_book r ≡ given text → length text < 2 ^ 63
  unfolding get_book
  books_fit = fits_given _ book_in book_fits
