-- From what was found in a text to what the calls answer: one law for each way in which a part ends.
use Prim.Native.Nat.{ℕ, ◌+◌, ◌-◌, ◌<◌, ◌≤◌}
use native.Mathlib.Omega.{arith}
use mathlib.Core.Path.{◌≡◌, refl, sym, ap, ap₂, ◌∙◌}
use mathlib.Core.Bool.{Bool, true, false, ◌&&◌}
use mathlib.Core.List.{List, [], ◌∷◌}
use lib.Dec.{eqb, ltb, leb}
use lib.ListN.{length, get_or, take, drop, length-drop}
use lib.Seq.{take_all}
use borrow.Author.Tests.{lt-ltb, le-ltb, eq-eqb, ne_eqb}
use Rattle.answer.specs.Choice.{pick}
use Rattle.answer.specs.Outcome.{Outcome, given, refused, ask, and_then}
use Rattle.answer.proofs.Questions.{ask_above, ask_below}
use Rattle.genchain.specs.Chains.{chain_of, row_of, TableRow, letters_in}
use Rattle.genchain.specs.declared.rows.ChainRow.{ChainRow}
use Rattle.genchain.proofs.TableRows.{table_row, row_letters}
use Rattle.math.specs.Gcd.{gcd_or_one}
use Rattle.mos.specs.Patterns.{primary, secondary}
use Rattle.pergen.specs.declared.Spelling.{Spelling}
use Rattle.pergen.proofs.Calls.{cycles_found}
use Rattle.notes.specs.Reading.{leading}
use Rattle.layout.specs.Layouts.{Layout, layout_outcome, cycles_in}
use Rattle.layout.specs.Names.{key_of}
use Rattle.layout.specs.declared.IsomorphicLayout.{IsomorphicLayout}
use Rattle.layout.proofs.Calls.{of_refused, of_given}
use Rattle.layout_reading.specs.Reading.{in_front, read_spelling}
use Rattle.layout_reading.specs.Answers.{typed_in, spelling_in, get_spelling, starless_in, key_of_both, both_in, slashed_in, enclosed_in, named_in, get_named_key}
use Rattle.layout_reading.specs.Parts.{Before, RunAt}
use Rattle.layout_reading.proofs.FrontLetters.{one_byte}

-- ---- in a layout

pub cycles_are : (l : Layout) → 0 < l.octave → (n : ℕ) → n ≡ gcd_or_one l.octave l.generator → n ≡ cycles_in l
cycles_are l h n e = cycles_found l.octave l.generator n (λ z. let w : ⊥ = omega arith in w) e

pub row_asked : (row : ChainRow) (l : Layout) → row ≡ row_of (chain_of l.chain) → l.chain < 6 → TableRow row
row_asked row l is below = table_row l.chain row below is

pub typed_in_lem : (row : ChainRow) (l : Layout) → row ≡ row_of (chain_of l.chain) → l.chain < 6
    → (sf : Bool) → sf ≡ leb (secondary l.pattern) (primary l.pattern) → (text : List ℕ) (o : Outcome Spelling)
    → o ≡ read_spelling (letters_in row) sf text → o ≡ typed_in l text
unfolding typed_in row_asked
typed_in_lem row l is below sf e text o q =
    q ∙ ap₂ (λ (L : List ℕ) (b : Bool). read_spelling L b text) (row_letters row (row_asked row l is below)) e

-- ---- one spelling

abbrev ReadOn : Layout → Outcome Spelling → Outcome Spelling
ReadOn l o = and_then o (λ (x : Spelling). ask 21 (ltb x.stars (cycles_in l)) (given x))

abbrev Starless : Outcome Spelling → Outcome Spelling
Starless o = and_then o (λ (x : Spelling). ask 23 (eqb x.stars 0) (given x))

abbrev Both : Layout → ℕ → Outcome Spelling → Outcome Spelling → Outcome ℕ
Both l stars o p = and_then o (λ (x : Spelling). and_then p (λ (y : Spelling). ask 21 (ltb stars (cycles_in l)) (key_of_both l stars x y)))

module _ (l : Layout) (text : List ℕ) where
  pub read_refused : (n : ℕ) → refused n ≡ typed_in l text → refused n ≡ spelling_in l text
  unfolding spelling_in
  read_refused n e = ap (ReadOn l) e

  pub starless_refused : (n : ℕ) → refused n ≡ typed_in l text → refused n ≡ starless_in l text
  unfolding starless_in
  starless_refused n e = ap Starless e

  module _ (x : Spelling) (e : given x ≡ typed_in l text) where
    module _ (n : ℕ) (is : n ≡ cycles_in l) where
      pub read_many : n ≤ x.stars → refused 21 ≡ spelling_in l text
      unfolding spelling_in
      read_many h = sym (ask_above 21 x.stars (cycles_in l) (given x) (rw (sym is) h)) ∙ ap (ReadOn l) e

      pub read_given : x.stars < n → given x ≡ spelling_in l text
      unfolding spelling_in
      read_given h = sym (ask_below 21 x.stars (cycles_in l) (given x) (rw (sym is) h)) ∙ ap (ReadOn l) e

    pub starless_starred : (x.stars ≡ 0 → ⊥) → refused 23 ≡ starless_in l text
    unfolding starless_in
    starless_starred h =
        sym (ap (λ (b : Bool). ask 23 b (given x)) (ne_eqb x.stars 0 h)) ∙ ap Starless e

    pub starless_given : x.stars ≡ 0 → given x ≡ starless_in l text
    unfolding starless_in
    starless_given h = sym (ap (λ (b : Bool). ask 23 b (given x)) (eq-eqb x.stars 0 h)) ∙ ap Starless e

-- ---- two

module _ (l : Layout) (stars : ℕ) (first second : List ℕ) where
  pub first_refused : (n : ℕ) → refused n ≡ starless_in l first → refused n ≡ both_in l stars first second
  unfolding both_in
  first_refused n e = ap (λ (o : Outcome Spelling). Both l stars o (starless_in l second)) e

  module _ (x : Spelling) (e : given x ≡ starless_in l first) where
    pub second_refused : (n : ℕ) → refused n ≡ starless_in l second → refused n ≡ both_in l stars first second
    unfolding both_in
    second_refused n f = ap₂ (Both l stars) e f

    module _ (y : Spelling) (f : given y ≡ starless_in l second) (n : ℕ) (is : n ≡ cycles_in l) where
      asked : ask 21 (ltb stars (cycles_in l)) (key_of_both l stars x y) ≡ both_in l stars first second
      unfolding both_in
      asked = ap₂ (Both l stars) e f

      pub both_many : n ≤ stars → refused 21 ≡ both_in l stars first second
      both_many h = sym (ask_above 21 stars (cycles_in l) (key_of_both l stars x y) (rw (sym is) h)) ∙ asked

      pub both_given : stars < n → (o : Outcome ℕ) → o ≡ key_of_both l stars x y → o ≡ both_in l stars first second
      both_given h o q = q ∙ sym (ask_below 21 stars (cycles_in l) (key_of_both l stars x y) (rw (sym is) h)) ∙ asked

module _ (l : Layout) (stars : ℕ) (text : List ℕ) (p : ℕ) (at : Before 47 text p) where
  abbrev Slashed : ℕ → Outcome ℕ
  Slashed k = ask 23 (ltb k (length text)) (both_in l stars (take k text) (drop (k + 1) text))

  pub no_slash : length text ≤ p → refused 23 ≡ slashed_in l stars text
  unfolding slashed_in
  no_slash h = sym (ask_above 23 p (length text) _ h) ∙ ap Slashed at.is

  pub slash_parts : p < length text → (o : Outcome ℕ) → o ≡ both_in l stars (take p text) (drop (p + 1) text) → o ≡ slashed_in l stars text
  unfolding slashed_in
  slash_parts h o q = q ∙ sym (ask_below 23 p (length text) _ h) ∙ ap Slashed at.is

  -- a part of a slice is as long as it says
  to_the_end : take (length text - (p + 1)) (drop (p + 1) text) ≡ drop (p + 1) text
  to_the_end = take_all (length text - (p + 1)) (drop (p + 1) text) (omega (arith, length-drop (p + 1) text))

  pub slash : p < length text → (o : Outcome ℕ) → o ≡ both_in l stars (take p text) (take (length text - (p + 1)) (drop (p + 1) text))
      → o ≡ slashed_in l stars text
  slash h o q = slash_parts h o (q ∙ ap (both_in l stars (take p text)) to_the_end)

-- ---- in parentheses

module _ (l : Layout) (text : List ℕ) (p : ℕ) (at : Before 41 text p) where
  abbrev Enclosed : ℕ → Outcome ℕ
  Enclosed k =
      ask 23 (in_front (40 ∷ []) text && (ltb k (length text) && eqb (leading 42 (drop (k + 1) text)) (length (drop (k + 1) text))))
      (slashed_in l (length (drop (k + 1) text)) (take (k - 1) (drop 1 text)))

  enclosed_at : Enclosed p ≡ enclosed_in l text
  unfolding enclosed_in
  enclosed_at = ap Enclosed at.is

  pub unclosed : length text ≤ p → refused 23 ≡ enclosed_in l text
  unclosed h = sym (simp (le-ltb p (length text) h) (by (in_front (40 ∷ []) text))) ∙ enclosed_at
    where
      by : (a : Bool) → ask 23 (a && false) (slashed_in l (length (drop (p + 1) text)) (take (p - 1) (drop 1 text))) ≡ refused 23
      by true = refl
      by false = refl

  module _ (inside : p < length text) where
    pub unopened : (get_or text 0 0 ≡ 40 → ⊥) → refused 23 ≡ enclosed_in l text
    unopened h = sym (simp (one_byte 40 text (omega arith) ∙ ne_eqb (get_or text 0 0) 40 h)) ∙ enclosed_at

    module _ (n : ℕ) (r : RunAt 42 (p + 1) text n) where
      pub not_all_stars : p + 1 + n < length text → refused 23 ≡ enclosed_in l text
      not_all_stars h =
          sym (simp (ne_eqb (leading 42 (drop (p + 1) text)) (length (drop (p + 1) text)) (λ e. omega (arith, r.is, length-drop (p + 1) text)))
          (by (in_front (40 ∷ []) text) (ltb p (length text))))
          ∙ enclosed_at
        where
          by : (a b : Bool) → ask 23 (a && (b && false)) (slashed_in l (length (drop (p + 1) text)) (take (p - 1) (drop 1 text))) ≡ refused 23
          by true true = refl
          by true false = refl
          by false b = refl

      pub opened : get_or text 0 0 ≡ 40 → length text ≤ p + 1 + n → (o : Outcome ℕ) → o ≡ slashed_in l n (take (p - 1) (drop 1 text))
          → o ≡ enclosed_in l text
      opened e h o q =
          let stars : n ≡ length (drop (p + 1) text) = omega (arith, length-drop (p + 1) text, r.inside) in
          q
          ∙ ap (λ (k : ℕ). slashed_in l k (take (p - 1) (drop 1 text))) stars
          ∙ sym (simp (one_byte 40 text (omega arith) ∙ eq-eqb (get_or text 0 0) 40 e, lt-ltb p (length text) inside, eq-eqb (leading 42 (drop (p + 1) text)) (length (drop (p + 1) text)) (sym r.is ∙ stars)))
          ∙ enclosed_at

-- ---- a name

module _ (l : Layout) (text : List ℕ) (p : ℕ) (at : Before 47 text p) where
  abbrev Named : ℕ → Outcome ℕ
  Named k =
      pick (ltb k (length text)) (pick (ltb 1 (cycles_in l)) (enclosed_in l text) (slashed_in l 0 text))
      (and_then (spelling_in l text) (λ (x : Spelling). given (key_of l x)))

  module _ (h : p < length text) (n : ℕ) (is : n ≡ cycles_in l) (o : Outcome ℕ) where
    pub find_enclosed : 1 < n → o ≡ enclosed_in l text → o ≡ named_in l text
    unfolding named_in
    find_enclosed k q = q ∙ sym (simp (lt-ltb p (length text) h, lt-ltb 1 (cycles_in l) (rw (sym is) k))) ∙ ap Named at.is

    pub find_slashed : n ≤ 1 → o ≡ slashed_in l 0 text → o ≡ named_in l text
    unfolding named_in
    find_slashed k q = q ∙ sym (simp (lt-ltb p (length text) h, le-ltb 1 (cycles_in l) (rw (sym is) k))) ∙ ap Named at.is

  module _ (h : length text ≤ p) where
    single : and_then (spelling_in l text) (λ (x : Spelling). given (key_of l x)) ≡ named_in l text
    unfolding named_in
    single = sym (simp (le-ltb p (length text) h)) ∙ ap Named at.is

    pub find_refused : (n : ℕ) → refused n ≡ spelling_in l text → refused n ≡ named_in l text
    find_refused n e = ap (λ (o : Outcome Spelling). and_then o (λ (x : Spelling). given (key_of l x))) e ∙ single

    pub find_single : (x : Spelling) → given x ≡ spelling_in l text → (k : ℕ) → k ≡ key_of l x → given k ≡ named_in l text
    find_single x e k q = ap given q ∙ ap (λ (o : Outcome Spelling). and_then o (λ (x : Spelling). given (key_of l x))) e ∙ single

-- ---- the calls

module _ (r : IsomorphicLayout) (text : List ℕ) where
  module _ (n : ℕ) (e : refused n ≡ layout_outcome r) where
    pub reading_refused : refused n ≡ get_spelling r text
    unfolding get_spelling
    reading_refused = of_refused r _ n e

    pub finding_refused : refused n ≡ get_named_key r text
    unfolding get_named_key
    finding_refused = of_refused r _ n e

  module _ (l : Layout) (e : given l ≡ layout_outcome r) where
    pub reading_given : (o : Outcome Spelling) → o ≡ spelling_in l text → o ≡ get_spelling r text
    unfolding get_spelling
    reading_given o q = q ∙ of_given r _ l e

    pub finding_given : (o : Outcome ℕ) → o ≡ named_in l text → o ≡ get_named_key r text
    unfolding get_named_key
    finding_given o q = q ∙ of_given r _ l e
