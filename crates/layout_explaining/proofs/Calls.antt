-- From the parts to what the calls answer: one law for each way in which a function ends.
use Prim.Native.Nat.{ℕ, ◌+◌, ◌≤◌, ◌<◌}
use native.Mathlib.Nat.{le_of_dvd}
use native.Mathlib.Omega.{arith}
use mathlib.Core.Bool.{Bool}
use mathlib.Core.Path.{◌≡◌, refl, sym, ap, ap₂, ◌∙◌, subst}
use mathlib.Core.List.{List, ◌++◌}
use lib.Dec.{ltb}
use lib.ListN.{length, length-append, replicate, length-replicate}
use borrow.Author.Tests.{ltb-true}
use Rattle.answer.specs.Outcome.{Outcome, given, refused, and_then}
use Rattle.answer.specs.Lent.{held_in, in_room, counted, Filled}
use Rattle.answer.proofs.Asked.{given_same, asked_yes, asked_rest}
use Rattle.answer.proofs.Questions.{ask_above, ask_below}
use Rattle.genchain.specs.Chains.{chain_of, row_of, letters_in}
use Rattle.genchain.specs.declared.rows.ChainRow.{ChainRow}
use Rattle.genchain.proofs.TableRows.{table_row, row_letters}
use Rattle.math.proofs.Gcd.{gcd_is}
use Rattle.notes.specs.Names.{signs_in, signs_text, letter_text, letter_at, spelling_text}
use Rattle.pergen.specs.Pergen.{cycles}
use Rattle.pergen.proofs.Inverse.{reduced_positive}
use Rattle.pergen.specs.declared.Signs.{Signs}
use Rattle.pergen.specs.declared.Signs.TheVariants.{Sharps, Flats}
use Rattle.pergen.specs.declared.Spelling.{Spelling}
use Rattle.layout.specs.Layouts.{Layout, layout_outcome, cycles_in, sharp_first}
use Rattle.layout.specs.Parts.{Laid}
use Rattle.layout.specs.declared.IsomorphicLayout.{IsomorphicLayout}
use Rattle.layout.proofs.Finding.{Parts, laid}
use Rattle.layout.proofs.Calls.{of_refused, of_given, filled_as}
use Rattle.layout_reading.specs.Answers.{typed_in}
use Rattle.layout_reading.specs.Theorems.{text_of}
use Rattle.layout_reading.proofs.NothingElse.{told_in_lem}
use Rattle.layout_explaining.specs.Explanations.{explanation_of}
use Rattle.layout_explaining.specs.Sentences.{sentences, start_text, explanation_text}
use Rattle.layout_explaining.specs.Answers.{compared_in, explained_in, get_explanation, told_in, get_explanation_text}
use Rattle.layout_explaining.specs.Parts.{CountingOf, Telling}
use Rattle.layout_explaining.specs.declared.measures.Counting.{Counting}
use Rattle.layout_explaining.specs.declared.Explanation.{Explanation}
use Rattle.layout_explaining.proofs.Wording.{letter_short}

-- ---- question 21 of both

module _ (l : Layout) (x y : Spelling) (n : ℕ) (is : n ≡ cycles_in l) where
  pub many_first : n ≤ x.stars → refused 21 ≡ compared_in l x y
  unfolding compared_in
  many_first h = sym (ask_above 21 x.stars (cycles_in l) _ (rw (sym is) h))

  module _ (few : x.stars < n) where
    pub many_second : n ≤ y.stars → refused 21 ≡ compared_in l x y
    unfolding compared_in
    many_second h =
        sym (ask_below 21 x.stars (cycles_in l) _ (rw (sym is) few) ∙ ask_above 21 y.stars (cycles_in l) _ (rw (sym is) h))

    pub compared_given : y.stars < n → (e : Explanation) → e ≡ explanation_of l x y → given e ≡ compared_in l x y
    unfolding compared_in
    compared_given h e q =
        ap given q
        ∙ sym (ask_below 21 x.stars (cycles_in l) _ (rw (sym is) few) ∙ ask_below 21 y.stars (cycles_in l) _ (rw (sym is) h))

-- ---- question 23 of both

abbrev Compare : Layout → Outcome Spelling → Outcome Spelling → Outcome Explanation
Compare l o p = and_then o (λ (x : Spelling). and_then p (λ (y : Spelling). compared_in l x y))

module _ (l : Layout) (first second : List ℕ) where
  pub first_refused : (n : ℕ) → refused n ≡ typed_in l first → refused n ≡ explained_in l first second
  unfolding explained_in
  first_refused n e = ap (λ (o : Outcome Spelling). Compare l o (typed_in l second)) e

  module _ (x : Spelling) (e : given x ≡ typed_in l first) where
    pub second_refused : (n : ℕ) → refused n ≡ typed_in l second → refused n ≡ explained_in l first second
    unfolding explained_in
    second_refused n f = ap (λ (p : Outcome Spelling). Compare l (given x) p) f ∙ ap (λ (o : Outcome Spelling). Compare l o (typed_in l second)) e

    pub both_typed : (y : Spelling) → given y ≡ typed_in l second → (o : Outcome Explanation) → o ≡ compared_in l x y → o ≡ explained_in l first second
    unfolding explained_in
    both_typed y f o q =
        q
        ∙ ap (λ (p : Outcome Spelling). Compare l (given x) p) f
        ∙ ap (λ (o : Outcome Spelling). Compare l o (typed_in l second)) e

-- ---- what an explanation tells of the two texts

pub record Read (l : Layout) (first second : List ℕ) (e : Explanation) : Type 0 where
  pub one : Spelling
  pub other : Spelling
  pub first_typed : typed_in l first ≡ given one
  pub second_typed : typed_in l second ≡ given other
  pub first_stars : one.stars < cycles_in l
  pub second_stars : other.stars < cycles_in l
  pub is : explanation_of l one other ≡ e

pub read_of : (l : Layout) (first second : List ℕ) (e : Explanation) → explained_in l first second ≡ given e → Read l first second e
unfolding explained_in compared_in
read_of l first second e q = by (typed_in l first) (typed_in l second) refl refl q
  where
    by : (o p : Outcome Spelling) → typed_in l first ≡ o → typed_in l second ≡ p → Compare l o p ≡ given e → Read l first second e
    by (refused n) p f g h = absurd (let z : ◌≡◌ {A = ℕ} 0 1 = cc in omega arith)
    by (given x) (refused n) f g h = absurd (let z : ◌≡◌ {A = ℕ} 0 1 = cc in omega arith)
    by (given x) (given y) f g h =
        let a = ltb x.stars (cycles_in l) in
        let b = ltb y.stars (cycles_in l) in
        let rest = asked_rest 21 a _ h in
        record {
          one = x;
          other = y;
          first_typed = f;
          second_typed = g;
          first_stars = ltb-true x.stars (cycles_in l) (asked_yes 21 a _ h);
          second_stars = ltb-true y.stars (cycles_in l) (asked_yes 21 b _ rest);
          is = given_same (asked_rest 21 b _ rest);
        }

-- ---- typed texts are short

signs_length : (sf : Bool) (s : Signs) → length (signs_text sf s) ≡ signs_in s
signs_length sf (Sharps k) = length-replicate {A = ℕ} k _
signs_length sf (Flats k) = length-replicate {A = ℕ} k _

length_typed : (l : Layout) (x : Spelling) → length (text_of l x) ≤ 2 + signs_in x.signs + x.stars
unfolding spelling_text
length_typed l x =
    let L = (chain_of l.chain).letters in
    let letter = letter_text (letter_at L x.index) in
    let signs = signs_text (sharp_first l) x.signs in
    omega (
      arith,
      length-append (letter ++ signs) (replicate x.stars 42),
      length-append letter signs,
      letter_short (letter_at L x.index),
      signs_length (sharp_first l) x.signs,
      length-replicate {A = ℕ} x.stars 42,
    )

cycles_small : (l : Layout) → 0 < l.octave → cycles_in l ≤ l.octave
unfolding cycles
cycles_small l h = le_of_dvd h (gcd_is l.octave l.generator).left

typed_short : (l : Layout) → Parts l → l.octave ≤ 65535 → (text : List ℕ) (x : Spelling) → typed_in l text ≡ given x → x.stars < cycles_in l
    → length text ≤ 4295032832
typed_short l a h text x e k =
    let t = told_in_lem l a text x e in
    omega (arith, ap length t.written, t.few, length_typed l x, cycles_small l a.positive)

pub telling : (l : Layout) → Laid l → l.octave ≤ 65535 → (first second : List ℕ) (e : Explanation)
    → given e ≡ explained_in l first second → Telling first second e
unfolding explanation_of
telling l h small first second e q =
    let a = laid l h in
    let r = read_of l first second e (sym q) in
    record {
      first_short = typed_short l a small first r.one r.first_typed r.first_stars;
      second_short = typed_short l a small second r.other r.second_typed r.second_stars;
      round = subst (λ (x : Explanation). 0 < x.reduced_period) r.is (reduced_positive l.octave l.generator a.positive);
    }

-- ---- the text

pub start_letter : (row : ChainRow) (l : Layout) → row ≡ row_of (chain_of l.chain) → l.chain < 6
    → (letter : ℕ) → letter ≡ letter_at (letters_in row) l.start → letter_text letter ≡ start_text l
start_letter row l is below letter e =
    ap letter_text (e ∙ ap (λ (L : List ℕ). letter_at L l.start) (row_letters row (table_row l.chain row below is)))

abbrev Tell : Layout → (first second : List ℕ) → Outcome Explanation → Outcome (List ℕ)
Tell l first second o = and_then o (λ (e : Explanation). given (explanation_text l first second e))

module _ (l : Layout) (first second : List ℕ) where
  pub told_refused : (n : ℕ) → refused n ≡ explained_in l first second → refused n ≡ told_in l first second
  unfolding told_in
  told_refused n e = ap (Tell l first second) e

  module _ (e : Explanation) (q : given e ≡ explained_in l first second) (c : Counting) (is : CountingOf l c) where
    abbrev told : List ℕ
    told = sentences (letter_text c.letter) c.generator c.octave first second e

    told_given : given told ≡ told_in l first second
    unfolding told_in explanation_text
    told_given =
        ap (λ (L : List ℕ). given (sentences L c.generator c.octave first second e)) is.letter_is
        ∙ ap₂ (λ (G P : ℕ). given (sentences (start_text l) G P first second e)) is.generator_is is.octave_is
        ∙ ap (Tell l first second) q

    pub told_length : (n : ℕ) → n ≡ length told → given n ≡ counted (told_in l first second)
    told_length n h = ap given h ∙ ap counted told_given

    pub told_held : {a : Outcome ℕ} {xs ys : List ℕ} → Filled (held_in (length xs) told) a xs ys
        → Filled (in_room (length xs) (told_in l first second)) a xs ys
    told_held {xs = xs} f = filled_as (ap (in_room (length xs)) told_given) f

-- ---- the calls

module _ (r : IsomorphicLayout) (first second : List ℕ) where
  module _ (n : ℕ) (e : refused n ≡ layout_outcome r) where
    pub explain_refused : refused n ≡ get_explanation r first second
    unfolding get_explanation
    explain_refused = of_refused r _ n e

    pub text_refused : refused n ≡ get_explanation_text r first second
    unfolding get_explanation_text
    text_refused = of_refused r _ n e

  module _ (l : Layout) (e : given l ≡ layout_outcome r) where
    pub explain_given : (o : Outcome Explanation) → o ≡ explained_in l first second → o ≡ get_explanation r first second
    unfolding get_explanation
    explain_given o q = q ∙ of_given r _ l e

    text_given : told_in l first second ≡ get_explanation_text r first second
    unfolding get_explanation_text
    text_given = of_given r _ l e

    pub text_answered : (o : Outcome ℕ) → o ≡ counted (told_in l first second) → o ≡ counted (get_explanation_text r first second)
    text_answered o q = q ∙ ap counted text_given

    pub text_held : {a : Outcome ℕ} {xs ys : List ℕ} → Filled (in_room (length xs) (told_in l first second)) a xs ys
        → Filled (in_room (length xs) (get_explanation_text r first second)) a xs ys
    text_held {xs = xs} f = filled_as (ap (in_room (length xs)) text_given) f
