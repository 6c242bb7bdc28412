-- Nothing else is read: what the letter, the signs and the stars leave over of a text is nothing, so written again they are the text.
use Prim.Native.Nat.{ℕ, ◌+◌, ◌<◌}
use native.Mathlib.Omega.{arith}
use mathlib.Core.Path.{◌≡◌, refl, sym, ap, ◌∙◌, subst}
use mathlib.Core.Bool.{Bool, true, ◌&&◌}
use mathlib.Core.List.{List, [], ◌∷◌, ◌++◌, append_assoc, append-nil}
use lib.Dec.{eqb, ltb}
use lib.ListN.{length, drop, replicate, length-append, length-replicate}
use borrow.Author.Tests.{ltb-true, eqb-true}
use Rattle.answer.specs.Outcome.{Outcome, given, refused, ask, and_then}
use Rattle.answer.proofs.Asked.{given_same, asked_yes, asked_rest, and_left, and_right}
use Rattle.genchain.specs.Chains.{chain_of}
use Rattle.pergen.specs.declared.Spelling.{Spelling}
use Rattle.notes.specs.Names.{sharp_sign, flat_sign, signs_in, signs_text, letter_text, letter_at, spelling_text}
use Rattle.notes.specs.Reading.{past_letter, leading}
use Rattle.layout.specs.Layouts.{Layout, Accepted, layout_outcome, cycles_in, sharp_first}
use Rattle.layout.proofs.Finding.{Parts, accepted}
use Rattle.layout_reading.specs.Reading.{letter_index, signs_from, spelling_in_front, is_whole, read_spelling}
use Rattle.layout_reading.specs.Answers.{typed_in, spelling_in, get_spelling}
use Rattle.layout_reading.specs.Theorems.{text_of, Typable, NothingElseIsRead}
use Rattle.layout_reading.proofs.Texts.{front_split, leading_split}
use Rattle.layout_reading.proofs.FrontLetters.{index_begins, past_front}
use Rattle.layout_reading.proofs.WholeTexts.{Signed, signed}

-- ---- a text that begins with a letter

module _ (letters : List ℕ) (sf : Bool) (text : List ℕ) (lt : letter_index letters text < length letters) where
  abbrev c : ℕ
  c = letter_at letters (letter_index letters text)

  abbrev marks : List ℕ
  marks = past_letter text

  abbrev s : ℕ
  s = leading (sharp_sign sf) marks

  abbrev f : ℕ
  f = leading (flat_sign sf) marks

  abbrev u : List ℕ
  u = drop (s + f) marks

  abbrev n : ℕ
  n = leading 42 u

  signs_are : Signed sf marks s f (signs_from s f)
  signs_are = signed sf marks s f refl refl

  letter_front : letter_text c ++ marks ≡ text
  letter_front =
      let there = index_begins letters text lt in
      ap (λ (m : List ℕ). letter_text c ++ m) (past_front c text there) ∙ front_split (letter_text c) text there

  -- the letter, the signs, the stars, and what is left over
  whole : (letter_text c ++ signs_text sf (signs_from s f)) ++ (replicate n 42 ++ drop n u) ≡ text
  whole =
      append_assoc (letter_text c) (signs_text sf (signs_from s f)) (replicate n 42 ++ drop n u)
      ∙ ap (λ (l : List ℕ). letter_text c ++ (signs_text sf (signs_from s f) ++ l)) (leading_split 42 u)
      ∙ ap (λ (l : List ℕ). letter_text c ++ l) signs_are.front
      ∙ letter_front

  length_marks : length marks ≡ s + f + (n + length (drop n u))
  length_marks =
      omega (
        arith,
        ap length signs_are.front,
        length-append (signs_text sf (signs_from s f)) u,
        signs_are.bytes,
        ap length (leading_split 42 u),
        length-append (replicate n 42) (drop n u),
        length-replicate {A = ℕ} n 42,
      )

  module _ (all : signs_in (signs_from s f) + n ≡ length marks) where
    nothing_left : drop n u ≡ []
    nothing_left = by (drop n u) (omega (arith, all, signs_are.count, length_marks))
      where
        by : (l : List ℕ) → length l ≡ 0 → l ≡ []
        by [] e = refl
        by (x ∷ l) e = absurd (let z : ⊥ = omega arith in z)

    written_again : (letter_text c ++ signs_text sf (signs_from s f)) ++ replicate n 42 ≡ text
    written_again =
        ap (λ (l : List ℕ). (letter_text c ++ signs_text sf (signs_from s f)) ++ l)
        (sym (append-nil (replicate n 42)) ∙ ap (λ (l : List ℕ). replicate n 42 ++ l) (sym nothing_left))
        ∙ whole

-- ---- what 23 tells

pub record Told (letters : List ℕ) (sf : Bool) (text : List ℕ) (x : Spelling) : Type 0 where
  pub letter : x.index < length letters
  pub few : signs_in x.signs < 4294967296
  pub written : spelling_text letters sf x ++ replicate x.stars 42 ≡ text

module _ (letters : List ℕ) (sf : Bool) (text : List ℕ) where
  test_told : is_whole letters text (spelling_in_front letters sf text) ≡ true → Told letters sf text (spelling_in_front letters sf text)
  unfolding is_whole spelling_in_front spelling_text
  test_told e =
      let x = spelling_in_front letters sf text in
      let i = ltb x.index (length letters) in
      let a = eqb (signs_in x.signs + x.stars) (length (past_letter text)) in
      let m = ltb (signs_in x.signs) 4294967296 in
      let lt : letter_index letters text < length letters = ltb-true x.index (length letters) (and_left i (a && m) e) in
      let rest = and_right i (a && m) e in
      record {
        letter = lt;
        few = ltb-true (signs_in x.signs) 4294967296 (and_right a m rest);
        written = written_again letters sf text lt (eqb-true (signs_in x.signs + x.stars) (length (past_letter text)) (and_left a m rest));
      }

  pub read_told : (x : Spelling) → read_spelling letters sf text ≡ given x → Told letters sf text x
  unfolding read_spelling
  read_told x e =
      let y = spelling_in_front letters sf text in
      let b = is_whole letters text y in
      subst (Told letters sf text) (given_same (asked_rest 23 b (given y) e)) (test_told (asked_yes 23 b (given y) e))

-- ---- in a layout

pub record ToldIn (l : Layout) (text : List ℕ) (x : Spelling) : Type 0 where
  pub letter : x.index < l.letters
  pub few : signs_in x.signs < 4294967296
  pub written : text_of l x ≡ text

pub told_in_lem : (l : Layout) → Parts l → (text : List ℕ) (x : Spelling) → typed_in l text ≡ given x → ToldIn l text x
unfolding typed_in
told_in_lem l a text x e =
    let t = read_told (chain_of l.chain).letters (sharp_first l) text x e in
    record {
      letter = subst (λ (n : ℕ). x.index < n) (sym a.letters_are) t.letter;
      few = t.few;
      written = t.written;
    }

pub spelling_told : (l : Layout) → Parts l → (text : List ℕ) (x : Spelling) → spelling_in l text ≡ given x → Typable l x × (text_of l x ≡ text)
unfolding spelling_in
spelling_told l a text x e = by (typed_in l text) refl e
  where
    by : (o : Outcome Spelling) → typed_in l text ≡ o
        → and_then o (λ (y : Spelling). ask 21 (ltb y.stars (cycles_in l)) (given y)) ≡ given x → Typable l x × (text_of l x ≡ text)
    by (refused n) q f = absurd (let z : ◌≡◌ {A = ℕ} 0 1 = cc in omega arith)
    by (given y) q f =
        let b = ltb y.stars (cycles_in l) in
        let same : y ≡ x = given_same (asked_rest 21 b (given y) f) in
        let t = told_in_lem l a text y q in
        subst (λ (z : Spelling). Typable l z × (text_of l z ≡ text)) same (
          record {
            spelling = record { letter = t.letter; stars = ltb-true y.stars (cycles_in l) (asked_yes 21 b (given y) f) };
            signs = t.few;
          },
          t.written,
        )

pub nothing_else_is_read : NothingElseIsRead
unfolding get_spelling
nothing_else_is_read r text x e = by (layout_outcome r) refl e
  where
    by : (o : Outcome Layout) → layout_outcome r ≡ o → and_then o (λ (l : Layout). spelling_in l text) ≡ given x
        → (l : Layout) × Accepted r l × Typable l x × (text_of l x ≡ text)
    by (refused n) q f = absurd (let z : ◌≡◌ {A = ℕ} 0 1 = cc in omega arith)
    by (given l) q f = let t = spelling_told l (accepted r l q) text x f in (l, q, t.0, t.1)
