-- Reading undoes writing: in the text of a spelling the letter, the signs and the stars are found again, and no byte of it is a slash or a
-- parenthesis.
use Prim.Native.Nat.{ℕ, suc, ◌+◌, ◌/◌, ◌%◌, ◌<◌}
use native.Mathlib.Nat.{add-zero, zero-add}
use native.Mathlib.Omega.{arith}
use mathlib.Core.Path.{◌≡◌, refl, sym, ap, ◌∙◌, subst}
use mathlib.Core.Bool.{Bool, true, false}
use mathlib.Core.Logic.{inl, inr}
use mathlib.Core.List.{List, [], ◌∷◌, ◌++◌, append_assoc, append-nil}
use lib.Dec.{eqb}
use lib.ListN.{length, drop, replicate, length-append, length-replicate}
use lib.Seq.{drop_at}
use borrow.Author.Tests.{lt-ltb, eq-eqb, ne_eqb, eqb-true}
use Rattle.answer.specs.Choice.{pick}
use Rattle.answer.specs.Outcome.{given, ask}
use Rattle.genchain.specs.Chains.{chain_of}
use Rattle.genchain.specs.Theorems.{IsLetter}
use Rattle.pergen.specs.declared.Signs.{Signs}
use Rattle.pergen.specs.declared.Signs.TheVariants.{Sharps, Flats}
use Rattle.pergen.specs.declared.Spelling.{Spelling}
use Rattle.notes.specs.Names.{sharp_sign, flat_sign, signs_in, signs_text, letter_text, letter_at, spelling_text}
use Rattle.notes.specs.Reading.{past_letter, leading, count as occurrences, sharps_in, flats_in}
use Rattle.notes.specs.Theorems.{SameSpelling}
use Rattle.notes.proofs.Utf8.{letter_one, letter_two}
use Rattle.notes.proofs.RowLetters.{chain_letter}
use Rattle.notes.proofs.Counting.{count_append, count_run, leading_run}
use Rattle.notes.proofs.Reader.{stops_at_stars, sharps_read, flats_read}
use Rattle.notes.proofs.OneSpelling.{same_spelling}
use Rattle.layout.specs.Layouts.{Layout, cycles_in, sharp_first}
use Rattle.layout.specs.Names.{IsSpelling, key_of}
use Rattle.layout.proofs.Finding.{Parts, accepted}
use Rattle.layout.proofs.Naming.{same_sound}
use Rattle.layout_reading.specs.Reading.{bytes_before, letter_index, signs_from, spelling_in_front, is_whole, read_spelling}
use Rattle.layout_reading.specs.Answers.{typed_in, spelling_in, named_in}
use Rattle.layout_reading.specs.Parts.{Before}
use Rattle.layout_reading.specs.Theorems.{text_of, ReadingUndoesWriting}
use Rattle.layout_reading.proofs.FrontLetters.{index_found, past_it}
use Rattle.layout_reading.proofs.Calls.{read_given, find_single, reading_given, finding_given}

-- ---- a byte that a text does not hold

pub before_behind : (b : ℕ) (s rest : List ℕ) → occurrences b s ≡ 0 → bytes_before b (s ++ rest) ≡ length s + bytes_before b rest
unfolding bytes_before occurrences
before_behind b [] rest e = sym (zero-add (bytes_before b rest))
before_behind b (x ∷ s) rest e = by (eqb x b) refl e (before_behind b s rest)
  where
    by : (k : Bool) → eqb x b ≡ k → pick k 1 0 + occurrences b s ≡ 0 → (occurrences b s ≡ 0 → bytes_before b (s ++ rest) ≡ length s + bytes_before b rest)
        → pick k 0 (suc (bytes_before b (s ++ rest))) ≡ suc (length s) + bytes_before b rest
    by true q n ih = absurd (let z : ⊥ = omega arith in z)
    by false q n ih = omega (arith, ih (omega arith))

pub nowhere : (b : ℕ) (s : List ℕ) → occurrences b s ≡ 0 → Before b s (length s)
unfolding bytes_before
nowhere b s e =
    record {
      is = sym (ap (bytes_before b) (sym (append-nil s)) ∙ before_behind b s [] e ∙ add-zero (length s));
      inside = omega arith;
    }

-- bytes below A are in no letter
pub not_in_letter : (b c : ℕ) → b < 65 → IsLetter c → occurrences b (letter_text c) ≡ 0
unfolding occurrences
not_in_letter b c k (inl h) = rw (letter_one c (omega arith)) (simp (ne_eqb c b (λ e. omega arith)))
not_in_letter b c k (inr h) =
    rw (letter_two c h.0) (simp (ne_eqb (192 + c / 64) b (λ e. omega arith), ne_eqb (128 + c % 64) b (λ e. omega arith)))

not_in_run : (b n x : ℕ) → eqb x b ≡ false → occurrences b (replicate n x) ≡ 0
not_in_run b n x e = count_run b n x ∙ ap (λ (k : Bool). pick k n 0) e

-- no sign, no star, and below A
pub record Apart (b : ℕ) : Type 0 where
  pub low : b < 65
  pub sharp : (sf : Bool) → eqb (sharp_sign sf) b ≡ false
  pub flat : (sf : Bool) → eqb (flat_sign sf) b ≡ false
  pub star : eqb 42 b ≡ false

apart : (b : ℕ) → b < 65 → eqb 35 b ≡ false → eqb 45 b ≡ false → eqb 98 b ≡ false → eqb 43 b ≡ false → eqb 42 b ≡ false → Apart b
apart b low hash minus flat plus star = record { low = low; sharp = sharps; flat = flats; star = star }
  where
    sharps : (sf : Bool) → eqb (sharp_sign sf) b ≡ false
    sharps true = hash
    sharps false = minus

    flats : (sf : Bool) → eqb (flat_sign sf) b ≡ false
    flats true = flat
    flats false = plus

pub slash_apart : Apart 47
slash_apart = apart 47 (omega arith) refl refl refl refl refl

pub close_apart : Apart 41
close_apart = apart 41 (omega arith) refl refl refl refl refl

not_in_signs : (b : ℕ) → Apart b → (sf : Bool) (s : Signs) → occurrences b (signs_text sf s) ≡ 0
not_in_signs b a sf (Sharps k) = not_in_run b k (sharp_sign sf) (a.sharp sf)
not_in_signs b a sf (Flats k) = not_in_run b k (flat_sign sf) (a.flat sf)

-- ---- signs, found again: no flats are read as no sharps

abbrev pub again : Signs → Signs
again s = signs_from (sharps_in s) (flats_in s)

pub record Again (sf : Bool) (s t : Signs) : Type 0 where
  pub text : signs_text sf t ≡ signs_text sf s
  pub count : signs_in t ≡ signs_in s
  pub sharps : sharps_in t ≡ sharps_in s
  pub flats : flats_in t ≡ flats_in s

pub again_is : (sf : Bool) (s : Signs) → Again sf s (again s)
again_is sf (Sharps k) = record { text = refl; count = refl; sharps = refl; flats = refl }
again_is sf (Flats k) = by (eqb k 0) refl
  where
    by : (b : Bool) → eqb k 0 ≡ b → Again sf (Flats k) (pick b (Sharps 0) (Flats k))
    by true q =
        let z : k ≡ 0 = eqb-true k 0 q in
        record { text = rw z refl; count = sym z; sharps = refl; flats = sym z }
    by false q = record { text = refl; count = refl; sharps = refl; flats = refl }

pub length_signs : (sf : Bool) (s : Signs) → length (signs_text sf s) ≡ sharps_in s + flats_in s
length_signs sf (Sharps k) = length-replicate {A = ℕ} k (sharp_sign sf) ∙ sym (add-zero k)
length_signs sf (Flats k) = length-replicate {A = ℕ} k (flat_sign sf) ∙ sym (zero-add k)

signs_count : (s : Signs) → signs_in s ≡ sharps_in s + flats_in s
signs_count (Sharps k) = sym (add-zero k)
signs_count (Flats k) = sym (zero-add k)

pub stars_read : (n : ℕ) → leading 42 (replicate n 42) ≡ n
unfolding leading
stars_read n = ap (leading 42) (sym (append-nil (replicate n 42))) ∙ leading_run 42 n 42 [] refl

-- ---- the text of a spelling

abbrev pub reread : Spelling → Spelling
reread x = record { index = x.index; signs = again x.signs; stars = x.stars }

pub same_reread : (x : Spelling) → SameSpelling (reread x) x
same_reread x =
    let a = again_is true x.signs in
    same_spelling (reread x) x refl a.sharps a.flats refl

module _ (code : ℕ) (h : code < 6) (sf : Bool) (x : Spelling) (below : x.index < length (chain_of code).letters) where
  abbrev L : List ℕ
  L = (chain_of code).letters

  abbrev text : List ℕ
  text = spelling_text L sf x ++ replicate x.stars 42

  abbrev marks : List ℕ
  marks = signs_text sf x.signs ++ replicate x.stars 42

  pub not_in_spelling : (b : ℕ) → Apart b → occurrences b (spelling_text L sf x) ≡ 0
  unfolding spelling_text
  not_in_spelling b a =
      count_append b (letter_text (letter_at L x.index)) (signs_text sf x.signs)
      ∙ omega (arith, not_in_letter b (letter_at L x.index) a.low (chain_letter code h x.index below), not_in_signs b a sf x.signs)

  pub not_in_text : (b : ℕ) → Apart b → occurrences b text ≡ 0
  not_in_text b a =
      count_append b (spelling_text L sf x) (replicate x.stars 42)
      ∙ omega (arith, not_in_spelling b a, not_in_run b x.stars 42 a.star)

  text_is : text ≡ letter_text (letter_at L x.index) ++ marks
  unfolding spelling_text
  text_is = append_assoc (letter_text (letter_at L x.index)) (signs_text sf x.signs) (replicate x.stars 42)

  index_is : letter_index L text ≡ x.index
  index_is = ap (letter_index L) text_is ∙ index_found code h x.index below marks

  behind : past_letter text ≡ marks
  behind = ap past_letter text_is ∙ past_it (letter_at L x.index) marks

  sharps_are : leading (sharp_sign sf) marks ≡ sharps_in x.signs
  sharps_are = sharps_read sf x.signs (replicate x.stars 42) (stops_at_stars sf x.stars)

  flats_are : leading (flat_sign sf) marks ≡ flats_in x.signs
  flats_are = flats_read sf x.signs (replicate x.stars 42) (stops_at_stars sf x.stars)

  stars_are : leading 42 (drop (sharps_in x.signs + flats_in x.signs) marks) ≡ x.stars
  stars_are =
      ap (leading 42) (drop_at (signs_text sf x.signs) (replicate x.stars 42) _ (length_signs sf x.signs)) ∙ stars_read x.stars

  found_again : spelling_in_front L sf text ≡ reread x
  unfolding spelling_in_front
  found_again = rw (behind, index_is, sharps_are, flats_are, stars_are) refl

  length_behind : signs_in (again x.signs) + x.stars ≡ length (past_letter text)
  length_behind =
      omega (
        arith,
        (again_is sf x.signs).count,
        signs_count x.signs,
        ap length behind,
        length-append (signs_text sf x.signs) (replicate x.stars 42),
        length_signs sf x.signs,
        length-replicate {A = ℕ} x.stars 42,
      )

  module _ (few : signs_in x.signs < 4294967296) where
    is_whole_lem : is_whole L text (reread x) ≡ true
    unfolding is_whole
    is_whole_lem =
        simp (
          lt-ltb x.index (length L) below,
          eq-eqb (signs_in (again x.signs) + x.stars) (length (past_letter text)) length_behind,
          lt-ltb (signs_in (again x.signs)) 4294967296 (omega (arith, (again_is sf x.signs).count, few)),
        )

    pub read_again : given (reread x) ≡ read_spelling L sf text
    unfolding read_spelling
    read_again = sym (ap (λ (y : Spelling). ask 23 (is_whole L text y) (given y)) found_again ∙ ap (λ (b : Bool). ask 23 b (given (reread x))) is_whole_lem)

-- ---- in a layout

module _ (l : Layout) (a : Parts l) (x : Spelling) (s : IsSpelling l x) (few : signs_in x.signs < 4294967296) where
  lettered : x.index < length (chain_of l.chain).letters
  lettered = subst (λ (n : ℕ). x.index < n) a.letters_are s.letter

  read_in_lem : given (reread x) ≡ spelling_in l (text_of l x)
  unfolding typed_in
  read_in_lem = read_given l (text_of l x) (reread x) (read_again l.chain a.chain (sharp_first l) x lettered few) (cycles_in l) refl s.stars

  pub key_in : given (key_of l x) ≡ named_in l (text_of l x)
  key_in =
      find_single l (text_of l x) (length (text_of l x))
      (nowhere 47 (text_of l x) (not_in_text l.chain a.chain (sharp_first l) x lettered 47 slash_apart))
      (omega arith) (reread x) read_in_lem (key_of l x) (sym (same_sound l (reread x) x (same_reread x)))

pub reading_undoes_writing : ReadingUndoesWriting
reading_undoes_writing r l e x t =
    let a = accepted r l e in
    record {
      read = reread x;
      answered = sym (reading_given r (text_of l x) l (sym e) (given (reread x)) (read_in_lem l a x t.spelling t.signs));
      same = same_reread x;
      key = sym (finding_given r (text_of l x) l (sym e) (given (key_of l x)) (key_in l a x t.spelling t.signs));
    }
