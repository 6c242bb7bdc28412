-- Reading undoes writing: the reader finds the first printed spelling in a name's bytes, since no byte of a letter is a sign,
-- a slash, a parenthesis or a star, and the byte behind the signs is no sign.
use Rattle.std.specs.Prelude.{None, Option, Some}
use Prim.Native.Nat.{ℕ, zero, suc, ◌+◌, ◌/◌, ◌%◌, ◌<◌}
use native.Mathlib.Nat.{zero-add}
use native.Mathlib.Omega.{arith}
use mathlib.Core.Path.{◌≡◌, refl, sym, ap, ◌∙◌}
use mathlib.Core.Bool.{Bool, true, false}
use mathlib.Core.Logic.{inl, inr}
use mathlib.Core.List.{List, [], ◌∷◌, ◌++◌, append_assoc}
use lib.ListN.{replicate, get_or}
use borrow.Author.Tests.{ne_eqb, lt-ltb, le-ltb}
use Rattle.genchain.specs.Chains.{chain_of}
use Rattle.genchain.specs.Theorems.{IsLetter}
use Rattle.pergen.specs.Spelling.{stars_of, sharp_spelling, flat_spelling}
use Rattle.pergen.specs.declared.Accidentals.{Accidentals}
use Rattle.pergen.specs.declared.Signs.{Signs}
use Rattle.pergen.specs.declared.Signs.TheVariants.{Sharps, Flats}
use Rattle.pergen.specs.declared.Spelling.{Spelling}
use Rattle.notes.specs.Names.{sharp_sign, flat_sign, signs_text, letter_text, letter_at, spelling_text, first_printed, in_parentheses, spellings_text, name_text}
use Rattle.notes.specs.Reading.{Reading, past_parenthesis, read_letter, past_letter, leading, count, read_name, sharps_in, flats_in, reading_of}
use Rattle.notes.specs.Answers.{chain_name}
use Rattle.notes.specs.Theorems.{ReadingGivesTheFirstSpelling}
use Rattle.notes.proofs.Utf8.{letter_one, letter_two}
use Rattle.notes.proofs.RowLetters.{chain_letter}
use Rattle.notes.proofs.Printing.{Of, Printed, one, two, printed_view, stars_of_lem}
use Rattle.notes.proofs.Counting.{count_append, count_run, leading_run}

-- ---- a letter

read_one : (c : ℕ) (rest : List ℕ) → c < 128 → read_letter (c ∷ rest) ≡ c
unfolding read_letter
read_one c [] h = refl
read_one c (b ∷ rest) h = simp (lt-ltb c 128 h)

module _ (c : ℕ) (rest : List ℕ) where
  pub read_letter_lem : IsLetter c → read_letter (letter_text c ++ rest) ≡ c
  unfolding read_letter
  read_letter_lem (inl h) = rw (letter_one c (omega arith)) (read_one c rest (omega arith))
  read_letter_lem (inr h) = rw (letter_two c h.0) (simp (le-ltb (192 + c / 64) 128 (omega arith)) (omega arith))

  pub past_letter_lem : IsLetter c → past_letter (letter_text c ++ rest) ≡ rest
  unfolding past_letter
  past_letter_lem (inl h) = rw (letter_one c (omega arith)) (simp (lt-ltb c 128 (omega arith)))
  past_letter_lem (inr h) = rw (letter_two c h.0) (simp (le-ltb (192 + c / 64) 128 (omega arith)))

  pub no_parenthesis : IsLetter c → past_parenthesis (letter_text c ++ rest) ≡ letter_text c ++ rest
  unfolding past_parenthesis
  no_parenthesis (inl h) = rw (letter_one c (omega arith)) (simp (ne_eqb c 40 (λ e. omega arith)))
  no_parenthesis (inr h) = rw (letter_two c h.0) (simp (ne_eqb (192 + c / 64) 40 (λ e. omega arith)))

no_star_in_letter : (c : ℕ) → IsLetter c → count 42 (letter_text c) ≡ 0
unfolding count
no_star_in_letter c (inl h) = rw (letter_one c (omega arith)) (simp (ne_eqb c 42 (λ e. omega arith)))
no_star_in_letter c (inr h) =
    rw (letter_two c h.0) (simp (ne_eqb (192 + c / 64) 42 (λ e. omega arith), ne_eqb (128 + c % 64) 42 (λ e. omega arith)))

-- ---- signs

no_star_in_signs : (sf : Bool) (s : Signs) → count 42 (signs_text sf s) ≡ 0
no_star_in_signs true (Sharps k) = count_run 42 k 35
no_star_in_signs true (Flats k) = count_run 42 k 98
no_star_in_signs false (Sharps k) = count_run 42 k 45
no_star_in_signs false (Flats k) = count_run 42 k 43

-- the text begins with no sign
pub record Stops (sf : Bool) (rest : List ℕ) : Type 0 where
  pub sharp : leading (sharp_sign sf) rest ≡ 0
  pub flat : leading (flat_sign sf) rest ≡ 0

stops_at_slash : (sf : Bool) (rest : List ℕ) → Stops sf (47 ∷ rest)
unfolding leading
stops_at_slash true rest = record { sharp = refl; flat = refl }
stops_at_slash false rest = record { sharp = refl; flat = refl }

pub stops_at_stars : (sf : Bool) (n : ℕ) → Stops sf (replicate n 42)
unfolding leading
stops_at_stars sf zero = record { sharp = refl; flat = refl }
stops_at_stars true (suc n) = record { sharp = refl; flat = refl }
stops_at_stars false (suc n) = record { sharp = refl; flat = refl }

pub sharps_read : (sf : Bool) (s : Signs) (rest : List ℕ) → Stops sf rest → leading (sharp_sign sf) (signs_text sf s ++ rest) ≡ sharps_in s
sharps_read true (Sharps k) rest h = leading_run 35 k 35 rest h.sharp
sharps_read true (Flats k) rest h = leading_run 35 k 98 rest h.sharp
sharps_read false (Sharps k) rest h = leading_run 45 k 45 rest h.sharp
sharps_read false (Flats k) rest h = leading_run 45 k 43 rest h.sharp

pub flats_read : (sf : Bool) (s : Signs) (rest : List ℕ) → Stops sf rest → leading (flat_sign sf) (signs_text sf s ++ rest) ≡ flats_in s
flats_read true (Sharps k) rest h = leading_run 98 k 35 rest h.flat
flats_read true (Flats k) rest h = leading_run 98 k 98 rest h.flat
flats_read false (Sharps k) rest h = leading_run 43 k 45 rest h.flat
flats_read false (Flats k) rest h = leading_run 43 k 43 rest h.flat

-- ---- a spelling

module _ (letters : List ℕ) (sf : Bool) (s : Spelling) (good : IsLetter (letter_at letters s.index)) where
  abbrev letter : ℕ
  letter = letter_at letters s.index

  spelling_then : (rest : List ℕ) → spelling_text letters sf s ++ rest ≡ letter_text letter ++ (signs_text sf s.signs ++ rest)
  unfolding spelling_text
  spelling_then rest = append_assoc (letter_text letter) (signs_text sf s.signs) rest

  no_star_in_spelling : count 42 (spelling_text letters sf s) ≡ 0
  unfolding spelling_text
  no_star_in_spelling =
      count_append 42 (letter_text letter) (signs_text sf s.signs)
      ∙ omega (arith, no_star_in_letter letter good, no_star_in_signs sf s.signs)

  begins : (rest : List ℕ) → past_parenthesis (spelling_text letters sf s ++ rest) ≡ spelling_text letters sf s ++ rest
  begins rest =
      ap past_parenthesis (spelling_then rest)
      ∙ no_parenthesis letter (signs_text sf s.signs ++ rest) good
      ∙ sym (spelling_then rest)

  -- a text that begins with it, past a parenthesis
  reads : (text rest : List ℕ) → Stops sf rest → past_parenthesis text ≡ spelling_text letters sf s ++ rest → count 42 text ≡ s.stars
      → read_name sf text ≡ reading_of letters s
  unfolding read_name reading_of
  reads text rest stops e stars =
      let name : past_parenthesis text ≡ letter_text letter ++ (signs_text sf s.signs ++ rest) = e ∙ spelling_then rest in
      let behind : past_letter (past_parenthesis text) ≡ signs_text sf s.signs ++ rest
      = ap past_letter name ∙ past_letter_lem letter (signs_text sf s.signs ++ rest) good in
      same
      (ap read_letter name ∙ read_letter_lem letter (signs_text sf s.signs ++ rest) good)
      (ap (leading (sharp_sign sf)) behind ∙ sharps_read sf s.signs rest stops)
      (ap (leading (flat_sign sf)) behind ∙ flats_read sf s.signs rest stops)
      stars
    where
      same : {a b c d a' b' c' d' : ℕ} → a ≡ a' → b ≡ b' → c ≡ c' → d ≡ d'
          → ◌≡◌ {A = Reading} (record { letter = a; sharps = b; flats = c; stars = d }) (record { letter = a'; sharps = b'; flats = c'; stars = d' })
      same p q r t = rw (p, q, r, t)

-- ---- a name

module _ (letters : List ℕ) (sf : Bool) (a : Accidentals)
    (sharp : IsLetter (letter_at letters a.sharp_index)) (flat : IsLetter (letter_at letters a.flat_index)) where
  good : (s : Spelling) → Of a s → IsLetter (letter_at letters s.index)
  unfolding sharp_spelling flat_spelling
  good s (inl e) = rw e sharp
  good s (inr e) = rw e flat

  abbrev stars : List ℕ
  stars = replicate (stars_of a.cycle) 42

  count_stars : count 42 stars ≡ stars_of a.cycle
  count_stars = count_run 42 (stars_of a.cycle) 42

  read_alone : (s : Spelling) → Of a s → read_name sf (spelling_text letters sf s ++ stars) ≡ reading_of letters s
  read_alone s o =
      reads letters sf s (good s o) (spelling_text letters sf s ++ stars) stars (stops_at_stars sf (stars_of a.cycle))
      (begins letters sf s (good s o) stars)
      (count_append 42 (spelling_text letters sf s) stars
      ∙ omega (arith, no_star_in_spelling letters sf s (good s o), count_stars, stars_of_lem a s o))

  module _ (s t : Spelling) (o : Of a s) (p : Of a t) where
    abbrev S : List ℕ
    S = spelling_text letters sf s

    abbrev T : List ℕ
    T = spelling_text letters sf t

    -- both with / between, and what follows
    pair_then : (rest : List ℕ) → S ++ (47 ∷ []) ++ T ++ rest ≡ S ++ (47 ∷ (T ++ rest))
    pair_then rest = simp append_assoc

    no_star_in_pair : (rest : List ℕ) → count 42 (S ++ (47 ∷ (T ++ rest))) ≡ count 42 rest
    unfolding count
    no_star_in_pair rest =
        count_append 42 S (47 ∷ (T ++ rest))
        ∙ omega (arith, count_append 42 T rest, no_star_in_spelling letters sf s (good s o), no_star_in_spelling letters sf t (good t p))

    pair : (text rest : List ℕ) → past_parenthesis text ≡ S ++ (47 ∷ (T ++ rest)) → count 42 text ≡ count 42 (S ++ (47 ∷ (T ++ rest)))
        → count 42 rest ≡ stars_of a.cycle → read_name sf text ≡ reading_of letters s
    pair text rest e c n =
        reads letters sf s (good s o) text (47 ∷ (T ++ rest)) (stops_at_slash sf (T ++ rest)) e
        (c ∙ no_star_in_pair rest ∙ n ∙ sym (stars_of_lem a s o))

    -- without parentheses
    read_pair : read_name sf (S ++ (47 ∷ []) ++ T ++ stars) ≡ reading_of letters s
    read_pair =
        pair (S ++ (47 ∷ []) ++ T ++ stars) stars
        (ap past_parenthesis (pair_then stars) ∙ begins letters sf s (good s o) (47 ∷ (T ++ stars)))
        (ap (count 42) (pair_then stars))
        count_stars

    -- with them: the first is passed over, the last is no star
    read_bracketed : read_name sf ((40 ∷ []) ++ (S ++ (47 ∷ []) ++ T) ++ (41 ∷ []) ++ stars) ≡ reading_of letters s
    unfolding past_parenthesis count
    read_bracketed =
        let e : S ++ (47 ∷ []) ++ T ++ (41 ∷ []) ++ stars ≡ S ++ (47 ∷ (T ++ (41 ∷ stars))) = simp append_assoc in
        pair ((40 ∷ []) ++ (S ++ (47 ∷ []) ++ T) ++ (41 ∷ []) ++ stars) (41 ∷ stars)
        e
        (zero-add (count 42 (S ++ (47 ∷ []) ++ T ++ (41 ∷ []) ++ stars)) ∙ ap (count 42) e)
        (zero-add (count 42 stars) ∙ count_stars)

    read_both : (c : Option ℕ) → c ≡ a.cycle
        → read_name sf (in_parentheses c (S ++ (47 ∷ []) ++ T) ++ stars) ≡ reading_of letters s
    read_both None e = read_pair
    read_both (Some n) e = read_bracketed

  read_list : {l : List Spelling} (d : Spelling) → Printed a l
      → read_name sf (spellings_text letters sf a.cycle l ++ stars) ≡ reading_of letters (get_or l 0 d)
  read_list d (one s o) = read_alone s o
  read_list d (two s t o p n) = read_both s t o p a.cycle refl

  pub read_name_lem : read_name sf (name_text letters sf a) ≡ reading_of letters (first_printed sf a)
  unfolding name_text first_printed
  read_name_lem = read_list (sharp_spelling a) (printed_view sf a)

pub reading_gives_the_first_spelling : ReadingGivesTheFirstSpelling
unfolding chain_name
reading_gives_the_first_spelling code h sf a i =
    read_name_lem (chain_of code).letters sf a (chain_letter code h a.sharp_index i.sharp) (chain_letter code h a.flat_index i.flat)
