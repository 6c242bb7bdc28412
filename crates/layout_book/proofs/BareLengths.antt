-- How long bare names are: along the chain, in rounds from both ends, the letters with one sign more in each round; the middle is left.
use Prim.Native.Nat.{ℕ, ◌+◌, ◌*◌, ◌-◌, ◌/◌, ◌%◌, ◌≤◌, ◌<◌}
use mathlib.Core.Path.{◌≡◌, refl, sym, ap, ap₂, ◌∙◌, subst}
use mathlib.Core.Bool.{Bool, true}
use mathlib.Core.List.{List, [], ◌∷◌}
use lib.Arith.{digits_div, digits_mod}
use lib.ListN.{length, length-append, length-replicate}
use borrow.Author.Tests.{lt-ltb, le-ltb, eq-eqb}
use native.Mathlib.Nat.{eq-zero-or-pos, mod-eq_of_lt, div-eq_of_lt, le-div_iff_mul-le, mul-le-mul, mul-le-mul_right, mul_comm, add-mul, mul-add, one-mul, zero-mul, zero-add}
use mathlib.Core.Logic.{◌⊎◌, inl, inr}
use native.Mathlib.Omega.{arith}
use Rattle.text.specs.Writing.{joined}
use Rattle.genchain.specs.Chains.{chain_of}
use Rattle.layout.specs.declared.prepared.Prepared.{Prepared}
use Rattle.layout.specs.Layouts.{sharp_first}
use Rattle.layout.specs.Parts.{layout_in}
use Rattle.notes.specs.Names.{letter_text, letter_at, letter_alone, spelling_text, printed, name_text}
use Rattle.notes.proofs.Printing.{alone_by_indices, printed_alone, printed_sharp, printed_flat}
use Rattle.pergen.specs.declared.Accidentals.{Accidentals}
use Rattle.pergen.specs.Spelling.{stars_of, sharp_spelling, flat_spelling, by_coordinates}
use Rattle.layout_book.specs.Parts.{flat_beside, place_at, bare_at, stretch_name, letter_in, Stretch}
use Rattle.layout_book.proofs.ReadyNumbers.{Numbers}
use Rattle.layout_book.proofs.BareNames.{no_stars}
use Rattle.layout_book.proofs.Turning.{sum, sum_same}
use Rattle.layout_book.proofs.Rounds.{length_joined_sum, rounds_sum}

-- ---- one spelling, and no stars

module _ (letters : List ℕ) (sf : Bool) (a : Accidentals) (bare : stars_of a.cycle ≡ 0) where
  sharp_length : printed sf a ≡ sharp_spelling a ∷ []
      → length (name_text letters sf a) ≡ length (letter_text (letter_at letters a.sharp_index)) + a.sharp_count
  unfolding name_text spelling_text sharp_spelling
  sharp_length only = rw (only, bare) (simp (length-append, length-replicate) (omega arith))

  flat_length : printed sf a ≡ flat_spelling a ∷ []
      → length (name_text letters sf a) ≡ length (letter_text (letter_at letters a.flat_index)) + a.flat_count
  unfolding name_text spelling_text flat_spelling
  flat_length only = rw (only, bare) (simp (length-append, length-replicate) (omega arith))

module _ (p : Prepared) where
  abbrev degrees : ℕ
  degrees = p.solved.reduced_period

  abbrev letters : ℕ
  letters = p.found.num_letters

  abbrev letter : ℕ → ℕ
  letter i = length (letter_in (chain_of p.found.chain).letters i)

  pub bare_cycle : (place : ℕ) → stars_of (place_at p place).cycle ≡ 0
  unfolding place_at by_coordinates
  bare_cycle place = no_stars p.solved.num_cycles

  -- a letter alone
  pub alone_at : (i : ℕ) → i < letters → length (bare_at p i) ≡ letter i
  unfolding bare_at place_at by_coordinates flat_beside letter_in
  alone_at i l =
      let flat : flat_beside degrees letters i ≡ letters - 1 - i = rw (lt-ltb i letters l) refl in
      let f : letters - 1 - i < letters = omega (arith, l) in
      let same : i % letters ≡ letters - 1 - flat_beside degrees letters i % letters =
      mod-eq_of_lt l ∙ (let q : i ≡ letters - 1 - (letters - 1 - i) = omega (arith, l) in q)
      ∙ ap (λ (x : ℕ). letters - 1 - x) (sym (ap (λ (x : ℕ). x % letters) flat ∙ mod-eq_of_lt f)) in
      let only : letter_alone (place_at p i) ≡ true =
      alone_by_indices (place_at p i) (div-eq_of_lt l) (ap (λ (x : ℕ). x / letters) flat ∙ div-eq_of_lt f) ∙ eq-eqb _ _ same in
      sharp_length (chain_of p.found.chain).letters (sharp_first (layout_in p)) (place_at p i) (bare_cycle i) (printed_alone (sharp_first (layout_in p)) (place_at p i) only)
      ∙ ap₂ (λ (x y : ℕ). length (letter_text (letter_at (chain_of p.found.chain).letters x)) + y) (mod-eq_of_lt l) (div-eq_of_lt l)
      ∙ omega arith

  module _ (q i : ℕ) (l : i < letters) (place : ℕ) where
    -- fewer sharps
    sharps_at : place ≡ q * letters + i → q < flat_beside degrees letters place / letters → length (bare_at p place) ≡ letter i + q
    unfolding bare_at place_at by_coordinates letter_in
    sharps_at e few =
        let count : place / letters ≡ q = ap (λ (x : ℕ). x / letters) e ∙ digits_div q l in
        let index : place % letters ≡ i = ap (λ (x : ℕ). x % letters) e ∙ digits_mod q l in
        sharp_length (chain_of p.found.chain).letters (sharp_first (layout_in p)) (place_at p place) (bare_cycle place)
        (printed_sharp (sharp_first (layout_in p)) (place_at p place) (subst (λ (x : ℕ). x < flat_beside degrees letters place / letters) (sym count) few))
        ∙ ap₂ (λ (x y : ℕ). length (letter_text (letter_at (chain_of p.found.chain).letters x)) + y) index count

    -- fewer flats
    flats_at : flat_beside degrees letters place ≡ q * letters + i → q < place / letters → length (bare_at p place) ≡ letter (letters - 1 - i) + q
    unfolding bare_at place_at by_coordinates letter_in
    flats_at e few =
        let count : flat_beside degrees letters place / letters ≡ q = ap (λ (x : ℕ). x / letters) e ∙ digits_div q l in
        let index : flat_beside degrees letters place % letters ≡ i = ap (λ (x : ℕ). x % letters) e ∙ digits_mod q l in
        flat_length (chain_of p.found.chain).letters (sharp_first (layout_in p)) (place_at p place) (bare_cycle place)
        (printed_flat (sharp_first (layout_in p)) (place_at p place) (subst (λ (x : ℕ). x < place / letters) (sym count) few))
        ∙ ap₂ (λ (x y : ℕ). length (letter_text (letter_at (chain_of p.found.chain).letters (letters - 1 - x))) + y) index count

  pub flat_past_letters : (place : ℕ) → letters ≤ place → flat_beside degrees letters place ≡ degrees + (letters - 1) - place
  unfolding flat_beside
  flat_past_letters place l = rw (le-ltb place letters l) refl

  -- ---- rounds

  module _ (some : 0 < letters) (rounds middle : ℕ) (all : degrees ≡ (rounds + 1) * letters + middle + rounds * letters) where
    low_round : (q i : ℕ) → q < rounds + 1 → i < letters → length (bare_at p (q * letters + i)) ≡ letter i + q
    low_round q i lq l = by (eq-zero-or-pos q)
      where
        by : (q ≡ 0) ⊎ (0 < q) → length (bare_at p (q * letters + i)) ≡ letter i + q
        by (inl z) = rw (z, zero-mul letters, zero-add i) (alone_at i l ∙ omega arith)
        by (inr k) =
            let few : q * letters ≤ rounds * letters = mul-le-mul_right letters (omega (arith, lq)) in
            let past : 1 * letters ≤ q * letters = mul-le-mul_right letters k in
            let flat = flat_past_letters (q * letters + i) (omega (arith, past, one-mul letters)) in
            let more : (q + 1) * letters ≤ flat_beside degrees letters (q * letters + i) =
            omega (arith, flat, few, all, l, add-mul q 1 letters, add-mul rounds 1 letters, one-mul letters) in
            sharps_at q i l (q * letters + i) refl (let z : q + 1 ≤ flat_beside degrees letters (q * letters + i) / letters = (le-div_iff_mul-le some).1 more in omega (arith, z))

    high_round : (q i : ℕ) → q < rounds → i < letters
        → length (bare_at p ((rounds + 1) * letters + middle + rounds * letters - 1 - (q * letters + i))) ≡ letter (letters - 1 - i) + (q + 1)
    high_round q i lq l =
        let place = (rounds + 1) * letters + middle + rounds * letters - 1 - (q * letters + i) in
        let few : (q + 1) * letters ≤ rounds * letters = mul-le-mul_right letters (omega (arith, lq)) in
        let past : letters ≤ place = omega (arith, few, l, add-mul q 1 letters, add-mul rounds 1 letters, one-mul letters) in
        let flat : flat_beside degrees letters place ≡ (q + 1) * letters + i =
        flat_past_letters place past ∙ (let z : degrees + (letters - 1) - place ≡ (q + 1) * letters + i = omega (arith, all, few, l, add-mul q 1 letters, add-mul rounds 1 letters, one-mul letters) in z) in
        let more : (q + 2) * letters ≤ place = omega (arith, few, l, add-mul q 1 letters, add-mul q 2 letters, add-mul rounds 1 letters, one-mul letters) in
        flats_at (q + 1) i l place flat (let z : q + 2 ≤ place / letters = (le-div_iff_mul-le some).1 more in omega (arith, z))

    pub bare_rounds : length (joined (bare_at p) degrees)
        ≡ length (joined (letter_in (chain_of p.found.chain).letters) letters) * (2 * rounds + 1) + letters * (rounds * (rounds + 1)) + length (joined (stretch_name p (rounds + 1)) middle)
    unfolding stretch_name
    bare_rounds =
        length_joined_sum (bare_at p) degrees
        ∙ ap (sum (λ (place : ℕ). length (bare_at p place))) all
        ∙ rounds_sum letters rounds middle letter (λ (place : ℕ). length (bare_at p place)) low_round high_round
        ∙ ap₂ (λ (x y : ℕ). x * (2 * rounds + 1) + letters * (rounds * (rounds + 1)) + y)
        (sym (length_joined_sum (letter_in (chain_of p.found.chain).letters) letters))
        (sum_same (λ (i : ℕ). length (bare_at p ((rounds + 1) * letters + i))) (λ (i : ℕ). length (bare_at p (letters * (rounds + 1) + i))) middle
        (λ i l. ap (λ (x : ℕ). length (bare_at p (x + i))) (mul_comm (rounds + 1) letters))
        ∙ sym (length_joined_sum (stretch_name p (rounds + 1)) middle))

-- ---- as many rounds as fit twice, beside the letters alone

module _ (p : Prepared) (h : Numbers p) (rounds : ℕ) (fit : p.found.num_letters * (2 * rounds + 1) ≤ p.solved.reduced_period) where
  abbrev n : ℕ
  n = p.found.num_letters

  abbrev R : ℕ
  R = p.solved.reduced_period

  both_rounds : n * (2 * rounds + 1) ≡ n * rounds + n * (rounds + 1)
  both_rounds = ap (λ (x : ℕ). n * x) (let q : 2 * rounds + 1 ≡ rounds + (rounds + 1) = omega arith in q) ∙ mul-add n rounds (rounds + 1)

  pub round_inside : n * rounds ≤ R
  round_inside = omega (arith, fit, both_rounds)

  pub middle_stretch : Stretch p (rounds + 1) (R - n * rounds)
  middle_stretch = record { past = omega arith; inside = omega (arith, fit, both_rounds); end_inside = omega arith }

  pub few_rounds : rounds ≤ 6553
  few_rounds =
      let q : 5 * (2 * rounds + 1) ≤ n * (2 * rounds + 1) = mul-le-mul_right (2 * rounds + 1) h.five in
      omega (arith, q, fit, h.few_degrees)

  pub few_signs : rounds * (rounds + 1) ≤ 6553 * 6554
  few_signs = mul-le-mul {n₂ = 6553} {m₂ = 6554} few_rounds (omega (arith, few_rounds))

  pub few_signs_all : n * (rounds * (rounds + 1)) ≤ 9 * (6553 * 6554)
  few_signs_all = mul-le-mul {n₂ = 9} {m₂ = 6553 * 6554} h.nine few_signs

  pub few_letters : (l : ℕ) → l ≤ 18 → l * (2 * rounds + 1) ≤ 18 * 13107
  few_letters l k = mul-le-mul {n₂ = 18} {m₂ = 13107} k (omega (arith, few_rounds))

  pub bare_length : {alone middle : ℕ} → alone ≡ length (joined (letter_in (chain_of p.found.chain).letters) n)
      → middle ≡ length (joined (stretch_name p (rounds + 1)) (R - n * rounds - n * (rounds + 1)))
      → alone * (2 * rounds + 1) + n * (rounds * (rounds + 1)) + middle ≡ length (joined (bare_at p) R)
  bare_length a b =
      ap₂ (λ (x y : ℕ). x * (2 * rounds + 1) + n * (rounds * (rounds + 1)) + y) a b
      ∙ sym (bare_rounds p (omega (arith, h.five)) rounds (R - n * rounds - n * (rounds + 1))
      (omega (arith, fit, both_rounds, mul_comm n rounds, mul_comm n (rounds + 1))))
