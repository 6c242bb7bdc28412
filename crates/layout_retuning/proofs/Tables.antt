-- The table: entry after entry, which in blocks of seventeen is the definition's, letter by letter; what stands at each place of it.
use Prim.Native.Nat.{ℕ, zero, suc, ◌+◌, ◌*◌, ◌/◌, ◌%◌, ◌≤◌, ◌<◌}
use mathlib.Core.Path.{◌≡◌, refl, sym, ap, ap₂, ◌∙◌, subst}
use mathlib.Core.Logic.{◌⊎◌, inl, inr}
use mathlib.Core.List.{List, [], ◌∷◌, ◌++◌}
use lib.Arith.{digits_div, digits_mod}
use lib.ListN.{length, get_or, set, get_or-append}
use lib.Seq.{get_or-append_seam}
use native.Mathlib.Nat.{one-mul, eq-or-lt_of_le}
use native.Mathlib.Omega.{arith}
use Rattle.answer.specs.Outcome.{Outcome, given, refused, and_then}
use Rattle.answer.specs.Lent.{held_in, in_room, counted, Filled}
use Rattle.answer.proofs.Asked.{given_same}
use Rattle.answer.proofs.Lent.{held, not_held, filled_refused}
use Rattle.text.specs.Writing.{Wrote, joined}
use Rattle.text.proofs.Writing.{wrote_one, wrote_as, filled_given}
use Rattle.text.proofs.Joined.{joined_start, joined_step, joined_same, joined_blocks, length_joined_each}
use Rattle.pergen.proofs.Inverse.{cycles_positive}
use Rattle.layout.specs.Layouts.{Layout, Accepted}
use Rattle.layout_retuning.specs.Retunings.{first_of, second_of, moved, table_spelling, letter_moves, move_table}
use Rattle.layout_retuning.specs.Answers.{moved_in, get_moved, get_move_table}
use Rattle.layout_retuning.specs.Parts.{Numbers, tunings_of, get_tunings, steps_by, table_length, table_by}
use Rattle.layout_retuning.specs.Theorems.{OfSingleCalls, TableIsOfSingleCalls}
use Rattle.layout_retuning.specs.declared.Retuning.{Retuning}
use Rattle.layout_retuning.proofs.BothLayouts.{Shared, shared, letters_shared, moved_by_numbers, of_both, both_accepted, by_numbers}
use Rattle.layout_retuning.proofs.Bound.{there_and_back}
use Rattle.layout_retuning.proofs.Calls.{move_of_both}

-- ---- a list of numbers, one after the other

module _ (f : ℕ → ℕ) where
  abbrev numbers : ℕ → List ℕ
  numbers n = joined (λ i. f i ∷ []) n

  length_numbers : (n : ℕ) → length (numbers n) ≡ n
  length_numbers n = length_joined_each (λ i. f i ∷ []) 1 (λ i. refl) n ∙ one-mul n

  number_at : (n i : ℕ) → i < n → get_or (numbers n) i 0 ≡ f i
  unfolding joined
  number_at zero i h = absurd (let z : ⊥ = omega arith in z)
  number_at (suc n) i h = by (eq-or-lt_of_le (let z : i ≤ n = omega arith in z)) (number_at n i)
    where
      by : (i ≡ n) ⊎ (i < n) → (i < n → get_or (numbers n) i 0 ≡ f i) → get_or (numbers n ++ (f n ∷ [])) i 0 ≡ f i
      by (inl e) ih =
          ap (λ (k : ℕ). get_or (numbers n ++ (f n ∷ [])) k 0) (e ∙ sym (length_numbers n))
          ∙ get_or-append_seam (numbers n) (f n) [] 0
          ∙ ap f (sym e)
      by (inr l) ih = get_or-append (numbers n) (f n ∷ []) 0 i (omega (arith, length_numbers n)) ∙ ih l

-- ---- the loop that writes it

module _ (k : Numbers) where
  abbrev pub entry : ℕ → ℕ
  entry i = steps_by k (table_spelling (i / 17) (i % 17))

  pub length_table : (count : ℕ) → length (table_by k count) ≡ count
  unfolding table_by
  length_table count = length_numbers entry count

  pub table_start : (xs : List ℕ) → Wrote xs 0 (table_by k 0) xs 0
  unfolding table_by
  table_start xs = joined_start (λ i. entry i ∷ []) xs 0

  pub table_step : {xs ys : List ℕ} (i : ℕ) (n : ℕ) → n ≡ entry i → Wrote xs 0 (table_by k i) ys i
      → Wrote xs 0 (table_by k (i + 1)) (set ys i n) (i + 1)
  unfolding table_by
  table_step {ys = ys} i n e w = joined_step (λ j. entry j ∷ []) i w (wrote_as (ap (λ (v : ℕ). v ∷ []) e) (wrote_one ys i n))

  -- question 10, and the table
  pub table_no_room : (count : ℕ) (xs : List ℕ) → count ≡ table_length k → length xs < count
      → Filled (held_in (length xs) (table_by k (table_length k))) (refused 10) xs xs
  table_no_room count xs e h =
      filled_refused 10 xs (not_held (length xs) (table_by k (table_length k)) (omega (arith, e, length_table (table_length k)))) refl

  pub table_written : (count : ℕ) {xs ys : List ℕ} → count ≡ table_length k → count ≤ length xs → Wrote xs 0 (table_by k count) ys count
      → Filled (held_in (length xs) (table_by k (table_length k))) (given count) xs ys
  table_written count {xs} {ys} e h w =
      let room : length (table_by k (table_length k)) ≤ length xs = omega (arith, e, length_table (table_length k)) in
      filled_given (held (length xs) (table_by k (table_length k)) room) (ap given (e ∙ sym (length_table (table_length k)))) room
      (subst (λ (c : ℕ). Wrote xs 0 (table_by k c) ys count) e w)

-- ---- the definition's table

module _ (l m : Layout) (s : Shared l m) where
  pub table_by_numbers : table_by (tunings_of l m) (table_length (tunings_of l m)) ≡ move_table l m
  unfolding table_by move_table letter_moves
  table_by_numbers =
      sym (joined_blocks one 17 l.letters)
      ∙ joined_same (λ letter. joined (λ j. one (letter * 17 + j)) 17) (letter_moves l m) l.letters
      (λ letter h. joined_same (λ j. one (letter * 17 + j)) (λ j. moved l m (table_spelling letter j) ∷ []) 17 (λ j i. at letter j i))
    where
      one : ℕ → List ℕ
      one i = entry (tunings_of l m) i ∷ []

      at : (letter j : ℕ) → j < 17 → one (letter * 17 + j) ≡ moved l m (table_spelling letter j) ∷ []
      at letter j h =
          ap₂ (λ (a b : ℕ). steps_by (tunings_of l m) (table_spelling a b) ∷ []) (digits_div letter h) (digits_mod letter h)
          ∙ ap (λ (n : ℕ). n ∷ []) (moved_by_numbers l m s (table_spelling letter j))

  pub table_back : move_table m l ≡ move_table l m
  unfolding move_table letter_moves
  table_back =
      ap (joined (letter_moves m l)) s.letters
      ∙ joined_same (letter_moves m l) (letter_moves l m) l.letters
      (λ letter h. joined_same (λ j. moved m l (table_spelling letter j) ∷ []) (λ j. moved l m (table_spelling letter j) ∷ []) 17
      (λ j i. ap (λ (n : ℕ). n ∷ []) (there_and_back l m s (table_spelling letter j))))

  pub length_move_table : length (move_table l m) ≡ l.letters * 17
  length_move_table = sym (ap length table_by_numbers) ∙ length_table (tunings_of l m) (table_length (tunings_of l m))

  move_at : (letter j : ℕ) → letter < l.letters → j < 17 → get_or (move_table l m) (letter * 17 + j) 0 ≡ moved l m (table_spelling letter j)
  unfolding table_by
  move_at letter j h i =
      sym (ap (λ (xs : List ℕ). get_or xs (letter * 17 + j) 0) table_by_numbers)
      ∙ number_at (entry (tunings_of l m)) (table_length (tunings_of l m)) (letter * 17 + j) (omega arith)
      ∙ ap₂ (λ (a b : ℕ). steps_by (tunings_of l m) (table_spelling a b)) (digits_div letter i) (digits_mod letter i)
      ∙ moved_by_numbers l m s (table_spelling letter j)

-- ---- the call

module _ (t : Retuning) where
  table_from : and_then (get_tunings t) (λ (k : Numbers). given (table_by k (table_length k))) ≡ get_move_table t
  unfolding get_move_table
  table_from =
      by_numbers t (λ (l m : Layout). given (move_table l m)) (λ (k : Numbers). given (table_by k (table_length k)))
      (λ l m e f. ap given (table_by_numbers l m (shared t l m e f)))

  pub table_refused : (n : ℕ) → refused n ≡ get_tunings t → refused n ≡ get_move_table t
  table_refused n e = ap (λ (o : Outcome Numbers). and_then o (λ (k : Numbers). given (table_by k (table_length k)))) e ∙ table_from

  pub table_given : (k : Numbers) → given k ≡ get_tunings t → given (table_by k (table_length k)) ≡ get_move_table t
  table_given k e = ap (λ (o : Outcome Numbers). and_then o (λ (j : Numbers). given (table_by j (table_length j)))) e ∙ table_from

  pub not_written : (n : ℕ) → refused n ≡ get_tunings t → (xs : List ℕ) → Filled (in_room (length xs) (get_move_table t)) (refused n) xs xs
  not_written n e xs = filled_refused n xs (sym (ap (in_room (length xs)) (table_refused n e))) refl

  pub written_given : (k : Numbers) → given k ≡ get_tunings t → {a : Outcome ℕ} {xs ys : List ℕ}
      → Filled (held_in (length xs) (table_by k (table_length k))) a xs ys → Filled (in_room (length xs) (get_move_table t)) a xs ys
  written_given k e {a} {xs} {ys} w =
      subst (λ (o : Outcome (List ℕ)). Filled o a xs ys) (ap (in_room (length xs)) (table_given k e)) w

  pub count_refused : (n : ℕ) → refused n ≡ get_tunings t → refused n ≡ counted (get_move_table t)
  count_refused n e = ap counted (table_refused n e)

  pub count_given : (k : Numbers) → given k ≡ get_tunings t → (c : ℕ) → c ≡ table_length k → given c ≡ counted (get_move_table t)
  count_given k e c q = ap given (q ∙ sym (length_table k (table_length k))) ∙ ap counted (table_given k e)

-- ---- each entry is a single call's answer

single_call : (t : Retuning) (l m : Layout) → Accepted (first_of t) l → Accepted (second_of t) m → (letter j : ℕ) → letter < l.letters
    → get_moved t (table_spelling letter j) ≡ given (moved l m (table_spelling letter j))
unfolding get_moved
single_call t l m e f letter j h =
    let s = shared t l m e f in
    of_both t (λ (u v : Layout). moved_in u v (table_spelling letter j)) l m e f
    ∙ move_of_both l m (table_spelling letter j) h (cycles_positive l.octave l.generator s.positive)
    (cycles_positive m.octave m.generator (omega (arith, s.octave, s.positive)))

pub table_is_of_single_calls : TableIsOfSingleCalls
unfolding get_move_table
table_is_of_single_calls t table q =
    let found = both_accepted t (λ (l m : Layout). given (move_table l m)) table q in
    of found.0 found.1 found.2 found.3 (given_same found.4)
  where
    of : (l m : Layout) → Accepted (first_of t) l → Accepted (second_of t) m → move_table l m ≡ table → OfSingleCalls t table
    of l m e f is =
        let s = shared t l m e f in
        let N = letters_shared t l m e f in
        record {
          long = sym (ap length is) ∙ length_move_table l m s ∙ ap (λ (n : ℕ). n * 17) N;
          each = λ letter j h i.
              let k : letter < l.letters = omega (arith, N) in
              single_call t l m e f letter j k
              ∙ ap given (sym (sym (ap (λ (xs : List ℕ). get_or xs (letter * 17 + j) 0) is) ∙ move_at l m s letter j k i));
        }
