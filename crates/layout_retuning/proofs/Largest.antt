-- The largest of a list that holds some number: it is there, none passes it, and the loop carries it.
use Prim.Native.Nat.{ℕ, ◌+◌, ◌≤◌, ◌<◌, max}
use mathlib.Core.Path.{◌≡◌, refl, sym, ap, ap₂, ◌∙◌, subst}
use mathlib.Core.Bool.{Bool, true, false}
use mathlib.Core.Logic.{◌⊎◌, inl, inr}
use mathlib.Core.List.Memᴰ
use mathlib.Core.List.{List, [], ◌∷◌, ◌++◌, Memᴰ}
use lib.Dec.{ltb}
use lib.ListN.{length}
use borrow.Author.Tests.{ltb-true, ltb-false}
use native.Mathlib.Nat.{le_antisymm}
use native.Mathlib.Omega.{arith}
use Rattle.answer.specs.Outcome.{Outcome, given, refused, and_then}
use Rattle.answer.proofs.Asked.{given_same}
use Rattle.text.specs.Writing.{joined}
use Rattle.text.proofs.Joined.{joined_none, joined_more}
use Rattle.layout.specs.Layouts.{Layout, Accepted}
use Rattle.layout_retuning.specs.Retunings.{first_of, second_of, move_table, largest}
use Rattle.layout_retuning.specs.Answers.{moved_in, get_moved, get_move_table, get_largest_move}
use Rattle.layout_retuning.specs.Parts.{Numbers, get_tunings, table_length, table_by}
use Rattle.layout_retuning.specs.Theorems.{IsLargest, LargestIsTheLargest, back, BackIsAsFar}
use Rattle.layout_retuning.specs.declared.Retuning.{Retuning}
use Rattle.layout_retuning.proofs.BothLayouts.{shared, some_letters, of_both, both_accepted, by_numbers}
use Rattle.layout_retuning.proofs.Calls.{same_back}
use Rattle.layout_retuning.proofs.Tables.{entry, table_by_numbers, table_back, length_move_table}

-- ---- of a list

none_passes : (xs : List ℕ) (k : ℕ) → Memᴰ k xs → k ≤ largest xs
unfolding largest
none_passes [] k p = absurd (Memᴰ.not-nil p)
none_passes (x ∷ xs) k p = by (Memᴰ.cases_cons p) (none_passes xs k)
  where
    by : (k ≡ x) ⊎ Memᴰ k xs → (Memᴰ k xs → k ≤ largest xs) → k ≤ max x (largest xs)
    by (inl e) ih = omega (arith, e)
    by (inr q) ih = let z = ih q in omega arith

is_there : (x : ℕ) (xs : List ℕ) → Memᴰ (largest (x ∷ xs)) (x ∷ xs)
unfolding largest
is_there x [] = Memᴰ.head (let z : max x 0 ≡ x = omega arith in z)
is_there x (y ∷ ys) = by (ltb x (largest (y ∷ ys))) refl (is_there y ys)
  where
    by : (b : Bool) → ltb x (largest (y ∷ ys)) ≡ b → Memᴰ (largest (y ∷ ys)) (y ∷ ys)
        → Memᴰ (max x (largest (y ∷ ys))) (x ∷ y ∷ ys)
    by true e p =
        let h = ltb-true x (largest (y ∷ ys)) e in
        let same : max x (largest (y ∷ ys)) ≡ largest (y ∷ ys) = omega arith in
        subst (λ (k : ℕ). Memᴰ k (x ∷ y ∷ ys)) (sym same) (Memᴰ.tail p)
    by false e p = let h = ltb-false x (largest (y ∷ ys)) e in Memᴰ.head (let z : max x (largest (y ∷ ys)) ≡ x = omega arith in z)

largest_is : (xs : List ℕ) → 0 < length xs → IsLargest xs (largest xs)
largest_is [] h = absurd (let z : ⊥ = omega arith in z)
largest_is (x ∷ xs) h = record { there = is_there x xs; most = none_passes (x ∷ xs) }

only_largest : (xs : List ℕ) (n : ℕ) → IsLargest xs n → n ≡ largest xs
only_largest [] n w = absurd (Memᴰ.not-nil w.there)
only_largest (x ∷ xs) n w = le_antisymm (none_passes (x ∷ xs) n w.there) (w.most (largest (x ∷ xs)) (is_there x xs))

-- one number more
largest_more : (xs : List ℕ) (y : ℕ) → largest (xs ++ (y ∷ [])) ≡ max (largest xs) y
unfolding largest
largest_more [] y = let z : max y 0 ≡ max 0 y = omega arith in z
largest_more (x ∷ xs) y = ap (λ (n : ℕ). max x n) (largest_more xs y) ∙ regroup (largest xs)
  where
    regroup : (n : ℕ) → max x (max n y) ≡ max (max x n) y
    regroup n = omega arith

-- ---- the loop

module _ (k : Numbers) where
  pub largest_start : 0 ≡ largest (table_by k 0)
  unfolding table_by largest
  largest_start = sym (ap largest (joined_none (λ i. entry k i ∷ [])))

  pub largest_step : (i n most next : ℕ) → n ≡ entry k i → most ≡ largest (table_by k i) → next ≡ max most n
      → next ≡ largest (table_by k (i + 1))
  unfolding table_by
  largest_step i n most next e h f =
      f
      ∙ ap₂ (λ (u v : ℕ). max u v) h e
      ∙ sym (ap largest (joined_more (λ j. entry k j ∷ []) i) ∙ largest_more (joined (λ j. entry k j ∷ []) i) (entry k i))

  pub largest_end : (i count most : ℕ) → count ≤ i → i ≤ count → count ≡ table_length k → most ≡ largest (table_by k i)
      → most ≡ largest (table_by k (table_length k))
  largest_end i count most h j e q = q ∙ ap (λ (c : ℕ). largest (table_by k c)) (le_antisymm j h ∙ e)

-- ---- the call

module _ (t : Retuning) where
  largest_from : and_then (get_tunings t) (λ (k : Numbers). given (largest (table_by k (table_length k)))) ≡ get_largest_move t
  unfolding get_largest_move
  largest_from =
      by_numbers t (λ (l m : Layout). given (largest (move_table l m))) (λ (k : Numbers). given (largest (table_by k (table_length k))))
      (λ l m e f. ap (λ (xs : List ℕ). given (largest xs)) (table_by_numbers l m (shared t l m e f)))

  pub largest_refused : (n : ℕ) → refused n ≡ get_tunings t → refused n ≡ get_largest_move t
  largest_refused n e = ap (λ (o : Outcome Numbers). and_then o (λ (k : Numbers). given (largest (table_by k (table_length k))))) e ∙ largest_from

  pub largest_given : (k : Numbers) → given k ≡ get_tunings t → (n : ℕ) → n ≡ largest (table_by k (table_length k)) → given n ≡ get_largest_move t
  largest_given k e n q =
      ap given q ∙ ap (λ (o : Outcome Numbers). and_then o (λ (j : Numbers). given (largest (table_by j (table_length j))))) e ∙ largest_from

-- ---- the theorem

module _ (t : Retuning) (n : ℕ) where
  abbrev InTable : Type 0
  InTable = (table : List ℕ) × (get_move_table t ≡ given table) × IsLargest table n

  in_table : get_largest_move t ≡ given n → InTable
  unfolding get_largest_move get_move_table
  in_table q = of (both_accepted t (λ (l m : Layout). given (largest (move_table l m))) n q)
    where
      of : (l : Layout) × (m : Layout) × Accepted (first_of t) l × Accepted (second_of t) m × (given (largest (move_table l m)) ≡ given n)
          → InTable
      of (l, m, e, f, is) =
          let some : 0 < length (move_table l m)
          = omega (arith, length_move_table l m (shared t l m e f), some_letters t l m e f) in (
            move_table l m,
            of_both t (λ (u v : Layout). given (move_table u v)) l m e f,
            subst (IsLargest (move_table l m)) (given_same is) (largest_is (move_table l m) some),
          )

  from_table : InTable → get_largest_move t ≡ given n
  unfolding get_largest_move get_move_table
  from_table (table, q, w) = of (both_accepted t (λ (l m : Layout). given (move_table l m)) table q)
    where
      of : (l : Layout) × (m : Layout) × Accepted (first_of t) l × Accepted (second_of t) m × (given (move_table l m) ≡ given table)
          → get_largest_move t ≡ given n
      of (l, m, e, f, is) =
          of_both t (λ (u v : Layout). given (largest (move_table u v))) l m e f
          ∙ ap (λ (xs : List ℕ). given (largest xs)) (given_same is)
          ∙ ap given (sym (only_largest table n w))

pub largest_is_the_largest : LargestIsTheLargest
largest_is_the_largest t n = (in_table t n, from_table t n)

-- ---- the way back

pub back_is_as_far : BackIsAsFar
unfolding get_moved get_move_table get_largest_move
back_is_as_far t l m e f =
    let s = shared t l m e f in
    record {
      moves = λ x.
          of_both (back t) (λ (u v : Layout). moved_in u v x) m l f e
          ∙ same_back l m s x
          ∙ sym (of_both t (λ (u v : Layout). moved_in u v x) l m e f);
      table =
          of_both (back t) (λ (u v : Layout). given (move_table u v)) m l f e
          ∙ ap given (table_back l m s)
          ∙ sym (of_both t (λ (u v : Layout). given (move_table u v)) l m e f);
      most =
          of_both (back t) (λ (u v : Layout). given (largest (move_table u v))) m l f e
          ∙ ap (λ (xs : List ℕ). given (largest xs)) (table_back l m s)
          ∙ sym (of_both t (λ (u v : Layout). given (largest (move_table u v))) l m e f);
    }
