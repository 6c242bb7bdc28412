-- The chains' letters are letters and pairwise distinct: one computed test over all chains, and the laws that read it.
use mathlib.Core.Path.{◌≡◌, refl, sym, ap}
use mathlib.Core.Bool.{Bool, true, false, not, ◌&&◌, ◌||◌}
use mathlib.Core.Logic.{◌⊎◌, inl, inr}
use mathlib.Core.List.{List, [], ◌∷◌}
use Prim.Native.Nat.{ℕ, zero, suc, ◌<◌}
use native.Mathlib.Nat.{le_of_suc-le-suc, not-suc-le-zero}
use lib.Dec.{eqb, ltb, leb}
use borrow.Author.Tests.{leb-true, ltb-true, eqb-false, not-true}
use lib.ListN.{length, get_or}
use Rattle.answer.specs.Tests.{all_of}
use Rattle.answer.proofs.Asked.{and_left, and_right, all_at}
use Rattle.genchain.specs.Chains.{Chain, chains, no_chain, chain_of}
use Rattle.genchain.specs.Theorems.{IsLetter, GoodChain, ChainsAreGood}

-- ---- the tests

abbrev letter : ℕ → Bool
letter c = (leb 65 c && leb c 90) || (leb 128 c && leb c 2047)

abbrev not_in : ℕ → List ℕ → Bool
not_in x ys = all_of (λ (y : ℕ). not (eqb x y)) ys

abbrev distinct : List ℕ → Bool
distinct [] = true
distinct (x ∷ xs) = not_in x xs && distinct xs

abbrev sized : Chain → Bool
sized c = leb 5 (length c.letters) && (leb (length c.letters) 9 && ltb c.start (length c.letters))

abbrev good : Chain → Bool
good c = sized c && (all_of letter c.letters && distinct c.letters)

-- ---- what they say

either_cases : (a b : Bool) → (a || b) ≡ true → (a ≡ true) ⊎ (b ≡ true)
either_cases true b e = inl refl
either_cases false b e = inr e

is_letter : (c : ℕ) → letter c ≡ true → IsLetter c
is_letter c e = by (either_cases (leb 65 c && leb c 90) (leb 128 c && leb c 2047) e)
  where
    by : ((leb 65 c && leb c 90) ≡ true) ⊎ ((leb 128 c && leb c 2047) ≡ true) → IsLetter c
    by (inl u) = inl (leb-true 65 c (and_left (leb 65 c) (leb c 90) u), leb-true c 90 (and_right (leb 65 c) (leb c 90) u))
    by (inr u) = inr (leb-true 128 c (and_left (leb 128 c) (leb c 2047) u), leb-true c 2047 (and_right (leb 128 c) (leb c 2047) u))

not_in_lem : (x : ℕ) (ys : List ℕ) (j : ℕ) → not_in x ys ≡ true → j < length ys → x ≡ get_or ys j 0 → ⊥
not_in_lem x ys j t h e = eqb-false x (get_or ys j 0) (not-true (eqb x (get_or ys j 0)) (all_at (λ (y : ℕ). not (eqb x y)) ys j 0 t h)) e

distinct_at : (xs : List ℕ) → distinct xs ≡ true → (i j : ℕ) → i < length xs → j < length xs → get_or xs i 0 ≡ get_or xs j 0 → i ≡ j
distinct_at [] t i j hi hj e = absurd (not-suc-le-zero hi)
distinct_at (x ∷ xs) t zero zero hi hj e = refl
distinct_at (x ∷ xs) t zero (suc j) hi hj e = absurd (not_in_lem x xs j (and_left (not_in x xs) (distinct xs) t) (le_of_suc-le-suc hj) e)
distinct_at (x ∷ xs) t (suc i) zero hi hj e = absurd (not_in_lem x xs i (and_left (not_in x xs) (distinct xs) t) (le_of_suc-le-suc hi) (sym e))
distinct_at (x ∷ xs) t (suc i) (suc j) hi hj e =
    ap suc (distinct_at xs (and_right (not_in x xs) (distinct xs) t) i j (le_of_suc-le-suc hi) (le_of_suc-le-suc hj) e)

good_chain : (c : Chain) → good c ≡ true → GoodChain c
good_chain c t =
    let l = c.letters in
    let s = and_left (sized c) (all_of letter l && distinct l) t in
    let u = and_right (sized c) (all_of letter l && distinct l) t in
    let v = and_right (leb 5 (length l)) (leb (length l) 9 && ltb c.start (length l)) s in
    record {
      at_least_five = leb-true 5 (length l) (and_left (leb 5 (length l)) (leb (length l) 9 && ltb c.start (length l)) s);
      at_most_nine = leb-true (length l) 9 (and_left (leb (length l) 9) (ltb c.start (length l)) v);
      start_below = ltb-true c.start (length l) (and_right (leb (length l) 9) (ltb c.start (length l)) v);
      letters = λ i h. is_letter (get_or l i 0) (all_at letter l i 0 (and_left (all_of letter l) (distinct l) u) h);
      distinct = distinct_at l (and_right (all_of letter l) (distinct l) u);
    }

-- computed over the six
pub chains_are_good : ChainsAreGood
unfolding chains chain_of
chains_are_good code h = good_chain (chain_of code) (all_at good chains code no_chain refl h)
