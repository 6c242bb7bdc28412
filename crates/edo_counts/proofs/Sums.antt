-- Each layout is counted once: on one side of 0, for its own chain. So the counts of all chains are the lengths of all lists.
use Prim.Native.Nat.{ℕ, zero, suc, ◌+◌, ◌*◌, ◌≤◌, ◌<◌}
use native.Mathlib.Numerals.{add-one}
use native.Mathlib.Omega.{arith}
use mathlib.Core.Bool.{Bool, true, false, ◌&&◌}
use mathlib.Core.Path.{◌≡◌, refl, sym, ap, ◌∙◌}
use mathlib.Core.List.{List, [], ◌∷◌}
use lib.Dec.{eqb, ltb}
use lib.ListN.{length, length-append}
use borrow.Author.Tests.{eq-eqb, ne_eqb, le-ltb, ltb-true, ltb-false}
use Rattle.answer.specs.Outcome.{Outcome, given, refused}
use Rattle.mos.specs.declared.Mos.{Mos}
use Rattle.mos.specs.Patterns.{primary, secondary}
use Rattle.edo_layouts.specs.declared.EdoLayout.{EdoLayout}
use Rattle.edo_layouts.specs.Layouts.{chain_outcome, given_of, gathered, layouts_of, one, numbers_of, joined_over}
use Rattle.edo_counts.specs.Counts.{all_layouts, count_passing, is_above, is_below, is_equal, of_chain, tally_of}
use Rattle.edo_counts.specs.Theorems.{sum_of, whole, EveryLayoutIsCounted}
use Rattle.edo_counts.proofs.Counting.{count_none, count_more, count_all_none, division_counts, its, gathered_next, gathered_none}

-- ---- sums

sum_none : (f : ℕ → ℕ) → sum_of f 0 ≡ 0
unfolding sum_of
sum_none f = refl

sum_next : (f : ℕ → ℕ) (k : ℕ) → sum_of f (suc k) ≡ sum_of f k + f k
unfolding sum_of
sum_next f k = refl

sum_same : (f g : ℕ → ℕ) (m : ℕ) → ((k : ℕ) → k < m → f k ≡ g k) → sum_of f m ≡ sum_of g m
sum_same f g zero h = sum_none f ∙ sym (sum_none g)
sum_same f g (suc m) h =
    omega (arith, sum_next f m, sum_next g m, sum_same f g m (λ k l. h k (omega arith)), h m (omega arith))

sum_add : (f g : ℕ → ℕ) (m : ℕ) → sum_of (λ (k : ℕ). f k + g k) m ≡ sum_of f m + sum_of g m
sum_add f g zero = omega (arith, sum_none f, sum_none g, sum_none (λ (k : ℕ). f k + g k))
sum_add f g (suc m) =
    omega (arith, sum_next f m, sum_next g m, sum_next (λ (k : ℕ). f k + g k) m, sum_add f g m)

sum_zeros : (f : ℕ → ℕ) (m : ℕ) → ((k : ℕ) → k < m → f k ≡ 0) → sum_of f m ≡ 0
sum_zeros f zero h = sum_none f
sum_zeros f (suc m) h = omega (arith, sum_next f m, sum_zeros f m (λ k l. h k (omega arith)), h m (omega arith))

length_gathered : (f : ℕ → List EdoLayout) (m : ℕ) → length (gathered f m) ≡ sum_of (λ (k : ℕ). length (f k)) m
length_gathered f zero = ap length (gathered_none f) ∙ sym (sum_none (λ (k : ℕ). length (f k)))
length_gathered f (suc m) =
    omega (
      arith,
      ap length (gathered_next f m),
      length-append (gathered f m) (f m),
      length_gathered f m,
      sum_next (λ (k : ℕ). length (f k)) m,
    )

-- ---- one side of 0

abbrev any : Mos → Bool
any m = true

sides : (m : Mos) → one (is_above m) + one (is_below m) + one (is_equal m) ≡ 1
sides m = by (ltb (secondary m) (primary m)) (ltb (primary m) (secondary m)) refl refl
  where
    summed : (a b e : Bool) → is_above m ≡ a → is_below m ≡ b → is_equal m ≡ e → one a + one b + one e ≡ 1 → one (is_above m) + one (is_below m) + one (is_equal m) ≡ 1
    summed a b e p q r s =
        omega (arith, ap (λ (x : Bool). one x) p, ap (λ (x : Bool). one x) q, ap (λ (x : Bool). one x) r, s)

    by : (a b : Bool) → is_above m ≡ a → is_below m ≡ b → one (is_above m) + one (is_below m) + one (is_equal m) ≡ 1
    by true b p q =
        let l : secondary m < primary m = ltb-true _ _ p in
        summed true false false p (le-ltb (primary m) (secondary m) (omega arith)) (ne_eqb (primary m) (secondary m) (λ (e : primary m ≡ secondary m). omega arith)) refl
    by false true p q =
        let l : primary m < secondary m = ltb-true _ _ q in
        summed false true false p q (ne_eqb (primary m) (secondary m) (λ (e : primary m ≡ secondary m). omega arith)) refl
    by false false p q =
        let l : primary m ≤ secondary m = ltb-false _ _ p in
        let h : secondary m ≤ primary m = ltb-false _ _ q in
        summed false false true p q (eq-eqb (primary m) (secondary m) (omega arith)) refl

once : (code : ℕ) (c : EdoLayout)
    → one (of_chain code is_above c) + one (of_chain code is_below c) + one (of_chain code is_equal c) ≡ one (of_chain code any c)
once code c = by (eqb c.layout.genchain code)
  where
    by : (mine : Bool)
        → one (mine && is_above c.pattern) + one (mine && is_below c.pattern) + one (mine && is_equal c.pattern) ≡ one (mine && true)
    by true = sides c.pattern
    by false = refl

-- so the three numbers of a chain are its layouts
whole_is : (code : ℕ) (xs : List EdoLayout) → whole (tally_of code xs) ≡ count_passing (of_chain code any) xs
unfolding tally_of count_passing
whole_is code [] = refl
whole_is code (c ∷ xs) = omega (arith, once code c, whole_is code xs)

-- ---- the layouts of a division

module _ (n : ℕ) where
  one_chain : (code : ℕ) (o : Outcome EdoLayout) → o ≡ chain_outcome n code → count_passing (of_chain code any) (given_of o) ≡ length (given_of o)
  one_chain code (given c) e = its n code any c e
  one_chain code (refused q) e = count_none (of_chain code any)

  division_sum : sum_of (λ (code : ℕ). count_passing (of_chain code any) (layouts_of n)) 6 ≡ length (layouts_of n)
  unfolding layouts_of
  division_sum =
      sum_same (λ (code : ℕ). count_passing (of_chain code any) (layouts_of n)) (λ (code : ℕ). length (given_of (chain_outcome n code))) 6
      (λ code h. division_counts n code any h ∙ one_chain code (chain_outcome n code) refl)
      ∙ sym (length_gathered (λ (code : ℕ). given_of (chain_outcome n code)) 6)

-- ---- and of all

abbrev counts : ℕ → ℕ
counts last = sum_of (λ (code : ℕ). count_passing (of_chain code any) (all_layouts last)) 6

counts_more : (last : ℕ) → counts (last + 1) ≡ counts last + length (layouts_of (last + 1))
counts_more last =
    sum_same (λ (code : ℕ). count_passing (of_chain code any) (all_layouts (last + 1)))
    (λ (code : ℕ). count_passing (of_chain code any) (all_layouts last) + count_passing (of_chain code any) (layouts_of (last + 1))) 6
    (λ code h. count_more (of_chain code any) last)
    ∙ sum_add (λ (code : ℕ). count_passing (of_chain code any) (all_layouts last)) (λ (code : ℕ). count_passing (of_chain code any) (layouts_of (last + 1))) 6
    ∙ ap (λ (k : ℕ). counts last + k) (division_sum (last + 1))

all_counted : (last : ℕ) → counts last ≡ sum_of (λ (before : ℕ). length (layouts_of (before + 1))) last
all_counted zero =
    sum_zeros (λ (code : ℕ). count_passing (of_chain code any) (all_layouts 0)) 6 (λ code h. count_all_none (of_chain code any))
    ∙ sym (sum_none (λ (before : ℕ). length (layouts_of (before + 1))))
all_counted (suc last) =
    ap counts (sym (add-one last))
    ∙ counts_more last
    ∙ ap (λ (k : ℕ). k + length (layouts_of (last + 1))) (all_counted last)
    ∙ sym (sum_next (λ (before : ℕ). length (layouts_of (before + 1))) last)

three_each : (xs : List EdoLayout) → length (joined_over numbers_of xs) ≡ 3 * length xs
unfolding joined_over
three_each [] = refl
three_each (c ∷ xs) = omega (arith, length-append (numbers_of c) (joined_over numbers_of xs), three_each xs)

pub every_layout_is_counted : (last : ℕ) → EveryLayoutIsCounted last
every_layout_is_counted last =
    record {
      all =
          sum_same (λ (code : ℕ). whole (tally_of code (all_layouts last))) (λ (code : ℕ). count_passing (of_chain code any) (all_layouts last)) 6
          (λ code h. whole_is code (all_layouts last))
          ∙ all_counted last;
      written = λ n. three_each (layouts_of n);
    }
