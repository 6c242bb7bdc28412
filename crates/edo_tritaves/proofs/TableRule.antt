-- The rule is a test of two exact powers. It is computed once over the whole table; what passes it at every place meets the rule there.
use mathlib.Core.Path.{◌≡◌, refl, subst, sym}
use mathlib.Core.Bool.{Bool, true, false, not, ◌&&◌}
use mathlib.Core.List.{List}
use Prim.Native.Nat.{ℕ, suc, ◌+◌, ◌*◌, ◌-◌, ◌≤◌, ◌^◌}
use native.Mathlib.Omega.{arith}
use lib.Dec.{ltb, leb, eqb}
use lib.ListN.{length, get_or}
use borrow.Author.Tests.{ltb-true, leb-true, eqb-true, not-true}
use Rattle.answer.proofs.Asked.{and_left, and_right}
use Rattle.math.specs.Passing.{all_below}
use Rattle.math.proofs.Passing.{all_each}
use Rattle.edo_tritaves.specs.Tritaves.{TritaveRule, goes_up, goes_down}
use Rattle.edo_tritaves.specs.Table.{tritave_table}

-- ---- what is to be shown

-- both questions of the second choice, asked of small numbers: 3 × 1054 / 665 is near enough to 3 logarithms of 3 to the base 2
pub record Sides (n k : ℕ) : Type 0 where
  pub up : goes_up n k ≡ ltb (665 * (3 * k + 1)) (3162 * n)
  pub down : goes_down n k ≡ ltb (3162 * n) (665 * (3 * k - 1))
  pub some : 2 ≤ k
  pub few : k ≤ 2 * n

-- a table of so many entries, that for n at place n − 1
pub record Ruled (size : ℕ) (table : List ℕ) : Type 0 where
  pub long : length table ≡ size
  pub entry : (n : ℕ) → 1 ≤ n → n ≤ size → TritaveRule n (get_or table (n - 1) 0)
  pub sides : (n : ℕ) → 1 ≤ n → n ≤ size → Sides n (get_or table (n - 1) 0)

-- ---- the test at place i, that is for n = i + 1

-- the rule, each side's power computed once
abbrev pub rule_test : ℕ → ℕ → Bool
rule_test i k = ltb (2 ^ (2 * k - 1)) (3 ^ (2 * suc i)) && ltb (3 ^ (2 * suc i)) (2 ^ (2 * k + 1))

-- two answers to one question
abbrev pub agree : Bool → Bool → Bool
agree true b = b
agree false b = not b

agreed : (a b : Bool) → agree a b ≡ true → a ≡ b
agreed true b e = sym e
agreed false b e = sym (not-true b e)

abbrev pub up_test : ℕ → ℕ → Bool
up_test i k = agree (goes_up (suc i) k) (ltb (665 * (3 * k + 1)) (3162 * suc i))

abbrev pub down_test : ℕ → ℕ → Bool
down_test i k = agree (goes_down (suc i) k) (ltb (3162 * suc i) (665 * (3 * k - 1)))

abbrev pub small_test : ℕ → ℕ → Bool
small_test i k = leb 2 k && leb k (2 * suc i)

abbrev pub sides_test : ℕ → ℕ → Bool
sides_test i k = up_test i k && (down_test i k && small_test i k)

ruled : (i k : ℕ) → rule_test i k ≡ true → TritaveRule (suc i) k
ruled i k t =
    let a = ltb (2 ^ (2 * k - 1)) (3 ^ (2 * suc i)) in
    let b = ltb (3 ^ (2 * suc i)) (2 ^ (2 * k + 1)) in
    record { above = ltb-true _ _ (and_left a b t); below = ltb-true _ _ (and_right a b t) }

sided : (i k : ℕ) → sides_test i k ≡ true → Sides (suc i) k
sided i k t =
    let r = and_right (up_test i k) (down_test i k && small_test i k) t in
    let s = and_right (down_test i k) (small_test i k) r in
    record {
      up = agreed (goes_up (suc i) k) _ (and_left (up_test i k) (down_test i k && small_test i k) t);
      down = agreed (goes_down (suc i) k) _ (and_left (down_test i k) (small_test i k) r);
      some = leb-true 2 k (and_left (leb 2 k) (leb k (2 * suc i)) s);
      few = leb-true k (2 * suc i) (and_right (leb 2 k) (leb k (2 * suc i)) s);
    }

-- ---- the whole table

-- a test on each entry and its place
abbrev pub every_entry : (ℕ → ℕ → Bool) → ℕ → List ℕ → Bool
every_entry test size table = all_below (λ i. test i (get_or table i 0)) size

abbrev pub passes : ℕ → List ℕ → Bool
passes size table = eqb (length table) size && (every_entry rule_test size table && every_entry sides_test size table)

pub table_ruled : (size : ℕ) (table : List ℕ) → passes size table ≡ true → Ruled size table
table_ruled size table t =
    let tests = and_right (eqb (length table) size) (every_entry rule_test size table && every_entry sides_test size table) t in
    record {
      long = eqb-true (length table) size (and_left (eqb (length table) size) (every_entry rule_test size table && every_entry sides_test size table) t);
      entry = λ n l h.
          subst (λ (m : ℕ). TritaveRule m (get_or table (n - 1) 0)) (let e : suc (n - 1) ≡ n = omega arith in e)
          (ruled (n - 1) (get_or table (n - 1) 0)
          (all_each (λ i. rule_test i (get_or table i 0)) (n - 1) size (omega arith)
          (and_left (every_entry rule_test size table) (every_entry sides_test size table) tests)));
      sides = λ n l h.
          subst (λ (m : ℕ). Sides m (get_or table (n - 1) 0)) (let e : suc (n - 1) ≡ n = omega arith in e)
          (sided (n - 1) (get_or table (n - 1) 0)
          (all_each (λ i. sides_test i (get_or table i 0)) (n - 1) size (omega arith)
          (and_right (every_entry rule_test size table) (every_entry sides_test size table) tests)));
    }

-- ---- the 400 numbers

pub the_table_ruled : Ruled 400 tritave_table
unfolding tritave_table all_below
the_table_ruled = table_ruled 400 tritave_table refl

-- what is handed out as the table
pub handed_out : {table : List ℕ} → table ≡ tritave_table → Ruled 400 table
handed_out e = subst (λ (table : List ℕ). Ruled 400 table) (sym e) the_table_ruled
