-- Some number meets the rule, whatever n from 1 on is: 3 to the power 2n is odd, so it is no power of 2, and going up by two powers at a
-- time one passes it.
use mathlib.Core.Path.{◌≡◌, refl, ap, subst}
use mathlib.Core.Bool.{Bool, true, false}
use Prim.Native.Nat.{ℕ, zero, suc, ◌+◌, ◌*◌, ◌-◌, ◌≤◌, ◌<◌, ◌^◌}
use native.Mathlib.Nat.{pow-suc, pow-zero}
use native.Mathlib.Omega.{arith}
use lib.Dec.{leb}
use Rattle.std.specs.Prelude.{Some, None}
use lib.ListN.{get_or}
use borrow.Author.Tests.{leb-true, leb-false}
use Rattle.answer.specs.Choice.{pick}
use Rattle.edo_tritaves.specs.Tritaves.{TritaveRule, tritave, goes_up, goes_down, second_choice}
use Rattle.edo_tritaves.specs.Table.{tritave_table}
use Rattle.edo_tritaves.specs.Theorems.{TableMeetsTheRule, EveryDivisionMeetsTheRule}
use Rattle.edo_tritaves.proofs.TableRule.{the_table_ruled}
use Rattle.edo_tritaves.proofs.Choosing.{tritave_is, one_tritave, never_both}

-- ---- powers of 3 and of 2

odd : (k : ℕ) → (half : ℕ) × (3 ^ k ≡ 2 * half + 1)
odd zero = (0, pow-zero 3)
odd (suc k) = let o = odd k in (3 * o.0 + 1, omega (arith, pow-suc 3 k, o.1))

-- twice the exponent, one more
two_more : (k : ℕ) → 2 ^ (2 * suc k) ≡ 2 ^ (2 * k) * 4
two_more k =
    let e : 2 * suc k ≡ suc (suc (2 * k)) = omega arith in
    omega (arith, ap (λ (x : ℕ). 2 ^ x) e, pow-suc 2 (suc (2 * k)), pow-suc 2 (2 * k))

below_four : (k : ℕ) → 3 ^ k ≤ 2 ^ (2 * k)
below_four zero = omega (arith, pow-zero 3, pow-zero 2)
below_four (suc k) = omega (arith, pow-suc 3 k, two_more k, below_four k)

nine : (k : ℕ) → 9 ≤ 3 ^ suc (suc k)
nine zero = omega (arith, pow-suc 3 1, pow-suc 3 0, pow-zero 3)
nine (suc k) = omega (arith, pow-suc 3 (suc (suc k)), nine k)

-- ---- going up

module _ (n : ℕ) (h : 1 ≤ n) where
  abbrev p : ℕ
  p = 3 ^ (2 * n)

  large : 9 ≤ p
  large = subst (λ (x : ℕ). 9 ≤ 3 ^ x) (let e : suc (suc (2 * n - 2)) ≡ 2 * n = omega arith in e) (nine (2 * n - 2))

  Met : ℕ → Type 0
  Met m = (k : ℕ) × (k ≤ m) × TritaveRule n k

  step : (m : ℕ) → p ≤ 2 ^ (2 * suc m + 1) → (p ≤ 2 ^ (2 * m + 1) → Met m) → (test : Bool) → leb p (2 ^ (2 * m + 1)) ≡ test → Met (suc m)
  unfolding Met
  step m l ih true t = let found = ih (leb-true p (2 ^ (2 * m + 1)) t) in (found.0, omega (arith, found.1), found.2)
  step m l ih false t = (
    suc m,
    omega arith,
    record {
      above = subst (λ (x : ℕ). 2 ^ x < p) (let e : 2 * m + 1 ≡ 2 * suc m - 1 = omega arith in e) (leb-false p (2 ^ (2 * m + 1)) t);
      below =
          let e : 2 * suc m + 1 ≡ suc (2 * suc m) = omega arith in
          omega (arith, l, (odd (2 * n)).1, pow-suc 2 (2 * suc m), ap (λ (x : ℕ). 2 ^ x) e);
    },
  )

  up_to : (m : ℕ) → p ≤ 2 ^ (2 * m + 1) → Met m
  up_to zero l = absurd (let z : ⊥ = omega (arith, l, large, pow-suc 2 0, pow-zero 2) in z)
  up_to (suc m) l = step m l (up_to m) (leb p (2 ^ (2 * m + 1))) refl

  met : Met (2 * n)
  met =
      up_to (2 * n)
      (let e : 2 * (2 * n) + 1 ≡ suc (2 * (2 * n)) = omega arith in
      omega (arith, ap (λ (x : ℕ). 2 ^ x) e, pow-suc 2 (2 * (2 * n)), below_four (2 * n)))

  pub meets_rule : TritaveRule n (tritave n)
  unfolding Met
  meets_rule = subst (TritaveRule n) (tritave_is n met.0 met.1 met.2) met.2

  two_at_least : (k : ℕ) → TritaveRule n k → 2 ≤ k
  two_at_least zero r = absurd (let z : ⊥ = omega (arith, r.below, large, pow-suc 2 0, pow-zero 2) in z)
  two_at_least (suc zero) r = absurd (let z : ⊥ = omega (arith, r.below, large, pow-suc 2 2, pow-suc 2 1, pow-suc 2 0, pow-zero 2) in z)
  two_at_least (suc (suc k)) r = omega arith

-- ---- the second choice

module _ (n k : ℕ) where
  second_by : (u d : Bool) → goes_up n k ≡ u → goes_down n k ≡ d → second_choice n k ≡ pick u (Some (k + 1)) (pick d (Some (k - 1)) None)
  unfolding second_choice
  second_by u d e f = simp (e, f)

  not_up : goes_down n k ≡ true → (u : Bool) → goes_up n k ≡ u → u ≡ false
  not_up d true e = absurd (never_both n k e d)
  not_up d false e = refl

  pub second_up : goes_up n k ≡ true → second_choice n k ≡ Some (k + 1)
  second_up e = second_by true (goes_down n k) e refl

  pub second_down : 2 ≤ k → goes_down n k ≡ true → (l : ℕ) × (second_choice n k ≡ Some l) × (l + 1 ≡ k)
  second_down h d = (k - 1, second_by false true (not_up d (goes_up n k) refl) d, omega arith)

  pub second_none : goes_up n k ≡ false → goes_down n k ≡ false → second_choice n k ≡ None
  second_none e d = second_by false false e d

-- ---- the theorems

entry_meets : (i : ℕ) → i < 400 → TritaveRule (i + 1) (get_or tritave_table i 0)
entry_meets i h =
    subst (λ (k : ℕ). TritaveRule (i + 1) (get_or tritave_table k 0)) (let e : i + 1 - 1 ≡ i = omega arith in e)
    (the_table_ruled.entry (i + 1) (omega arith) (omega arith))

pub table_meets_the_rule : TableMeetsTheRule
table_meets_the_rule =
    record {
      long = the_table_ruled.long;
      meets = entry_meets;
      only = λ i k h r. one_tritave (i + 1) k (get_or tritave_table i 0) r (entry_meets i h);
    }

pub every_division_meets_the_rule : EveryDivisionMeetsTheRule
every_division_meets_the_rule n h =
    let r = meets_rule n h in
    let l = two_at_least n h (tritave n) r in
    record {
      meets = r;
      only = λ k s. one_tritave n k (tritave n) s r;
      up = second_up n (tritave n);
      down = second_down n (tritave n) l;
      neither = second_none n (tritave n);
      no_zero = l;
    }
