-- The passes of `coprime`. Both steps are multiples of g, so their difference is 0 or above 1, and a pass divides it by g: it falls,
-- but for equal steps, whose next difference is 1, where the passes end.
use Prim.Native.Nat.{ℕ, zero, suc, ◌+◌, ◌-◌, ◌/◌, ◌≤◌, ◌<◌, ◌∣◌, max}
use mathlib.Core.Path.{◌≡◌, refl, ap, sym, subst, ◌∙◌}
use mathlib.Core.Bool.{Bool, true, false}
use native.Mathlib.Nat.{dvd-sub, dvd-one, div-lt_self, div-le_self, max-eq_right, le_of_lt}
use native.Mathlib.Omega.{arith}
use lib.Dec.{eqb, leb}
use borrow.Author.Tests.{eq-eqb, ne_eqb, eqb-true, eqb-false, leb-true, leb-false, le-leb, lt-leb}
use Rattle.answer.specs.Choice.{pick}
use Rattle.math.specs.Gcd.{gcd_or_one}
use Rattle.math.proofs.Gcd.{gcd_zero, gcd_or_one_positive, gcd_or_one_left, gcd_or_one_right}
use Rattle.mos.specs.Coprime.{distance, pass, passes, coprime_step}

-- ---- one pass, by what the code tests

module _ (g p s : ℕ) where
  pub pass_down_one : s ≤ p → (p - s) / g ≡ 0 → p - 1 ≡ pass g p s
  unfolding pass
  pass_down_one l e = let d : distance p s ≡ p - s = omega arith in rw (le-leb s p l, d, e)

  pub pass_down : s ≤ p → ((p - s) / g ≡ 0 → ⊥) → p - (p - s) / g ≡ pass g p s
  unfolding pass
  pass_down l h =
      let d : distance p s ≡ p - s = omega arith in rw (le-leb s p l, d, max-eq_right (let k : 0 < (p - s) / g = omega arith in k))

  pub pass_up_one : p < s → (s - p) / g ≡ 0 → p + 1 ≡ pass g p s
  unfolding pass
  pass_up_one l e = let d : distance p s ≡ s - p = omega arith in rw (lt-leb s p l, d, e)

  pub pass_up : p < s → ((s - p) / g ≡ 0 → ⊥) → p + (s - p) / g ≡ pass g p s
  unfolding pass
  pass_up l h =
      let d : distance p s ≡ s - p = omega arith in rw (lt-leb s p l, d, max-eq_right (let k : 0 < (s - p) / g = omega arith in k))

-- ---- why the passes end

-- steps that are 1 apart have no common divisor above 1
divides_distance : (d p s : ℕ) → d ∣ p → d ∣ s → d ∣ distance p s
divides_distance d p s hp hs = go (leb p s) refl
  where
    go : (t : Bool) → leb p s ≡ t → d ∣ distance p s
    go true e = subst (λ (n : ℕ). d ∣ n) (omega (arith, leb-true p s e)) (dvd-sub d hs hp)
    go false e = subst (λ (n : ℕ). d ∣ n) (omega (arith, leb-false p s e)) (dvd-sub d hp hs)

one_apart : (p s : ℕ) → 1 < gcd_or_one p s → distance p s ≡ 1 → ⊥
one_apart p s h e =
    let d : gcd_or_one p s ≡ 1
    = dvd-one.0 (subst (λ (n : ℕ). gcd_or_one p s ∣ n) e (divides_distance (gcd_or_one p s) p s (gcd_or_one_left p s) (gcd_or_one_right p s))) in
    omega arith

-- 0 and 0 have the divisor 1
both_zero : gcd_or_one 0 0 ≡ 1
unfolding gcd_or_one
both_zero = ap (max 1) (gcd_zero 0)

pub some_above : (p s : ℕ) → 1 < gcd_or_one p s → 0 < p + s
some_above zero zero h = absurd (let z : ⊥ = omega (arith, both_zero) in z)
some_above zero (suc s) h = omega arith
some_above (suc p) s h = omega arith

-- what falls with each pass
pub left : ℕ → ℕ → ℕ
left p s = pick (eqb p s) 2 (distance p s)

module _ (p s : ℕ) where
  left_same : p ≡ s → left p s ≡ 2
  unfolding left
  left_same e = rw (eq-eqb p s e)

  left_apart : (p ≡ s → ⊥) → left p s ≡ distance p s
  unfolding left
  left_apart e = rw (ne_eqb p s e)

  left_positive : 0 < left p s
  left_positive = go (eqb p s) refl
    where
      go : (t : Bool) → eqb p s ≡ t → 0 < left p s
      go true e = omega (arith, left_same (eqb-true p s e))
      go false e = omega (arith, left_apart (eqb-false p s e), eqb-false p s e)

  left_bound : left p s ≤ 2 + distance p s
  left_bound = go (eqb p s) refl
    where
      go : (t : Bool) → eqb p s ≡ t → left p s ≤ 2 + distance p s
      go true e = omega (arith, left_same (eqb-true p s e))
      go false e = omega (arith, left_apart (eqb-false p s e))

  -- the difference after a pass is the larger of 1 and the difference div g
  pass_distance : (g : ℕ) → 1 < g → 0 < p + s → distance p (pass g p s) ≡ max 1 (distance p s / g)
  unfolding pass
  pass_distance g h z = go (leb s p) refl
    where
      q : distance p s / g ≤ distance p s
      q = div-le_self (distance p s) g

      go : (t : Bool) → leb s p ≡ t → distance p (pick t (p - max 1 (distance p s / g)) (p + max 1 (distance p s / g))) ≡ max 1 (distance p s / g)
      go true e = omega (arith, leb-true s p e, q)
      go false e = omega (arith, leb-false s p e, q)

pass_falls : (p s : ℕ) → 1 < gcd_or_one p s → left p (pass (gcd_or_one p s) p s) < left p s
pass_falls p s h = go (eqb p s) refl
  where
    w : distance p (pass (gcd_or_one p s) p s) ≡ max 1 (distance p s / gcd_or_one p s)
    w = pass_distance p s (gcd_or_one p s) h (some_above p s h)

    m : left p (pass (gcd_or_one p s) p s) ≡ max 1 (distance p s / gcd_or_one p s)
    m = left_apart p (pass (gcd_or_one p s) p s) (omega (arith, w)) ∙ w

    go : (t : Bool) → eqb p s ≡ t → left p (pass (gcd_or_one p s) p s) < left p s
    go true e =
        omega (arith, m, left_same p s (eqb-true p s e), eqb-true p s e, div-le_self (distance p s) (gcd_or_one p s))
    go false e =
        let d : 1 < distance p s = omega (arith, eqb-false p s e, one_apart p s h) in
        omega (arith, m, left_apart p s (eqb-false p s e), div-lt_self (le_of_lt d) h)

-- ---- the passes without their bound

passes_step : (k p s : ℕ) → passes (suc k) p s ≡ pick (leb (gcd_or_one p s) 1) s (passes k p (pass (gcd_or_one p s) p s))
unfolding passes
passes_step k p s = go (leb (gcd_or_one p s) 1)
  where
    go : (t : Bool) → (elim t [ true ↦ s | false ↦ passes k p (pass (gcd_or_one p s) p s) ]) ≡ pick t s (passes k p (pass (gcd_or_one p s) p s))
    go true = refl
    go false = refl

passes_enough : (k l p s : ℕ) → left p s ≤ k → left p s ≤ l → passes k p s ≡ passes l p s
passes_enough zero l p s h h' = absurd (let z : ⊥ = omega (arith, left_positive p s) in z)
passes_enough (suc k) zero p s h h' = absurd (let z : ⊥ = omega (arith, left_positive p s) in z)
passes_enough (suc k) (suc l) p s h h' =
    passes_step k p s
    ∙ go (leb (gcd_or_one p s) 1) refl
    (λ f. passes_enough k l p (pass (gcd_or_one p s) p s) (omega (arith, pass_falls p s f)) (omega (arith, pass_falls p s f)))
    ∙ sym (passes_step l p s)
  where
    go : (t : Bool) → leb (gcd_or_one p s) 1 ≡ t
        → (1 < gcd_or_one p s → passes k p (pass (gcd_or_one p s) p s) ≡ passes l p (pass (gcd_or_one p s) p s))
        → pick t s (passes k p (pass (gcd_or_one p s) p s)) ≡ pick t s (passes l p (pass (gcd_or_one p s) p s))
    go true e ih = refl
    go false e ih = ih (leb-false (gcd_or_one p s) 1 e)

module _ (p s : ℕ) where
  coprime_opened : coprime_step p s ≡ pick (leb (gcd_or_one p s) 1) s (passes (2 + distance p s) p (pass (gcd_or_one p s) p s))
  unfolding coprime_step
  coprime_opened =
      passes_enough (2 + distance p s) (suc (2 + distance p s)) p s (left_bound p s) (omega (arith, left_bound p s))
      ∙ passes_step (2 + distance p s) p s

  -- the end, and one more pass, by what the code tests
  pub coprime_end : gcd_or_one p s ≤ 1 → s ≡ coprime_step p s
  coprime_end h = sym (coprime_opened ∙ rw (le-leb (gcd_or_one p s) 1 h))

  coprime_more : 1 < gcd_or_one p s → coprime_step p (pass (gcd_or_one p s) p s) ≡ coprime_step p s
  unfolding coprime_step
  coprime_more h =
      passes_enough _ (2 + distance p s) p (pass (gcd_or_one p s) p s)
      (left_bound p (pass (gcd_or_one p s) p s))
      (omega (arith, pass_falls p s h, left_bound p s))
      ∙ sym (coprime_opened ∙ rw (lt-leb (gcd_or_one p s) 1 h))

-- the same at the numbers of the code: g is the divisor, and r what a pass gives
module _ (p s g r : ℕ) (h : 1 < g) (e : g ≡ gcd_or_one p s) (f : r ≡ pass g p s) where
  pub code_falls : left p r < left p s
  code_falls = rw (f, e) (pass_falls p s (omega arith))

  pub code_more : coprime_step p r ≡ coprime_step p s
  code_more = rw (f, e) (coprime_more p s (omega arith))

-- ---- and they end with coprime steps

ends_within : (k p s : ℕ) → left p s ≤ k → gcd_or_one p (passes k p s) ≤ 1
ends_within zero p s h = absurd (let z : ⊥ = omega (arith, left_positive p s) in z)
ends_within (suc k) p s h =
    rw passes_step
    (go (leb (gcd_or_one p s) 1) refl (λ f. ends_within k p (pass (gcd_or_one p s) p s) (omega (arith, pass_falls p s f))))
  where
    go : (t : Bool) → leb (gcd_or_one p s) 1 ≡ t → (1 < gcd_or_one p s → gcd_or_one p (passes k p (pass (gcd_or_one p s) p s)) ≤ 1)
        → gcd_or_one p (pick t s (passes k p (pass (gcd_or_one p s) p s))) ≤ 1
    go true e ih = leb-true (gcd_or_one p s) 1 e
    go false e ih = ih (leb-false (gcd_or_one p s) 1 e)

pub coprime_ends : (p s : ℕ) → gcd_or_one p (coprime_step p s) ≡ 1
unfolding coprime_step
coprime_ends p s =
    omega (arith, ends_within (2 + distance p s) p s (left_bound p s), gcd_or_one_positive p (passes (2 + distance p s) p s))
