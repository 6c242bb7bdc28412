-- A sum over all turns is the sum over all places: turning by a step that has a partner visits each place once.
-- The sum over places that a turn picks is written as a double sum of which each row and each column has one entry.
use Prim.Native.Nat.{ℕ, zero, suc, ◌+◌, ◌*◌, ◌-◌, ◌%◌, ◌≤◌, ◌<◌}
use mathlib.Core.Path.{◌≡◌, refl, sym, ap, ap₂, ◌∙◌}
use mathlib.Core.Bool.{Bool, true, false}
use mathlib.Core.Logic.{◌⊎◌, inl, inr}
use lib.Dec.{eqb}
use borrow.Author.Tests.{eq-eqb, ne_eqb, eqb-true, eqb-false}
use native.Mathlib.Nat.{eq-or-lt_of_le, mod-lt, mod-mod, mod-eq_of_lt, mul_assoc, mul_comm, mul-one, add-zero, zero-add, add-mul-mod_self_right, add_comm}
use native.Mathlib.Omega.{arith}
use Rattle.answer.specs.Choice.{pick}
use Rattle.math.proofs.Congruence.{add_cong, mul_cong}

-- f 0 + .. + f (k − 1)
unfoldable pub sum : (ℕ → ℕ) → ℕ → ℕ
sum f zero = 0
sum f (suc k) = sum f k + f k

pub sum_same : (f g : ℕ → ℕ) (k : ℕ) → ((i : ℕ) → i < k → f i ≡ g i) → sum f k ≡ sum g k
unfolding sum
sum_same f g zero h = refl
sum_same f g (suc k) h = ap₂ (λ (x y : ℕ). x + y) (sum_same f g k (λ i l. h i (omega arith))) (h k (omega arith))

sum_none : (k : ℕ) → sum (λ (i : ℕ). 0) k ≡ 0
unfolding sum
sum_none zero = refl
sum_none (suc k) = omega (arith, sum_none k)

sum_add : (f g : ℕ → ℕ) (k : ℕ) → sum (λ (i : ℕ). f i + g i) k ≡ sum f k + sum g k
unfolding sum
sum_add f g zero = refl
sum_add f g (suc k) = omega (arith, sum_add f g k)

-- rows first, or columns first
sum_exchange : (f : ℕ → ℕ → ℕ) (m k : ℕ) → sum (λ (i : ℕ). sum (f i) k) m ≡ sum (λ (j : ℕ). sum (λ (i : ℕ). f i j) m) k
unfolding sum
sum_exchange f zero k = sym (sum_none k)
sum_exchange f (suc m) k =
    ap (λ (x : ℕ). x + sum (f m) k) (sum_exchange f m k)
    ∙ sym (sum_add (λ (j : ℕ). sum (λ (i : ℕ). f i j) m) (f m) k)

-- one entry at e, and nothing elsewhere
abbrev entry : ℕ → (ℕ → ℕ) → ℕ → ℕ
entry e h i = pick (eqb i e) (h i) 0

no_entry : (e : ℕ) (h : ℕ → ℕ) (k : ℕ) → k ≤ e → sum (entry e h) k ≡ 0
unfolding sum
no_entry e h zero l = refl
no_entry e h (suc k) l = rw (no_entry e h k (omega arith), ne_eqb k e (λ q. let z : ⊥ = omega arith in z))

one_entry : (e : ℕ) (h : ℕ → ℕ) (k : ℕ) → e < k → sum (entry e h) k ≡ h e
unfolding sum
one_entry e h zero l = absurd (let z : ⊥ = omega arith in z)
one_entry e h (suc k) l = by (λ q. one_entry e h k q) (eq-or-lt_of_le (let q : e ≤ k = omega arith in q))
  where
    by : (e < k → sum (entry e h) k ≡ h e) → (e ≡ k) ⊎ (e < k) → sum (entry e h) k + entry e h k ≡ h e
    by before (inl q) = rw (no_entry e h k (omega (arith, q)), eq-eqb k e (sym q)) (zero-add (h k) ∙ ap h (sym q))
    by before (inr q) = rw (before q, ne_eqb k e (λ z. let n : ⊥ = omega (arith, z, q) in n)) (add-zero (h e))

-- a map below R with an inverse on both sides
pub record Turned (R : ℕ) (π σ : ℕ → ℕ) : Type 0 where
  pub there : (t : ℕ) → t < R → π t < R
  pub back : (d : ℕ) → d < R → σ d < R
  pub left : (t : ℕ) → t < R → σ (π t) ≡ t
  pub right : (d : ℕ) → d < R → π (σ d) ≡ d

module _ (R : ℕ) (π σ : ℕ → ℕ) (w : Turned R π σ) (h : ℕ → ℕ) where
  -- turn t picks d exactly where t is d's turn
  same_entry : (t d : ℕ) → t < R → d < R → eqb d (π t) ≡ eqb t (σ d)
  same_entry t d lt ld = by (eqb d (π t)) refl
    where
      by : (b : Bool) → eqb d (π t) ≡ b → b ≡ eqb t (σ d)
      by true q = sym (eq-eqb t (σ d) (sym (ap σ (eqb-true d (π t) q) ∙ w.left t lt)))
      by false q = sym (ne_eqb t (σ d) (λ e. eqb-false d (π t) q (sym (ap π e ∙ w.right d ld))))

  pub turned_sum : sum (λ (t : ℕ). h (π t)) R ≡ sum h R
  turned_sum =
      sum_same (λ (t : ℕ). h (π t)) (λ (t : ℕ). sum (entry (π t) h) R) R (λ t l. sym (one_entry (π t) h R (w.there t l)))
      ∙ sum_exchange (λ (t d : ℕ). entry (π t) h d) R R
      ∙ sum_same (λ (d : ℕ). sum (λ (t : ℕ). entry (π t) h d) R) h R
      (λ d l.
      sum_same (λ (t : ℕ). entry (π t) h d) (entry (σ d) (λ (t : ℕ). h d)) R (λ t k. ap (λ (b : Bool). pick b (h d) 0) (same_entry t d k l))
      ∙ one_entry (σ d) (λ (t : ℕ). h d) R (w.back d l))

-- ---- turning by x from a start, where x has a partner

module _ (R x y start : ℕ) (some : 0 < R) (one : x * y % R ≡ 1 % R) (inside : start < R) where
  -- the place of turn t
  abbrev pub place_of : ℕ → ℕ
  place_of t = (start + x * t % R) % R

  -- the turn of place d
  abbrev pub turn_of : ℕ → ℕ
  turn_of d = y * (d + (R - start)) % R

  undone : (a : ℕ) → y * (x * a) % R ≡ a % R
  undone a =
      ap (λ (z : ℕ). z % R) (sym (mul_assoc y x a) ∙ ap (λ (z : ℕ). z * a) (mul_comm y x) ∙ mul_comm (x * y) a)
      ∙ mul_cong R a (x * y) 1 one
      ∙ ap (λ (z : ℕ). z % R) (mul-one a)

  redone : (a : ℕ) → x * (y * a) % R ≡ a % R
  redone a =
      ap (λ (z : ℕ). z % R) (sym (mul_assoc x y a) ∙ mul_comm (x * y) a)
      ∙ mul_cong R a (x * y) 1 one
      ∙ ap (λ (z : ℕ). z % R) (mul-one a)

  -- from the start and back to it is a whole round
  whole_round : (a : ℕ) → (start + a + (R - start)) % R ≡ a % R
  whole_round a =
      ap (λ (z : ℕ). z % R) (let q : start + a + (R - start) ≡ a + 1 * R = omega arith in q) ∙ add-mul-mod_self_right a 1 R

  from_place : (t : ℕ) → t < R → turn_of (place_of t) ≡ t
  from_place t l =
      mul_cong R y (place_of t + (R - start)) (x * t)
      (add_cong R (R - start) (place_of t) (start + x * t % R) (mod-mod (start + x * t % R) R)
      ∙ whole_round (x * t % R)
      ∙ mod-mod (x * t) R)
      ∙ undone t
      ∙ mod-eq_of_lt l

  from_turn : (d : ℕ) → d < R → place_of (turn_of d) ≡ d
  from_turn d l =
      let a = d + (R - start) in
      let e : x * turn_of d % R % R ≡ a % R = mod-mod (x * turn_of d) R ∙ mul_cong R x (turn_of d) (y * a) (mod-mod (y * a) R) ∙ redone a in
      ap (λ (z : ℕ). z % R) (add_comm start (x * turn_of d % R))
      ∙ add_cong R start (x * turn_of d % R) a e
      ∙ ap (λ (z : ℕ). z % R) (let q : a + start ≡ start + d + (R - start) = omega arith in q)
      ∙ whole_round d
      ∙ mod-eq_of_lt l

  pub turned : Turned R place_of turn_of
  turned =
      record {
        there = λ t l. mod-lt (start + x * t % R) some;
        back = λ d l. mod-lt (y * (d + (R - start))) some;
        left = from_place;
        right = from_turn;
      }
