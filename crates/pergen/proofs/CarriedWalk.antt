-- The walk from key to key: one key on, the cycle goes up by one, or falls to 0 and the degree goes on by the inverse.
use Rattle.std.specs.Prelude.{None, Option, Some}
use Prim.Native.Nat.{ℕ, ◌+◌, ◌*◌, ◌-◌, ◌/◌, ◌%◌, ◌≤◌, ◌<◌}
use lib.Dec.{ltb}
use mathlib.Core.Bool.{Bool, true, false}
use mathlib.Core.Path.{◌≡◌, refl, sym, ap, ap₂, subst, ◌∙◌}
use lib.IntN.{ℤ}
use Rattle.std.specs.Bool.{then_some}
use Rattle.answer.specs.Choice.{pick}
use lib.Arith.{digits_div, digits_mod, digits_lt}
use native.Mathlib.Nat.{mod-lt, mod-add-mod, mod-eq_of_lt, mod-eq-sub-mod, mul-add, mul-one, mul_comm, mul_assoc, zero-mod, mul-zero, div-add-mod', div-lt_iff_lt-mul, mod-mod}
use native.Mathlib.Omega.{arith}
use Rattle.math.specs.Division.{remainder}
use Rattle.math.proofs.Division.{remainder_below}
use Rattle.math.proofs.Congruence.{mul_cong}
use Rattle.pergen.specs.Pergen.{cycles, reduced, inverse, degree, cycle, shown}
use Rattle.pergen.specs.Parts.{solved_of, Walkable, At, generation_from}
use Rattle.pergen.specs.declared.Generation.{Generation}
use Rattle.pergen.specs.declared.euclid.Solved.{Solved}
use Rattle.pergen.specs.declared.stepping.Key.{Key}
use Rattle.pergen.proofs.Inverse.{numbers, cycles_positive, reduced_positive}

-- ---- one key on

module _ (n k : ℕ) (some : 0 < n) where
  high : k ≡ k / n * n + k % n
  high = sym (div-add-mod' k n)

  pub stay_high : k % n + 1 < n → (k + 1) / n ≡ k / n
  stay_high h = ap (λ (x : ℕ). x / n) (omega (arith, high)) ∙ digits_div (k / n) h

  pub stay_low : k % n + 1 < n → (k + 1) % n ≡ k % n + 1
  stay_low h = ap (λ (x : ℕ). x % n) (omega (arith, high)) ∙ digits_mod (k / n) h

  carried : n ≤ k % n + 1 → k + 1 ≡ (k / n + 1) * n + 0
  carried h = omega (arith, high, mod-lt k some, mul_comm (k / n + 1) n, mul-add n (k / n) 1, mul_comm n (k / n), mul-one n)

  pub carry_high : n ≤ k % n + 1 → (k + 1) / n ≡ k / n + 1
  carry_high h = ap (λ (x : ℕ). x / n) (carried h) ∙ digits_div (k / n + 1) some

  pub carry_low : n ≤ k % n + 1 → (k + 1) % n ≡ 0
  carry_low h = ap (λ (x : ℕ). x % n) (carried h) ∙ digits_mod (k / n + 1) some

-- the degree after the one of q is a step of x on
pub degree_on : (x q R : ℕ) {d : ℕ} → d ≡ x * q % R → (d + x) % R ≡ x * (q + 1) % R
degree_on x q R {d} e =
    ap (λ (y : ℕ). (y + x) % R) e
    ∙ mod-add-mod (x * q) R x
    ∙ ap (λ (y : ℕ). y % R) (sym (mul-add x q 1 ∙ ap (λ (y : ℕ). x * q + y) (mul-one x)))

pub degree_start : (x R : ℕ) → 0 ≡ x * 0 % R
degree_start x R = sym (ap (λ (y : ℕ). y % R) (mul-zero x) ∙ zero-mod R)

-- a remainder of a sum of two numbers below R, by one comparison
pub turn_stays : (d x R : ℕ) → x < R → d < R - x → d + x ≡ (d + x) % R
turn_stays d x R h l = sym (mod-eq_of_lt (omega arith))

pub turn_wraps : (d x R : ℕ) → x < R → d < R → R - x ≤ d → d - (R - x) ≡ (d + x) % R
turn_wraps d x R h b l =
    let q : R ≤ d + x = omega arith in
    let e : d - (R - x) ≡ d + x - R = omega arith in
    e ∙ sym (mod-eq-sub-mod q ∙ mod-eq_of_lt (omega arith))

-- ---- keys

module _ (s : Solved) (w : Walkable s) where
  abbrev n : ℕ
  n = s.num_cycles

  abbrev R : ℕ
  R = s.reduced_period

  abbrev x : ℕ
  x = s.generator_inverse

  -- found by its number
  module _ (i turn : ℕ) (turned : turn ≡ i / n) where
    left_is : i - turn * n ≡ i % n
    left_is =
        let q : i / n * n + i % n ≡ i = div-add-mod' i n in
        ap (λ (y : ℕ). i - y * n) turned ∙ (let z : i - i / n * n ≡ i % n = omega arith in z)

    pub at_found : {within : ℕ} → within ≡ turn % R → At s (record { number = i; degree = x * within % R; cycle = i - turn * n })
    at_found {within} rest =
        record {
          degree_is = mul_cong R x within (i / n)
              (ap (λ (y : ℕ). y % R) rest ∙ mod-mod turn R ∙ ap (λ (y : ℕ). y % R) turned);
          cycle_is = left_is;
        }

    pub turn_fits : turn * n ≤ i
    turn_fits =
        let q : i / n * n + i % n ≡ i = div-add-mod' i n in
        subst (λ (y : ℕ). y * n ≤ i) (sym turned) (let z : i / n * n ≤ i = omega arith in z)

    pub rest_below : i - turn * n < n
    rest_below = subst (λ (y : ℕ). y < n) (sym left_is) (mod-lt i w.some_cycles)

    pub turn_below : i < 2 * (R * n) → turn < 2 * R
    turn_below h =
        subst (λ (y : ℕ). y < 2 * R) (sym turned)
        ((div-lt_iff_lt-mul {k = n} {x = i} {y = 2 * R} w.some_cycles).1 (omega (arith, h, mul_assoc 2 R n)))

  module _ (k : Key) (at : At s k) where
    pub at_degree_below : k.degree < R
    at_degree_below = rw at.degree_is (mod-lt _ (omega (arith, w.below)))

    pub at_cycle_below : k.cycle < n
    at_cycle_below = rw at.cycle_is (mod-lt k.number w.some_cycles)

    pub at_stay : k.cycle + 1 < n → At s (record { number = k.number + 1; degree = k.degree; cycle = k.cycle + 1 })
    at_stay h =
        let l : k.number % n + 1 < n = subst (λ (y : ℕ). y + 1 < n) at.cycle_is h in
        record {
          degree_is = at.degree_is ∙ ap (λ (y : ℕ). x * y % R) (sym (stay_high n k.number w.some_cycles l));
          cycle_is = ap (λ (y : ℕ). y + 1) at.cycle_is ∙ sym (stay_low n k.number w.some_cycles l);
        }

    pub at_carry : n ≤ k.cycle + 1 → {d : ℕ} → d ≡ (k.degree + x) % R → At s (record { number = k.number + 1; degree = d; cycle = 0 })
    at_carry h e =
        let l : n ≤ k.number % n + 1 = subst (λ (y : ℕ). n ≤ y + 1) at.cycle_is h in
        record {
          degree_is = e
              ∙ degree_on x (k.number / n) R at.degree_is
              ∙ ap (λ (y : ℕ). x * y % R) (sym (carry_high n k.number w.some_cycles l));
          cycle_is = sym (carry_low n k.number w.some_cycles l);
        }

-- degree and cycle as names have them
then_picks : (b : Bool) (x : ℕ) → then_some b x ≡ pick b (Some x) None
then_picks true x = refl
then_picks false x = refl

module _ (s : Solved) (k : Key) (at : At s k) where
  abbrev made : Option ℕ → Generation
  made c = record { cycle = c; degree = k.degree }

  pub shown_cycle : (c : Option ℕ) → c ≡ then_some (ltb 1 s.num_cycles) k.cycle → made c ≡ generation_from s k.number
  unfolding generation_from
  shown_cycle c e =
      ap₂ (λ (o : Option ℕ) (d : ℕ). record { cycle = o; degree = d })
      (e ∙ then_picks (ltb 1 s.num_cycles) k.cycle ∙ ap (λ (x : ℕ). shown s.num_cycles x) at.cycle_is)
      at.degree_is

-- ---- of a period and a generator

module _ (P G : ℕ) (hP : 0 < P) (s : Solved) (is : s ≡ solved_of P G) where
  pub walkable : Walkable s
  unfolding solved_of
  walkable = rw is (record { some_cycles = cycles_positive P G hP; below = (numbers P G hP).below })

  -- what a key holds is its number's degree and cycle
  pub at_degree : (k : Key) → At s k → k.degree ≡ degree P G k.number
  unfolding solved_of degree
  at_degree k at =
      at.degree_is ∙ ap (λ (t : Solved). t.generator_inverse * (k.number / t.num_cycles) % t.reduced_period) is

  pub at_cycle : (k : Key) → At s k → k.cycle ≡ cycle P G k.number
  unfolding solved_of cycle
  at_cycle k at = at.cycle_is ∙ ap (λ (t : Solved). k.number % t.num_cycles) is

  -- the period, by what was solved
  pub solved_period : P ≡ s.reduced_period * s.num_cycles
  unfolding solved_of
  solved_period = rw is (numbers P G hP).period

  -- a key that was brought round the period can be found
  pub round_found : (key : ℤ) (i : ℕ) → i ≡ remainder key P → Walkable s × (i < 2 * (s.reduced_period * s.num_cycles))
  round_found key i round =
      let below = remainder_below key P hP in
      (walkable, omega (arith, round, below, solved_period))

-- ---- each degree with each cycle is that of a key of the octave

module _ (P G : ℕ) (hP : 0 < P) (d c : ℕ) (hd : d < reduced P G) (hc : c < cycles P G) where
  -- the key: G / n × degree, as often as there are cycles, and the cycle
  abbrev pub key_with : ℕ
  key_with = G / cycles P G * d % reduced P G * cycles P G + c

  pub key_with_below : key_with < P
  key_with_below =
      subst (λ (x : ℕ). key_with < x) (sym (numbers P G hP).period) (digits_lt (mod-lt _ (reduced_positive P G hP)) hc)

  pub key_with_cycle : cycle P G key_with ≡ c
  unfolding cycle
  key_with_cycle = digits_mod (G / cycles P G * d % reduced P G) hc

  pub key_with_degree : degree P G key_with ≡ d
  unfolding degree
  key_with_degree =
      let R = reduced P G in
      let x = inverse P G in
      let g = G / cycles P G in
      ap (λ (y : ℕ). x * y % R) (digits_div (g * d % R) hc)
      ∙ mul_cong R x (g * d % R) (g * d) (mod-mod (g * d) R)
      ∙ ap (λ (y : ℕ). y % R) (sym (mul_assoc x g d) ∙ mul_comm (x * g) d)
      ∙ mul_cong R d (x * g) 1 (numbers P G hP).one
      ∙ ap (λ (y : ℕ). y % R) (mul-one d)
      ∙ mod-eq_of_lt hd
