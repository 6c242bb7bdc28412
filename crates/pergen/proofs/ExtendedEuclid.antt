-- The extended Euclid on the sizes of its coefficients, whose signs alternate: what holds at each turn, and what its end gives.
use Prim.Native.Nat.{ℕ, zero, suc, ◌+◌, ◌*◌, ◌-◌, ◌/◌, ◌≤◌, ◌<◌, ◌%◌}
use mathlib.Core.Path.{◌≡◌, refl, sym, ap, ap₂, ◌∙◌, subst}
use mathlib.Core.Bool.{Bool, true, false, not}
use native.Mathlib.Nat.{div-eq_of_lt, mod-le, mod_self, zero-mod, zero-mul, one-mul, mul-zero, mul_comm, mul_assoc, mul-add, add-mul, div-add-mod', le-mul_of_pos_right, mul-le-mul_right, add-mul-mod_self_right, mod-eq_of_lt, mul-div_cancel}
use native.Mathlib.Omega.{arith}
use Rattle.answer.specs.Choice.{pick}
use Rattle.math.specs.Gcd.{gcd}
use Rattle.math.proofs.Congruence.{add_cong, add_cancel, mul_cong}
use Rattle.math.proofs.Gcd.{gcd_zero, gcd_step}
use Rattle.pergen.specs.Pergen.{cycles, reduced}
use Rattle.pergen.specs.Parts.{Leaves, Going, BezoutOf, forward, solved_of}
use Rattle.pergen.specs.declared.euclid.Bezout.{Bezout}
use Rattle.pergen.specs.declared.euclid.Solved.{Solved}
use Rattle.pergen.proofs.Inverse.{numbers, cycles_positive, inverse_is}

-- ---- one step, modulo p: r₀ is r₂ and q times r₁

module _ (p g q r₀ r₁ r₂ c₀ c₁ : ℕ) (split : q * r₁ + r₂ ≡ r₀) where
  spread : (c₀ + q * c₁) * g ≡ c₀ * g + q * (c₁ * g)
  spread = add-mul c₀ (q * c₁) g ∙ ap (λ (z : ℕ). c₀ * g + z) (mul_assoc q c₁ g)

  -- the older coefficient counts backward and the newer forward: the next one counts backward
  pub next_backward : (c₀ * g + r₀) % p ≡ 0 → c₁ * g % p ≡ r₁ % p → ((c₀ + q * c₁) * g + r₂) % p ≡ 0
  next_backward h₀ h₁ =
      ap (λ (z : ℕ). z % p) (let e : (c₀ + q * c₁) * g + r₂ ≡ q * (c₁ * g) + (c₀ * g + r₂) = omega (arith, spread) in e)
      ∙ add_cong p (c₀ * g + r₂) (q * (c₁ * g)) (q * r₁) (mul_cong p q (c₁ * g) r₁ h₁)
      ∙ ap (λ (z : ℕ). z % p) (let e : q * r₁ + (c₀ * g + r₂) ≡ c₀ * g + r₀ = omega (arith, split) in e)
      ∙ h₀

  pub next_forward : c₀ * g % p ≡ r₀ % p → (c₁ * g + r₁) % p ≡ 0 → (c₀ + q * c₁) * g % p ≡ r₂ % p
  next_forward h₀ h₁ =
      add_cancel p (q * r₁) ((c₀ + q * c₁) * g) r₂
      (ap (λ (z : ℕ). z % p) (let e : (c₀ + q * c₁) * g + q * r₁ ≡ q * (c₁ * g + r₁) + c₀ * g = omega (arith, spread, mul-add q (c₁ * g) r₁) in e)
      ∙ add_cong p (c₀ * g) (q * (c₁ * g + r₁)) (q * 0) (mul_cong p q (c₁ * g + r₁) 0 (h₁ ∙ sym (zero-mod p)))
      ∙ ap (λ (z : ℕ). z % p) (let e : q * 0 + c₀ * g ≡ c₀ * g = omega (arith, mul-zero q) in e)
      ∙ h₀
      ∙ ap (λ (z : ℕ). z % p) (let e : r₀ ≡ r₂ + q * r₁ = omega (arith, split) in e))

  pub next_whole : c₁ * r₀ + c₀ * r₁ ≡ p → (c₀ + q * c₁) * r₁ + c₁ * r₂ ≡ p
  next_whole h =
      omega (
        arith,
        h,
        add-mul c₀ (q * c₁) r₁,
        ap (λ (z : ℕ). c₁ * z) split,
        mul-add c₁ (q * r₁) r₂,
        ap (λ (z : ℕ). z * r₁) (mul_comm q c₁) ∙ mul_assoc c₁ q r₁,
      )

-- ---- all turns

pub start : (p g : ℕ) → 0 < p → p ≤ 65535 → g ≤ 65535 → Going p g p g 0 1 true
start p g h hp hg =
    record {
      same = refl;
      some₀ = h;
      small₀ = hp;
      small₁ = hg;
      whole = omega (arith, one-mul p, zero-mul g);
      ordered = λ e. omega arith;
      left₀ = ap (λ (z : ℕ). (z + p) % p) (zero-mul g) ∙ ap (λ (z : ℕ). z % p) (let e : 0 + p ≡ p = omega arith in e) ∙ mod_self p;
      left₁ = ap (λ (z : ℕ). z % p) (one-mul g);
    }

-- a whole that is divided has a quotient
some_turns : (r₀ r₁ : ℕ) → 0 < r₀ → r₀ % r₁ ≡ 0 → 0 < r₀ / r₁
some_turns r₀ r₁ h e = go (r₀ / r₁) (div-add-mod' r₀ r₁)
  where
    go : (q : ℕ) → q * r₁ + r₀ % r₁ ≡ r₀ → 0 < q
    go zero k = absurd (let z : ⊥ = omega (arith, k, e, zero-mul r₁) in z)
    go (suc q) k = omega arith

module _ (p g r₀ r₁ c₀ c₁ : ℕ) (negative : Bool) (s : Going p g r₀ r₁ c₀ c₁ negative) where
  module _ (some : 0 < r₁) where
    next : ℕ
    next = c₀ + r₀ / r₁ * c₁

    next_is_whole : next * r₁ + c₁ * (r₀ % r₁) ≡ p
    unfolding next
    next_is_whole = next_whole p g (r₀ / r₁) r₀ r₁ (r₀ % r₁) c₀ c₁ (div-add-mod' r₀ r₁) s.whole

    -- the next coefficient is at most the period
    pub next_small : c₀ + r₀ / r₁ * c₁ ≤ p
    unfolding next
    next_small = omega (arith, next_is_whole, le-mul_of_pos_right (c₀ + r₀ / r₁ * c₁) some)

    next_leaves : (b : Bool) → Leaves p g r₀ c₀ b → Leaves p g r₁ c₁ (not b) → Leaves p g (r₀ % r₁) (c₀ + r₀ / r₁ * c₁) (not (not b))
    next_leaves true h₀ h₁ = next_backward p g (r₀ / r₁) r₀ r₁ (r₀ % r₁) c₀ c₁ (div-add-mod' r₀ r₁) h₀ h₁
    next_leaves false h₀ h₁ = next_forward p g (r₀ / r₁) r₀ r₁ (r₀ % r₁) c₀ c₁ (div-add-mod' r₀ r₁) h₀ h₁

    pub step : Going p g r₁ (r₀ % r₁) c₁ (c₀ + r₀ / r₁ * c₁) (not negative)
    unfolding next
    step =
        record {
          same = sym (gcd_step r₀ r₁ some) ∙ s.same;
          some₀ = some;
          small₀ = s.small₁;
          small₁ = omega (arith, mod-le r₀ r₁, s.small₀);
          whole = next_is_whole;
          ordered = λ e. omega (arith, mul-le-mul_right c₁ (some_turns r₀ r₁ s.some₀ e), one-mul c₁);
          left₀ = s.left₁;
          left₁ = next_leaves negative s.left₀ s.left₁;
        }

  -- a turn that divides the smaller by the larger exchanges them
  pub exchanged : r₀ < r₁ → Going p g r₁ r₀ c₁ c₀ (not negative)
  exchanged h =
      let none : c₀ + r₀ / r₁ * c₁ ≡ c₀ = omega (arith, ap (λ (q : ℕ). q * c₁) (div-eq_of_lt h), zero-mul c₁) in
      subst (λ (r : ℕ). Going p g r₁ r c₁ c₀ (not negative)) (mod-eq_of_lt h)
      (subst (λ (c : ℕ). Going p g r₁ (r₀ % r₁) c₁ c (not negative)) none (step (omega (arith, h))))

  module _ (none : r₁ ≡ 0) where
    last_whole : c₁ * r₀ ≡ p
    last_whole = omega (arith, s.whole, ap (λ (z : ℕ). c₀ * z) none, mul-zero c₀)

    pub last_small : c₁ ≤ p
    last_small = omega (arith, last_whole, le-mul_of_pos_right c₁ s.some₀)

    abbrev found : Bezout
    found = record { gcd = r₀; cofactor = c₁; coefficient = c₀; negative = negative }

    divisor : r₀ ≡ gcd p g
    divisor = sym (gcd_zero r₀) ∙ ap (λ (x : ℕ). gcd r₀ x) (sym none) ∙ s.same

    pub done : BezoutOf p g found
    done =
        record {
          gcd_is = divisor;
          cofactor_is = last_whole;
          small = s.ordered none;
          forward_is = λ e. subst (λ (b : Bool). Leaves p g r₀ c₀ b) e s.left₀ ∙ ap (λ (x : ℕ). x % p) divisor;
          backward_is = λ e. ap (λ (x : ℕ). (c₀ * g + x) % p) (sym divisor) ∙ subst (λ (b : Bool). Leaves p g r₀ c₀ b) e s.left₀;
        }

-- ---- `solve`, from what was found

module _ (P G : ℕ) (hP : 0 < P) (b : Bezout) (f : BezoutOf P G b) where
  divisor_is : b.gcd ≡ cycles P G
  unfolding cycles
  divisor_is = f.gcd_is

  cofactor_reduced : b.cofactor ≡ reduced P G
  unfolding reduced cycles
  cofactor_reduced =
      sym (mul-div_cancel b.cofactor (subst (λ (z : ℕ). 0 < z) (sym divisor_is) (cycles_positive P G hP)))
      ∙ ap₂ (λ (x y : ℕ). x / y) f.cofactor_is f.gcd_is

  -- as many generators forward as the reduced period make a multiple of the period
  whole_turn : reduced P G * G % P ≡ 0
  whole_turn =
      let k = numbers P G hP in
      ap (λ (z : ℕ). z % P)
      (ap (λ (z : ℕ). reduced P G * z) (k.generator ∙ mul_comm (G / cycles P G) (cycles P G))
      ∙ sym (mul_assoc (reduced P G) (cycles P G) (G / cycles P G))
      ∙ ap (λ (z : ℕ). z * (G / cycles P G)) (sym k.period)
      ∙ mul_comm P (G / cycles P G))
      ∙ ap (λ (z : ℕ). z % P) (let e : (G / cycles P G) * P ≡ 0 + (G / cycles P G) * P = omega arith in e)
      ∙ add-mul-mod_self_right 0 (G / cycles P G) P
      ∙ zero-mod P

  -- both ways of counting leave the cycles
  turned : (t : Bool) → b.negative ≡ t → pick t (b.cofactor - b.coefficient) b.coefficient * G % P ≡ cycles P G % P
  unfolding cycles
  turned false e = f.forward_is e
  turned true e =
      let c = b.coefficient in
      let rest = b.cofactor - b.coefficient in
      let n = gcd P G in
      add_cancel P (c * G) (rest * G) n
      (ap (λ (z : ℕ). z % P) (sym (add-mul rest c G) ∙ ap (λ (z : ℕ). z * G) (let q : rest + c ≡ b.cofactor = omega (arith, f.small) in q ∙ cofactor_reduced))
      ∙ whole_turn
      ∙ sym (f.backward_is e)
      ∙ ap (λ (z : ℕ). z % P) (let q : c * G + n ≡ n + c * G = omega arith in q))

  abbrev solved : ℕ → ℕ → ℕ → Solved
  solved n R x = record { num_cycles = n; reduced_period = R; generator_inverse = x }

  pub solve_is : (x : ℕ) → x ≡ forward b % b.cofactor → solved b.gcd b.cofactor x ≡ solved_of P G
  unfolding solved_of
  solve_is x e =
      ap₂ (λ (n R : ℕ). solved n R x) divisor_is cofactor_reduced
      ∙ ap (solved (cycles P G) (reduced P G))
      (e ∙ ap (λ (R : ℕ). forward b % R) cofactor_reduced ∙ inverse_is P G hP (forward b) (turned b.negative refl))
