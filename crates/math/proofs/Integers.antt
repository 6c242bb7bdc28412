-- Integers as differences of naturals: `Rep z a b` says that z is a − b. It turns each fact on integers into one on naturals.
use Prim.Native.Nat.{ℕ, zero, suc, ◌+◌, ◌*◌, ◌-◌, ◌≤◌, ◌<◌}
use mathlib.Core.Path.{◌≡◌, refl, sym, ap, ◌∙◌}
use mathlib.Core.Bool.{Bool, true, false, not, cond}
use lib.Dec.{T, ltb, ltb→lt, nltb→le}
use lib.IntN.{ℤ, pos, negsuc, neg_ℤ, nat_abs, sub_ℕ, ◌+ℤ◌, ◌-ℤ◌, ◌*ℤ◌}
use native.Mathlib.Nat.{mul-add, mul-zero}
use native.Mathlib.Omega.{arith}

-- an integer's part above 0 and below 0
abbrev pub up : ℤ → ℕ
up (pos n) = n
up (negsuc n) = zero

abbrev pub down : ℤ → ℕ
down (pos n) = zero
down (negsuc n) = suc n

pub record Rep (z : ℤ) (a b : ℕ) : Type 0 where
  pub eq : up z + b ≡ a + down z

pub rep_self : (z : ℤ) → Rep z (up z) (down z)
rep_self z = record { eq = refl }

pub rep_pos : (n : ℕ) → Rep (pos n) n zero
rep_pos n = record { eq = refl }

pub rep_sub : (a b : ℕ) → Rep (sub_ℕ a b) a b
rep_sub a b = go (ltb a b) (λ t. ltb→lt a b t) (λ t. nltb→le a b t)
  where
    go : (c : Bool) → (T c → a < b) → (T (not c) → b ≤ a) → Rep (cond c (negsuc (b - suc a)) (pos (a - b))) a b
    go true h k = let l : a < b = h tt in record { eq = omega arith }
    go false h k = let l : b ≤ a = k tt in record { eq = omega arith }

pub rep_neg : {z : ℤ} {a b : ℕ} → Rep z a b → Rep (neg_ℤ z) b a
rep_neg {z = pos zero} h = record { eq = omega (arith, h.eq) }
rep_neg {z = pos (suc n)} h = record { eq = omega (arith, h.eq) }
rep_neg {z = negsuc n} h = record { eq = omega (arith, h.eq) }

pub rep_add : {x y : ℤ} {a b c d : ℕ} → Rep x a b → Rep y c d → Rep (x +ℤ y) (a + c) (b + d)
rep_add {x = pos m} {y = pos n} h k = record { eq = omega (arith, h.eq, k.eq) }
rep_add {x = pos m} {y = negsuc n} h k = record { eq = omega (arith, h.eq, k.eq, (rep_sub m (suc n)).eq) }
rep_add {x = negsuc m} {y = pos n} h k = record { eq = omega (arith, h.eq, k.eq, (rep_sub n (suc m)).eq) }
rep_add {x = negsuc m} {y = negsuc n} h k = record { eq = omega (arith, h.eq, k.eq) }

pub rep_minus : {x y : ℤ} {a b c d : ℕ} → Rep x a b → Rep y c d → Rep (x -ℤ y) (a + d) (b + c)
rep_minus h k = rep_add h (rep_neg k)

-- times a natural
pub rep_mul : (g : ℕ) {z : ℤ} {a b : ℕ} → Rep z a b → Rep (pos g *ℤ z) (g * a) (g * b)
rep_mul g {z = pos n} {a} {b} h =
    record {
      eq =
          sym (mul-add g n b) ∙ ap (λ (x : ℕ). g * x) h.eq ∙ mul-add g a zero ∙ ap (λ (x : ℕ). g * a + x) (mul-zero g);
    }
rep_mul g {z = negsuc n} {a} {b} h =
    let e : g * b ≡ g * a + g * suc n
    = ap (λ (x : ℕ). g * x) (let e' : b ≡ a + suc n = omega (arith, h.eq) in e') ∙ mul-add g a (suc n) in
    record { eq = omega (arith, e, (rep_neg (rep_pos (g * suc n))).eq) }

-- two integers with one difference are one
pub rep_agree : {x y : ℤ} {a b c d : ℕ} → Rep x a b → Rep y c d → a + d ≡ c + b → x ≡ y
rep_agree {x = pos m} {y = pos n} h k e = ap pos (omega (arith, h.eq, k.eq))
rep_agree {x = pos m} {y = negsuc n} h k e = absurd (let z : ⊥ = omega (arith, h.eq, k.eq) in z)
rep_agree {x = negsuc m} {y = pos n} h k e = absurd (let z : ⊥ = omega (arith, h.eq, k.eq) in z)
rep_agree {x = negsuc m} {y = negsuc n} h k e = ap negsuc (omega (arith, h.eq, k.eq))

-- one integer has one difference
pub rep_same : {z : ℤ} {a b c d : ℕ} → Rep z a b → Rep z c d → a + d ≡ c + b
rep_same h k = omega (arith, h.eq, k.eq)

-- a difference is at most the sum
pub abs_rep : {z : ℤ} {a b : ℕ} → Rep z a b → nat_abs z ≤ a + b
abs_rep {z = pos n} r = omega (arith, r.eq)
abs_rep {z = negsuc n} r = omega (arith, r.eq)
