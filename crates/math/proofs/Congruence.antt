-- Congruence of naturals, as an equation of remainders. `of_cong` and `to_cong` cross to equations that `omega` reads.
use Prim.Native.Nat.{ℕ, zero, ◌+◌, ◌*◌, ◌-◌, ◌/◌, ◌%◌, ◌≤◌, ◌<◌}
use mathlib.Core.Path.{◌≡◌, sym, ap, ap₂, ◌∙◌}
use native.Mathlib.Nat.{mod-lt, div-add-mod', add-mul-mod_self_right, mul-add, mul_assoc}
use native.Mathlib.Omega.{arith}
use lib.Arith.{digits_div, digits_mod, mod-mul}

-- a remainder, as an upper bound that a subtraction asks for
pub mod_room : (a d : ℕ) → zero < d → a % d ≤ d - 1
mod_room a d h = omega (arith, mod-lt a h)

pub of_cong : (d a b u v : ℕ) → a + u * d ≡ b + v * d → a % d ≡ b % d
of_cong d a b u v e = sym (add-mul-mod_self_right a u d) ∙ ap (λ (x : ℕ). x % d) e ∙ add-mul-mod_self_right b v d

pub to_cong : (d a b : ℕ) → a % d ≡ b % d → a + b / d * d ≡ b + a / d * d
to_cong d a b e = omega (arith, div-add-mod' a d, div-add-mod' b d)

pub add_cong : (d c a b : ℕ) → a % d ≡ b % d → (a + c) % d ≡ (b + c) % d
add_cong d c a b e = of_cong d (a + c) (b + c) (b / d) (a / d) (omega (arith, to_cong d a b e))

pub add_cancel : (d c a b : ℕ) → (a + c) % d ≡ (b + c) % d → a % d ≡ b % d
add_cancel d c a b e = of_cong d a b ((b + c) / d) ((a + c) / d) (omega (arith, to_cong d (a + c) (b + c) e))

pub mul_cong : (d c a b : ℕ) → a % d ≡ b % d → (c * a) % d ≡ (c * b) % d
mul_cong d c a b e =
    of_cong d (c * a) (c * b) (c * (b / d)) (c * (a / d))
    (simp (mul_assoc, ← mul-add) (ap (λ (x : ℕ). c * x) (to_cong d a b e)))

-- a number of two digits, the low one to the base n and the high one to the base R
pub two_digits : (R n A s : ℕ) → zero < R → s < n → (A * n + s) % (R * n) ≡ A % R * n + s
two_digits R n A s hR hs =
    mod-mul (A * n + s) hR (omega arith)
    ∙ ap₂ (λ (x y : ℕ). x % R * n + y) (digits_div A hs) (digits_mod A hs)

pub two_digits_agree : (R n A B s t : ℕ) → zero < R → s < n → t < n → (A * n + s) % (R * n) ≡ (B * n + t) % (R * n) → (A % R ≡ B % R) × (s ≡ t)
two_digits_agree R n A B s t hR hs ht e =
    let h : A % R * n + s ≡ B % R * n + t = sym (two_digits R n A s hR hs) ∙ e ∙ two_digits R n B t hR ht in (
      sym (digits_div (A % R) hs) ∙ ap (λ (x : ℕ). x / n) h ∙ digits_div (B % R) ht,
      sym (digits_mod (A % R) hs) ∙ ap (λ (x : ℕ). x % n) h ∙ digits_mod (B % R) ht,
    )
