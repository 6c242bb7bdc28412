-- The remainder law: both signs by `Rep`, uniqueness by two bounds; and "differ by a multiple" as equal remainders.
use Prim.Native.Nat.{ℕ, zero, suc, ◌+◌, ◌*◌, ◌-◌, ◌/◌, ◌%◌, ◌<◌}
use mathlib.Core.Path.{◌≡◌, sym, ap, subst, ◌∙◌}
use mathlib.Core.Logic.{◌↔◌}
use lib.IntN.{ℤ, pos, negsuc, ◌+ℤ◌, ◌-ℤ◌, ◌*ℤ◌}
use native.Mathlib.Nat.{mul-add, mul_comm, mul-suc, mul-zero, suc-mul, zero-mul, mod-lt, mod-eq_of_lt, mod-mod, div-add-mod'}
use native.Mathlib.Omega.{arith}
use lib.Arith.{digits_div, digits_mod}
use Rattle.math.specs.Division.{quotient, remainder, RemainderLaw, Apart}
use Rattle.math.proofs.Congruence.{of_cong, add_cong, add_cancel}
use Rattle.math.proofs.Integers.{up, down, Rep, rep_self, rep_pos, rep_neg, rep_add, rep_mul, rep_agree}

pub remainder_below : (z : ℤ) (d : ℕ) → zero < d → remainder z d < d
remainder_below (pos a) d h = mod-lt a h
remainder_below (negsuc a) d h = omega (arith, mod-lt a h)

-- of a number that is not negative
pub remainder_cast : (z : ℤ) (a d : ℕ) → z ≡ pos a → a % d ≡ remainder z d
remainder_cast z a d e = ap (λ (y : ℤ). remainder y d) (sym e)

pub remainder_kept : (z : ℤ) (a d : ℕ) → z ≡ pos a → a < d → a ≡ remainder z d
remainder_kept z a d e h = sym (mod-eq_of_lt h) ∙ remainder_cast z a d e

sum_is : (z : ℤ) (d : ℕ) → zero < d → z ≡ pos d *ℤ quotient z d +ℤ pos (remainder z d)
sum_is (pos a) d h = ap pos (sym (ap (λ (x : ℕ). x + a % d) (mul_comm d (a / d)) ∙ div-add-mod' a d))
sum_is (negsuc a) d h =
    rep_agree (rep_self (negsuc a)) (rep_add (rep_mul d (rep_self (negsuc (a / d)))) (rep_pos (d - suc (a % d))))
    (omega (arith, mul-suc d (a / d), mul_comm d (a / d), div-add-mod' a d, mod-lt a h, mul-zero d))

-- the remainder of a − b, as a congruence of naturals
pub remainder_rep : {z : ℤ} {a b : ℕ} (d : ℕ) → zero < d → Rep z a b → (remainder z d + b) % d ≡ a % d
remainder_rep {z = pos n} {a} {b} d h r =
    add_cong d b (n % d) n (mod-mod n d) ∙ ap (λ (x : ℕ). x % d) (omega (arith, r.eq))
remainder_rep {z = negsuc n} {a} {b} d h r =
    of_cong d (d - suc (n % d) + b) a zero (suc (n / d))
    (omega (arith, r.eq, mod-lt n h, div-add-mod' n d, suc-mul (n / d) d, zero-mul d))

-- two remainders are equal exactly where the differences are congruent
pub remainders_agree : {x y : ℤ} {a b c e : ℕ} (d : ℕ) → zero < d → Rep x a b → Rep y c e → (remainder x d ≡ remainder y d) ↔ ((a + e) % d ≡ (c + b) % d)
remainders_agree {x} {y} {a} {b} {c} {e} d h rx ry = (there, back)
  where
    left : (remainder x d + (b + e)) % d ≡ (a + e) % d
    left = ap (λ (z : ℕ). z % d) (omega arith) ∙ add_cong d e (remainder x d + b) a (remainder_rep d h rx)

    right : (remainder y d + (b + e)) % d ≡ (c + b) % d
    right = ap (λ (z : ℕ). z % d) (omega arith) ∙ add_cong d b (remainder y d + e) c (remainder_rep d h ry)

    there : remainder x d ≡ remainder y d → (a + e) % d ≡ (c + b) % d
    there p = sym left ∙ ap (λ (z : ℕ). (z + (b + e)) % d) p ∙ right

    back : (a + e) % d ≡ (c + b) % d → remainder x d ≡ remainder y d
    back p =
        sym (mod-eq_of_lt (remainder_below x d h))
        ∙ add_cancel d (b + e) (remainder x d) (remainder y d) (left ∙ p ∙ sym right)
        ∙ mod-eq_of_lt (remainder_below y d h)

-- ---- differing by a multiple

pub apart→remainder : (d : ℕ) → zero < d → (x y : ℤ) → Apart d x y → remainder x d ≡ remainder y d
apart→remainder d h x y (k, e) =
    ap (λ (z : ℤ). remainder z d) e
    ∙ (remainders_agree d h (rep_add (rep_self y) (rep_mul d (rep_self k))) (rep_self y)).1
    (of_cong d _ _ (down k) (up k) (omega (arith, mul_comm d (up k), mul_comm d (down k))))

pub remainder→apart : (d : ℕ) → zero < d → (x y : ℤ) → remainder x d ≡ remainder y d → Apart d x y
remainder→apart d h x y e = (
  quotient x d -ℤ quotient y d,
  sum_is x d h
      ∙ rep_agree
      (rep_add (rep_mul d (rep_self (quotient x d))) (rep_pos (remainder x d)))
      (rep_add (rep_self y) (rep_mul d (rep_add (rep_self (quotient x d)) (rep_neg (rep_self (quotient y d))))))
      (omega (
        arith,
        (law y).eq,
        mul-add d (down (quotient x d)) (up (quotient y d)),
        mul-add d (up (quotient x d)) (down (quotient y d)),
      )),
)
  where
    law : (z : ℤ) → Rep z (d * up (quotient z d) + remainder z d) (d * down (quotient z d) + zero)
    law z =
        subst (λ (w : ℤ). Rep w (d * up (quotient z d) + remainder z d) (d * down (quotient z d) + zero)) (sym (sum_is z d h))
        (rep_add (rep_mul d (rep_self (quotient z d))) (rep_pos (remainder z d)))

pub apart_iff : (d : ℕ) → zero < d → (x y : ℤ) → (remainder x d ≡ remainder y d) ↔ Apart d x y
apart_iff d h x y = (remainder→apart d h x y, apart→remainder d h x y)

-- ---- no other two numbers

-- d × q + r with r below d, in naturals, has quotient q and remainder r
unmixed : (d : ℕ) (q : ℤ) (r : ℕ) → r < d → (q ≡ quotient (pos d *ℤ q +ℤ pos r) d) × (r ≡ remainder (pos d *ℤ q +ℤ pos r) d)
unmixed d (pos q) r h = (
  ap pos (sym (digits_div q h) ∙ ap (λ (x : ℕ). (x + r) / d) (mul_comm q d)),
  sym (digits_mod q h) ∙ ap (λ (x : ℕ). (x + r) % d) (mul_comm q d),
)
unmixed d (negsuc q) r h =
    let mirror : pos d *ℤ negsuc q +ℤ pos r ≡ negsuc (q * d + (d - suc r))
    = rep_agree (rep_add (rep_mul d (rep_self (negsuc q))) (rep_pos r)) (rep_self (negsuc (q * d + (d - suc r))))
    (omega (arith, mul-suc d q, mul_comm d q, mul-zero d)) in
    let below : d - suc r < d = omega arith in (
      ap negsuc (sym (digits_div q below)) ∙ ap (λ (z : ℤ). quotient z d) (sym mirror),
      (let e : r ≡ d - suc (d - suc r) = omega arith in e)
          ∙ ap (λ (x : ℕ). d - suc x) (sym (digits_mod q below))
          ∙ ap (λ (z : ℤ). remainder z d) (sym mirror),
    )

pub remainder_law : RemainderLaw
remainder_law = record {
  divides = λ z d h. record { sum = sum_is z d h; below = remainder_below z d h };
  only =
      λ z d q r v.
      let u : (q ≡ quotient (pos d *ℤ q +ℤ pos r) d) × (r ≡ remainder (pos d *ℤ q +ℤ pos r) d) = unmixed d q r v.below in (
        u.0 ∙ ap (λ (x : ℤ). quotient x d) (sym v.sum),
        u.1 ∙ ap (λ (x : ℤ). remainder x d) (sym v.sum),
      );
}
