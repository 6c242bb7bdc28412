-- A place as a difference of two numbers, at 64 bits, and the key that it sounds: only the place's remainder by the period matters.
use Prim.Native.Nat.{ℕ, zero, suc, ◌+◌, ◌*◌, ◌-◌, ◌%◌, ◌≤◌, ◌<◌}
use mathlib.Core.Path.{◌≡◌, sym, ap, ap₂, ◌∙◌, subst}
use lib.IntN.{ℤ, pos, negsuc, ◌+ℤ◌, ◌-ℤ◌, ◌*ℤ◌}
use mir.Syntax.{w64}
use mir.Val.{SFits, to_z, of_z}
use mir.ValLaws.{to_z-of_z, to_z_pos}
use native.Mathlib.Nat.{mul-add, mul-le-mul}
use native.Mathlib.Omega.{arith}
use Rattle.math.specs.Division.{remainder}
use Rattle.math.proofs.Congruence.{add_cong, mul_cong}
use Rattle.math.proofs.Integers.{up, down, Rep, rep_self, rep_pos, rep_add, rep_minus, rep_mul, rep_agree, abs_rep}
use Rattle.math.proofs.Division.{remainder_below, remainder_rep, remainders_agree}
use Rattle.math.proofs.Signed.{abs_fits}
use Rattle.pergen.specs.Spelling.{place, sounds}
use Rattle.pergen.specs.Parts.{SidesOf}
use Rattle.pergen.specs.declared.Signs.{Signs}
use Rattle.pergen.specs.declared.Signs.TheVariants.{Sharps, Flats}
use Rattle.pergen.specs.declared.Spelling.{Spelling}
use Rattle.pergen.specs.declared.sounding.Sides.{Sides}
use Rattle.pergen.proofs.DegreePlaces.{place_sharps, place_flats}

-- ---- the sides

-- N k + a is small, for 16-bit N and a and a 32-bit k
pub signs_small : (N k a : ℕ) → N ≤ 65535 → k ≤ 4294967295 → a ≤ 65535 → N * k + a ≤ 281470681743360
signs_small N k a hN hk ha = omega (arith, mul-le-mul {n₂ = 65535} {m₂ = 4294967295} hN hk)

abbrev sides : ℕ → ℕ → Sides
sides a b = record { above = a; below = b }

module _ (N o : ℕ) (s : Spelling) (hN : N ≤ 65535) (ho : o ≤ 65535) (hi : s.index ≤ 65535) (k : ℕ) (hk : k ≤ 4294967295) where
  pub sharp_sides : s.signs ≡ Sharps k → SidesOf N o s (sides (s.index + N * k) o)
  sharp_sides e =
      record {
        difference =
            rep_agree
            (subst (λ (g : Signs). Rep (place N o (record { index = s.index; signs = g; stars = s.stars })) (s.index + N * k) o)
            (sym e) (place_sharps N o s.index k s.stars))
            (rep_minus (rep_pos (s.index + N * k)) (rep_pos o)) (omega arith);
        small = record { above = omega (arith, signs_small N k s.index hN hk hi); below = omega arith };
      }

  pub flat_sides : s.signs ≡ Flats k → SidesOf N o s (sides s.index (N * k + o))
  flat_sides e =
      record {
        difference =
            rep_agree
            (subst (λ (g : Signs). Rep (place N o (record { index = s.index; signs = g; stars = s.stars })) s.index (N * k + o))
            (sym e) (place_flats N o s.index k s.stars))
            (rep_minus (rep_pos s.index) (rep_pos (N * k + o))) (omega arith);
        small = record { above = omega arith; below = signs_small N k o hN hk ho };
      }

-- ---- the difference as a signed number

module _ (a b : ℕ) (ha : a ≤ 281470681743360) (hb : b ≤ 281470681743360) where
  read : to_z w64 a -ℤ to_z w64 b ≡ pos a -ℤ pos b
  read = ap₂ (λ (x y : ℤ). x -ℤ y) (to_z_pos w64 a (omega arith)) (to_z_pos w64 b (omega arith))

  pub difference_fits : SFits w64 (to_z w64 a -ℤ to_z w64 b)
  difference_fits =
      subst (λ (z : ℤ). SFits w64 z) (sym read)
      (abs_fits w64 (pos a -ℤ pos b) (omega (arith, abs_rep (rep_minus (rep_pos a) (rep_pos b)))))

  pub difference_is : to_z w64 (of_z w64 (to_z w64 a -ℤ to_z w64 b)) ≡ pos a -ℤ pos b
  difference_is = to_z-of_z w64 _ difference_fits ∙ read

-- ---- its remainder

pub remainder_above : (a b d : ℕ) → b ≤ a → (a - b) % d ≡ remainder (pos a -ℤ pos b) d
remainder_above a b d h =
    ap (λ (z : ℤ). remainder z d)
    (rep_agree (rep_pos (a - b)) (rep_minus (rep_pos a) (rep_pos b)) (let q : a - b + (0 + b) ≡ a + 0 + 0 = omega arith in q))

pub remainder_below_zero : (a b d : ℕ) → a < b → d - 1 - (b - a - 1) % d ≡ remainder (pos a -ℤ pos b) d
remainder_below_zero a b d h =
    (let q : d - 1 - (b - a - 1) % d ≡ d - suc ((b - a - 1) % d) = omega arith in q)
    ∙ ap (λ (z : ℤ). remainder z d)
    (rep_agree (rep_self (negsuc (b - a - 1))) (rep_minus (rep_pos a) (rep_pos b))
    (let q : 0 + (0 + b) ≡ a + 0 + suc (b - a - 1) = omega arith in q))

-- ---- the key

-- G u + s and G (u mod P) + s leave one remainder
one_remainder : (P G s r : ℕ) (u : ℤ) → zero < P → r ≡ remainder u P → (G * r + s) % P ≡ remainder (pos G *ℤ u +ℤ pos s) P
one_remainder P G s r u hP e =
    (remainders_agree P hP (rep_pos (G * r + s)) (rep_add (rep_mul G (rep_self u)) (rep_pos s))).1
    (ap (λ (z : ℕ). z % P) (let q : G * r + s + (G * down u + 0) ≡ G * (r + down u) + s = omega (arith, mul-add G r (down u)) in q)
    ∙ add_cong P s (G * (r + down u)) (G * up u)
    (mul_cong P G (r + down u) (up u) (ap (λ (z : ℕ). (z + down u) % P) e ∙ remainder_rep P hP (rep_self u)))
    ∙ ap (λ (z : ℕ). z % P) (let q : G * up u + s ≡ G * up u + s + 0 = omega arith in q))

-- r is the remainder of a − b by the period
module _ (P G s r a b : ℕ) (some : zero < P) (e : r ≡ remainder (pos a -ℤ pos b) P) where
  pub sounded_is : (G * r + s) % P ≡ sounds P G (pos a -ℤ pos b) s
  unfolding sounds
  sounded_is = one_remainder P G s r (pos a -ℤ pos b) some e

  pub key_product : G ≤ 65535 → P ≤ 65535 → G * r ≤ 65535 * 65535
  key_product hG hP =
      let below : r < P = rw e (remainder_below (pos a -ℤ pos b) P some) in
      mul-le-mul {n₂ = 65535} {m₂ = 65535} hG (omega arith)
