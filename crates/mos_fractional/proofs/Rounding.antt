-- A whole number of 65,536ths, up to 65,536 of them, is a value of the format, so an operation whose exact result is one loses nothing.
use mathlib.Core.Path.{◌≡◌, refl, ap, sym, subst, ◌∙◌}
use Prim.Native.Nat.{ℕ, ◌*◌, ◌-◌, ◌^◌, ◌≤◌, ◌<◌}
use native.Mathlib.Nat.{le_of_eq, le_trans, lt_of_le_of_lt, lt_of_lt_of_le, mul_assoc, mul_comm, mul_right_comm, mul-pos, mul-sub, mul-le-mul_right, mul-lt-mul_of_pos_right, le_of_mul-le-mul_right, lt_of_mul-lt-mul_right, eq_of_mul-eq-mul_right}
use native.Mathlib.Omega.{arith}
use mathlib.Core.Bool.{Bool, true, false}
use lib.IntN.{ℤ}
use lib.Dec.{ltb, lit<}
use lib.Ieee.{Float, nan, inf, fin, binary64, up, down, round, sum, sub, lt}
use lib.Ieee.Exact.{HasValue, round_exact}
use lib.Ieee.Fits.{down_pos}
use borrow.Author.Tests.{lt-ltb, le-ltb, ltb-true, ltb-false}
use Rattle.mos_fractional.specs.WholeParts.{Parts}

-- ---- values as fractions

-- from one fraction to another of the same size
rescale : (x : Float) (s : Bool) (w l num den : ℕ) → 0 < l → num * l ≡ w * den → HasValue x s w l → HasValue x s num den
rescale nan s w l num den p h v = v
rescale (inf t) s w l num den p h v = v
rescale (fin t m e) s w l num den p h v = (
  v.0,
  eq_of_mul-eq-mul_right l p (m * up e * den) (num * down e)
      (mul_right_comm (m * up e) den l
      ∙ ap (λ (x : ℕ). x * den) v.1
      ∙ mul_right_comm w (down e) den
      ∙ ap (λ (x : ℕ). x * down e) (sym h)
      ∙ mul_right_comm num l (down e)),
)

-- a fraction that is k 65,536ths is rounded to itself
pub round_parts : (s : Bool) (num den k : ℕ) → 0 < den → k ≤ 65536 → num * 65536 ≡ k * den → HasValue (round binary64 s num den) s k 65536
round_parts s num den k D K h =
    rescale (round binary64 s num den) s num den k 65536 D (sym h)
    (round_exact binary64 s num den k 1058 D (lt_of_le_of_lt K (lit< tt))
    (lt_of_le_of_lt (mul-le-mul_right (2 ^ 1058) K) (lit< tt))
    (sym (mul_assoc num 65536 (2 ^ 1058)) ∙ ap (λ (x : ℕ). x * 2 ^ 1058) h ∙ mul_right_comm k den (2 ^ 1058)))

pub parts_of : (x : Float) (s : Bool) (k : ℕ) → HasValue x s k 65536 → (s ≡ true → k ≡ 0) → Parts x k
parts_of nan s k h z = absurd h
parts_of (inf t) s k h z = absurd h
parts_of (fin t m e) s k h z = (h.1, λ q. z (sym h.0 ∙ q))

pub positive_parts : (x : Float) (k : ℕ) → Parts x k → 0 < k → HasValue x false k 65536
positive_parts nan k h z = absurd h
positive_parts (inf t) k h z = absurd h
positive_parts (fin true m e) k h z = absurd (let n : k ≡ 0 = h.1 refl in omega arith)
positive_parts (fin false m e) k h z = (refl, h.0)

-- ---- two values at a common denominator
module _ (m : ℕ) (e : ℤ) (n : ℕ) (d : ℤ) (a b : ℕ) (h : m * up e * 65536 ≡ a * down e) (i : n * up d * 65536 ≡ b * down d) where
  left : m * up e * down d * 65536 ≡ a * (down e * down d)
  left = mul_right_comm (m * up e) (down d) 65536 ∙ ap (λ (x : ℕ). x * down d) h ∙ mul_assoc a (down e) (down d)

  right : n * up d * down e * 65536 ≡ b * (down e * down d)
  right =
      mul_right_comm (n * up d) (down e) 65536 ∙ ap (λ (x : ℕ). x * down e) i ∙ mul_assoc b (down d) (down e)
      ∙ ap (λ (x : ℕ). b * x) (mul_comm (down d) (down e))

  common : 0 < down e * down d
  common = mul-pos (down_pos e) (down_pos d)

  keeps_le : a ≤ b → m * up e * down d ≤ n * up d * down e
  keeps_le k =
      le_of_mul-le-mul_right (le_trans (le_of_eq left) (le_trans (mul-le-mul_right (down e * down d) k) (le_of_eq (sym right)))) (lit< tt)

  keeps_lt : a < b → m * up e * down d < n * up d * down e
  keeps_lt k =
      lt_of_mul-lt-mul_right 65536
      (lt_of_le_of_lt (le_of_eq left) (lt_of_lt_of_le (mul-lt-mul_of_pos_right k common) (le_of_eq (sym right))))

  difference : (m * up e * down d - n * up d * down e) * 65536 ≡ (a - b) * (down e * down d)
  difference =
      mul_comm (m * up e * down d - n * up d * down e) 65536
      ∙ mul-sub 65536 (m * up e * down d) (n * up d * down e)
      ∙ ap (λ (x : ℕ). x - 65536 * (n * up d * down e)) (mul_comm 65536 (m * up e * down d) ∙ left)
      ∙ ap (λ (x : ℕ). a * (down e * down d) - x) (mul_comm 65536 (n * up d * down e) ∙ right)
      ∙ ap (λ (x : ℕ). x - b * (down e * down d)) (mul_comm a (down e * down d))
      ∙ ap (λ (x : ℕ). down e * down d * a - x) (mul_comm b (down e * down d))
      ∙ sym (mul-sub (down e * down d) a b)
      ∙ mul_comm (down e * down d) (a - b)

-- ---- the operations
-- a sum of unlike signs, the first no smaller
take_off : (a b c : ℕ) → b ≤ a → sum binary64 false a true b c ≡ round binary64 false (a - b) c
unfolding sum
take_off a b c h = simp (le-ltb a b h)

pub sub_parts : (x y : Float) (a b : ℕ) → HasValue x false a 65536 → HasValue y false b 65536 → b ≤ a → a ≤ 65536
    → HasValue (sub binary64 x y) false (a - b) 65536
unfolding sub
sub_parts nan y a b h i l k = absurd h
sub_parts (inf s) y a b h i l k = absurd h
sub_parts (fin s m e) nan a b h i l k = absurd i
sub_parts (fin s m e) (inf t) a b h i l k = absurd i
sub_parts (fin true m e) (fin t n d) a b h i l k = absurd (let z : ◌≡◌ {A = ℕ} 0 1 = cc h.0 in omega arith)
sub_parts (fin false m e) (fin true n d) a b h i l k = absurd (let z : ◌≡◌ {A = ℕ} 0 1 = cc i.0 in omega arith)
sub_parts (fin false m e) (fin false n d) a b h i l k =
    subst (λ (z : Float). HasValue z false (a - b) 65536)
    (sym (take_off (m * up e * down d) (n * up d * down e) (down e * down d) (keeps_le n d m e b a i.1 h.1 l)))
    (round_parts false (m * up e * down d - n * up d * down e) (down e * down d) (a - b) (common m e n d a b h.1 i.1) (omega arith)
    (difference m e n d a b h.1 i.1))

pub lt_parts : (x y : Float) (a b : ℕ) → HasValue x false a 65536 → HasValue y false b 65536 → lt x y ≡ ltb a b
unfolding lt
lt_parts nan y a b h i = absurd h
lt_parts (inf s) y a b h i = absurd h
lt_parts (fin s m e) nan a b h i = absurd i
lt_parts (fin s m e) (inf t) a b h i = absurd i
lt_parts (fin true m e) (fin t n d) a b h i = absurd (let z : ◌≡◌ {A = ℕ} 0 1 = cc h.0 in omega arith)
lt_parts (fin false m e) (fin true n d) a b h i = absurd (let z : ◌≡◌ {A = ℕ} 0 1 = cc i.0 in omega arith)
lt_parts (fin false m e) (fin false n d) a b h i = go (ltb a b) refl
  where
    go : (t : Bool) → ltb a b ≡ t → ltb (m * up e * down d) (n * up d * down e) ≡ t
    go true q = lt-ltb (m * up e * down d) (n * up d * down e) (keeps_lt m e n d a b h.1 i.1 (ltb-true a b q))
    go false q = le-ltb (m * up e * down d) (n * up d * down e) (keeps_le n d m e b a i.1 h.1 (ltb-false a b q))
