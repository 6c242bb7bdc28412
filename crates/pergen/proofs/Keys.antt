-- Which key a place with stars sounds. G × place + stars is a number of two digits, stars to the base n and G / n × place
-- to the base R; multiplying the high digit by the inverse gives the place back.
use Prim.Native.Nat.{ℕ, zero, ◌+◌, ◌*◌, ◌/◌, ◌%◌, ◌<◌}
use mathlib.Core.Path.{◌≡◌, refl, sym, ap, ap₂, subst, ◌∙◌}
use mathlib.Core.Logic.{◌↔◌}
use lib.IntN.{ℤ, pos, ◌+ℤ◌, ◌*ℤ◌}
use lib.Arith.{mod-mul}
use native.Mathlib.Nat.{mul-add, mul_assoc, mul_comm, mul-one, mul-pos, mod-lt, mod-eq_of_lt, mod-mod}
use native.Mathlib.Omega.{arith}
use Rattle.math.specs.Division.{remainder, Apart}
use Rattle.math.proofs.Congruence.{mul_cong, two_digits, two_digits_agree}
use Rattle.math.proofs.Integers.{up, down, Rep, rep_self, rep_pos, rep_add, rep_mul}
use Rattle.math.proofs.Division.{remainder_below, remainders_agree, apart_iff, apart→remainder}
use Rattle.pergen.specs.Pergen.{cycles, reduced, degree, cycle, shown, key_degree, key_cycle, cycle_of}
use Rattle.pergen.specs.Spelling.{accidentals_of, key_accidentals, sounds}
use Rattle.pergen.specs.Theorems.{SpellingsOfOneKey, KeysFromZeroOn, DegreeSoundsKey, DegreeAndCycleTellKeysApart}
use Rattle.pergen.proofs.Inverse.{Numbers, numbers, cycles_positive, reduced_positive}

-- ---- in naturals
module _ {P G n R g x : ℕ} (p : Numbers P G n R g x) where
  -- multiplication by g can be undone, by the inverse
  undo : (a : ℕ) → x * (g * a) % R ≡ a % R
  undo a =
      ap (λ (z : ℕ). z % R) (sym (mul_assoc x g a) ∙ mul_comm (x * g) a)
      ∙ mul_cong R a (x * g) 1 p.one
      ∙ ap (λ (z : ℕ). z % R) (mul-one a)

  redo : (a : ℕ) → g * (x * a) % R ≡ a % R
  redo a =
      ap (λ (z : ℕ). z % R) (sym (mul_assoc g x a) ∙ ap (λ (z : ℕ). z * a) (mul_comm g x) ∙ mul_comm (x * g) a)
      ∙ mul_cong R a (x * g) 1 p.one
      ∙ ap (λ (z : ℕ). z % R) (mul-one a)

  digits : (a s : ℕ) → (G * a + s) % P ≡ (g * a * n + s) % (R * n)
  digits a s =
      ap₂ (λ (u v : ℕ). (u + s) % v)
      (ap (λ (z : ℕ). z * a) p.generator ∙ mul_assoc g n a ∙ ap (λ (z : ℕ). g * z) (mul_comm n a) ∙ sym (mul_assoc g a n))
      p.period

  same_key_ℕ : (a b s t : ℕ) → s < n → t < n → ((G * a + s) % P ≡ (G * b + t) % P) ↔ ((s ≡ t) × (a % R ≡ b % R))
  same_key_ℕ a b s t hs ht = (there, back)
    where
      there : (G * a + s) % P ≡ (G * b + t) % P → (s ≡ t) × (a % R ≡ b % R)
      there e =
          let h : (g * a % R ≡ g * b % R) × (s ≡ t)
          = two_digits_agree R n (g * a) (g * b) s t p.some_keys hs ht (sym (digits a s) ∙ e ∙ digits b t) in
          (h.1, sym (undo a) ∙ mul_cong R x (g * a) (g * b) h.0 ∙ undo b)

      back : (s ≡ t) × (a % R ≡ b % R) → (G * a + s) % P ≡ (G * b + t) % P
      back h =
          digits a s
          ∙ two_digits R n (g * a) s p.some_keys hs
          ∙ ap₂ (λ (u v : ℕ). u * n + v) (mul_cong R g a b h.1) h.0
          ∙ sym (two_digits R n (g * b) t p.some_keys ht)
          ∙ sym (digits b t)

  -- the degree x (i / n) mod R with the cycle i mod n sounds i
  degree_sounds_ℕ : (i : ℕ) → (G * (x * (i / n) % R) + i % n) % P ≡ i % P
  degree_sounds_ℕ i =
      digits (x * (i / n) % R) (i % n)
      ∙ two_digits R n (g * (x * (i / n) % R)) (i % n) p.some_keys (mod-lt i p.some_cycles)
      ∙ ap (λ (z : ℕ). z * n + i % n)
      (mul_cong R g (x * (i / n) % R) (x * (i / n)) (mod-mod (x * (i / n)) R) ∙ redo (i / n))
      ∙ sym (mod-mul i p.some_keys p.some_cycles)
      ∙ ap (λ (z : ℕ). i % z) (sym p.period)

  -- ---- and of places that may be negative
  same_key_ℤ : (u v : ℤ) (s t : ℕ) → s < n → t < n
      → (remainder (pos G *ℤ u +ℤ pos s) P ≡ remainder (pos G *ℤ v +ℤ pos t) P) ↔ ((s ≡ t) × (remainder u R ≡ remainder v R))
  same_key_ℤ u v s t hs ht = (there, back)
    where
      some : zero < P
      some = subst (λ (z : ℕ). zero < z) (sym p.period) (mul-pos p.some_keys p.some_cycles)

      ru : Rep (pos G *ℤ u +ℤ pos s) (G * up u + s) (G * down u + zero)
      ru = rep_add (rep_mul G (rep_self u)) (rep_pos s)

      rv : Rep (pos G *ℤ v +ℤ pos t) (G * up v + t) (G * down v + zero)
      rv = rep_add (rep_mul G (rep_self v)) (rep_pos t)

      eu : G * (up u + down v) + s ≡ G * up u + s + (G * down v + zero)
      eu = omega (arith, mul-add G (up u) (down v))

      ev : G * (up v + down u) + t ≡ G * up v + t + (G * down u + zero)
      ev = omega (arith, mul-add G (up v) (down u))

      there : remainder (pos G *ℤ u +ℤ pos s) P ≡ remainder (pos G *ℤ v +ℤ pos t) P → (s ≡ t) × (remainder u R ≡ remainder v R)
      there e =
          let h : (s ≡ t) × ((up u + down v) % R ≡ (up v + down u) % R)
          = (same_key_ℕ (up u + down v) (up v + down u) s t hs ht).0
          (ap (λ (z : ℕ). z % P) eu ∙ (remainders_agree P some ru rv).0 e ∙ ap (λ (z : ℕ). z % P) (sym ev)) in
          (h.0, (remainders_agree R p.some_keys (rep_self u) (rep_self v)).1 h.1)

      back : (s ≡ t) × (remainder u R ≡ remainder v R) → remainder (pos G *ℤ u +ℤ pos s) P ≡ remainder (pos G *ℤ v +ℤ pos t) P
      back h =
          (remainders_agree P some ru rv).1
          (ap (λ (z : ℕ). z % P) (sym eu)
          ∙ (same_key_ℕ (up u + down v) (up v + down u) s t hs ht).1
          (h.0, (remainders_agree R p.some_keys (rep_self u) (rep_self v)).0 h.1)
          ∙ ap (λ (z : ℕ). z % P) ev)

-- ---- the theorems

pub spellings_of_one_key : SpellingsOfOneKey
unfolding sounds
spellings_of_one_key P G hP u v s t hs ht = (
  λ e. let h : (s ≡ t) × (remainder u (reduced P G) ≡ remainder v (reduced P G)) = (same_key_ℤ (numbers P G hP) u v s t hs ht).0 e in
      (h.0, (apart_iff (reduced P G) (reduced_positive P G hP) u v).0 h.1),
  λ h. (same_key_ℤ (numbers P G hP) u v s t hs ht).1 (h.0, (apart_iff (reduced P G) (reduced_positive P G hP) u v).1 h.1),
)

module _ (P G : ℕ) (hP : zero < P) where
  pub cycle_below : (i : ℕ) → cycle P G i < cycles P G
  unfolding cycle
  cycle_below i = mod-lt i (cycles_positive P G hP)

  pub degree_below : (i : ℕ) → degree P G i < reduced P G
  unfolding degree
  degree_below i = mod-lt _ (reduced_positive P G hP)

  pub key_cycle_below : (key : ℤ) → key_cycle P G key < cycles P G
  unfolding key_cycle
  key_cycle_below key = cycle_below (remainder key P)

  pub key_degree_below : (key : ℤ) → key_degree P G key < reduced P G
  unfolding key_degree
  key_degree_below key = degree_below (remainder key P)

  degree_sounds : (i : ℕ) → sounds P G (pos (degree P G i)) (cycle P G i) ≡ i % P
  unfolding sounds degree cycle
  degree_sounds i = degree_sounds_ℕ (numbers P G hP) i

  key_degree_sounds : (key : ℤ) → sounds P G (pos (key_degree P G key)) (key_cycle P G key) ≡ remainder key P
  unfolding key_degree key_cycle
  key_degree_sounds key = degree_sounds (remainder key P) ∙ mod-eq_of_lt (remainder_below key P hP)

  -- the formulas of two numbers agree where the keys that they sound do
  pub formulas_agree : (i j : ℕ) → i % P ≡ j % P → (degree P G i ≡ degree P G j) × (cycle P G i ≡ cycle P G j)
  formulas_agree i j e =
      let h : (cycle P G i ≡ cycle P G j) × Apart (reduced P G) (pos (degree P G i)) (pos (degree P G j))
      = (spellings_of_one_key P G hP (pos (degree P G i)) (pos (degree P G j)) (cycle P G i) (cycle P G j)
      (cycle_below i) (cycle_below j)).0 (degree_sounds i ∙ e ∙ sym (degree_sounds j)) in (
        sym (mod-eq_of_lt (degree_below i))
            ∙ apart→remainder (reduced P G) (reduced_positive P G hP) (pos (degree P G i)) (pos (degree P G j)) h.1
            ∙ mod-eq_of_lt (degree_below j),
        h.0,
      )

  -- a key that was brought round the period has the spellings of the key
  pub key_round : (N o : ℕ) (key : ℤ) (i : ℕ) → i ≡ remainder key P → key_accidentals P G N o (pos i) ≡ key_accidentals P G N o key
  unfolding key_accidentals cycle_of key_degree key_cycle
  key_round N o key i e =
      ap (λ (j : ℕ). accidentals_of (reduced P G) N o (degree P G j) (shown (cycles P G) (cycle P G j)))
      (ap (λ (j : ℕ). j % P) e ∙ mod-eq_of_lt (remainder_below key P hP))

pub keys_from_zero_on : KeysFromZeroOn
unfolding key_degree key_cycle cycle_of key_accidentals
keys_from_zero_on P G hP i =
    let h = formulas_agree P G hP (i % P) i (mod-mod i P) in
    record {
      degree_stays = h.0;
      cycle_stays = h.1;
      spellings_stay =
          λ N o.
          ap₂ (λ (d c : ℕ). accidentals_of (reduced P G) N o d (shown (cycles P G) c)) h.0 h.1;
    }

pub degree_sounds_key : DegreeSoundsKey
degree_sounds_key P G hP key u a =
    let below = key_cycle_below P G hP key in
    (spellings_of_one_key P G hP u (pos (key_degree P G key)) (key_cycle P G key) (key_cycle P G key) below below).1 (refl, a)
    ∙ key_degree_sounds P G hP key

-- and what sounds a key, with stars below the cycles, has its cycle as stars and stands at a place of its degree
pub sounds_at_the_degree : (P G : ℕ) → zero < P → (key u : ℤ) (s : ℕ) → s < cycles P G → sounds P G u s ≡ remainder key P
    → (s ≡ key_cycle P G key) × Apart (reduced P G) u (pos (key_degree P G key))
sounds_at_the_degree P G hP key u s hs e =
    (spellings_of_one_key P G hP u (pos (key_degree P G key)) s (key_cycle P G key) hs (key_cycle_below P G hP key)).0
    (e ∙ sym (key_degree_sounds P G hP key))

pub degree_and_cycle_tell_keys_apart : DegreeAndCycleTellKeysApart
unfolding key_degree key_cycle
degree_and_cycle_tell_keys_apart P G hP x y = (
  λ a. formulas_agree P G hP (remainder x P) (remainder y P) (ap (λ (i : ℕ). i % P) (apart→remainder P hP x y a)),
  λ h. (apart_iff P hP x y).0
      (sym (key_degree_sounds P G hP x) ∙ ap₂ (λ (d c : ℕ). sounds P G (pos d) c) h.0 h.1 ∙ key_degree_sounds P G hP y),
)
