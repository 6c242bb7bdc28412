-- The pattern is the scale. Along the walk from a genesis, b generators make the primary step and a generators lack the secondary
-- step (`Chain`). Then one step upward adds b places modulo a + b, and after i steps from place j, r of them primary and q secondary, j + i × b is
-- q × (a + b) and the place reached (`Reached`): after a + b steps from place 0 that is place 0, a primary and b secondary steps up. The counts are
-- coprime, so no place is met twice.
use Rattle.std.specs.Prelude.{Some, slice_get}
use mathlib.Core.Path.{◌≡◌, refl, ap, ap₂, sym, subst, ◌∙◌}
use mathlib.Core.Bool.{Bool, true, false}
use Prim.Native.Nat.{ℕ, zero, suc, ◌+◌, ◌*◌, ◌-◌, ◌/◌, ◌%◌, ◌≤◌, ◌<◌}
use native.Mathlib.Nat.{mod-lt, mod-mod, add-mod_right, mod-eq_of_lt, div-add-mod', mul-add, add-mul, mul_comm, mul_assoc, suc-mul, mul-one, mul-zero, zero-mul, zero-mod, add-zero, zero-add}
use native.Mathlib.Omega.{arith}
use lib.Arith.{digits_div, digits_mod}
use lib.Dec.{ltb}
use borrow.Author.Tests.{ltb-true, ltb-false}
use Rattle.answer.specs.Choice.{pick}
use Rattle.math.proofs.Congruence.{of_cong, add_cong, add_cancel, mul_cong}
use Rattle.mos.specs.declared.Mos.{Mos}
use Rattle.mos.specs.Patterns.{primaries, secondaries, primary, secondary, count_of, size_of, genesis}
use Rattle.mos.specs.Walks.{children}
use Rattle.mos.specs.Scale.{key_of, above, step_above, place_above, interval, round, climbed, MomentOfSymmetry, InOrderOfPitch, PatternIsScale}
use Rattle.mos.proofs.Descent.{Child, longer_primary, longer_secondary, child_at, child_keeps_size}
use Rattle.mos.proofs.Theorems.{walk_keeps, genesis_size, steps_stay_above}

-- ---- what each pattern of the walk keeps

-- counts a and b, steps p and s: G × b is p and G × a is −s modulo P, and a × u is 1 + b × v
pub record Chain (P G : ℕ) (m : Mos) : Type 0 where
  pub size : size_of m ≡ P
  pub up : (G * secondaries m) % P ≡ primary m % P
  pub down : (G * primaries m + secondary m) % P ≡ 0 % P
  pub u : ℕ
  pub v : ℕ
  pub coprime : primaries m * u ≡ 1 + secondaries m * v

chain_genesis : (P G : ℕ) → 0 < P → Chain P G (genesis P G)
chain_genesis P G h = record {
  size = genesis_size P G h;
  up = ap (λ (n : ℕ). n % P) (mul-one G) ∙ sym (mod-mod G P);
  down =
      of_cong P (G * 1 + (P - G % P)) 0 0 (suc (G / P))
      (omega (arith, mul-one G, div-add-mod' G P, mod-lt G h, suc-mul (G / P) P, zero-mul P));
  u = 1;
  v = 0;
  coprime = refl;
}

-- G × a + G × b + s is p modulo P, of any pattern of the chain
sum_is : (P G : ℕ) (m : Mos) → Chain P G m → (G * count_of m + secondary m) % P ≡ primary m % P
sum_is P G m c =
    ap (λ (n : ℕ). n % P) (omega (arith, mul-add G (primaries m) (secondaries m)))
    ∙ add_cong P (G * secondaries m) (G * primaries m + secondary m) 0 c.down
    ∙ ap (λ (n : ℕ). n % P) (omega arith)
    ∙ c.up

chain_child : (P G : ℕ) (m c : Mos) → Child m (Some c) → Chain P G m → Chain P G c
chain_child P G m c (longer_primary z h) x = record {
  size = child_keeps_size (longer_primary z h) ∙ x.size;
  up =
      add_cancel P (secondary m) (G * count_of m) (primary m - secondary m)
      (sum_is P G m x ∙ ap (λ (n : ℕ). n % P) (omega arith));
  down = x.down;
  u = x.u + x.v;
  v = x.v;
  coprime = omega (arith, x.coprime, mul-add (primaries m) x.u x.v, add-mul (primaries m) (secondaries m) x.v);
}
chain_child P G m c (longer_secondary z h) x = record {
  size = child_keeps_size (longer_secondary z h) ∙ x.size;
  up = x.up;
  down =
      add_cancel P (primary m) (G * count_of m + (secondary m - primary m)) 0
      (ap (λ (n : ℕ). n % P) (omega arith) ∙ sum_is P G m x ∙ ap (λ (n : ℕ). n % P) (omega arith));
  u = x.u;
  v = x.u + x.v;
  coprime = omega (arith, x.coprime, add-mul (primaries m) (secondaries m) x.u, mul-add (secondaries m) x.u x.v);
}

pub chain_walk : (P G : ℕ) → 0 < P → (k : ℕ) (m : Mos) → slice_get (children (genesis P G)) k ≡ Some m → Chain P G m
chain_walk P G h k m e =
    walk_keeps (Chain P G) (λ x c f. chain_child P G x c (child_at f)) k (genesis P G) m e (chain_genesis P G h)

-- ---- one step upward, by its two cases

pub data Upward (m : Mos) (k : ℕ) : ℕ → ℕ → Type 0 where
  by_primary : k < primaries m → Upward m k (k + secondaries m) (primary m)
  by_secondary : primaries m ≤ k → Upward m k (k - primaries m) (secondary m)

pub upward : (m : Mos) (k : ℕ) → Upward m k (above m k) (step_above m k)
unfolding above step_above
upward m k = go (ltb k (primaries m)) refl
  where
    go : (t : Bool) → ltb k (primaries m) ≡ t → Upward m k (pick t (k + secondaries m) (k - primaries m)) (pick t (primary m) (secondary m))
    go true e = by_primary (ltb-true _ _ e)
    go false e = by_secondary (ltb-false _ _ e)

upward_inside : {m : Mos} {k n d : ℕ} → Upward m k n d → k < count_of m → n < count_of m
upward_inside (by_primary h) l = omega arith
upward_inside (by_secondary h) l = omega arith

-- the key of a place, one step higher, is the key of the place above
module _ (P G : ℕ) (m : Mos) (c : Chain P G m) where
  upward_apart : {k n d : ℕ} → Upward m k n d → (key_of P G k + d) % P ≡ key_of P G n
  upward_apart {k} (by_primary h) =
      add_cong P (primary m) ((G * k) % P) (G * k) (mod-mod (G * k) P)
      ∙ ap (λ (n : ℕ). n % P) (omega arith)
      ∙ add_cong P (G * k) (primary m) (G * secondaries m) (sym c.up)
      ∙ ap (λ (n : ℕ). n % P) (omega (arith, mul-add G k (secondaries m)))
  upward_apart {k} (by_secondary h) =
      add_cong P (secondary m) ((G * k) % P) (G * k) (mod-mod (G * k) P)
      ∙ ap (λ (n : ℕ). n % P)
      (omega (arith, mul-add G (primaries m) (k - primaries m), ap (λ (n : ℕ). G * n) (let e : primaries m + (k - primaries m) ≡ k = omega arith in e)))
      ∙ add_cong P (G * (k - primaries m)) (G * primaries m + secondary m) 0 c.down
      ∙ ap (λ (n : ℕ). n % P) (omega arith)

  -- so is the key of a place, an interval higher, that of the place where it ends
  pub interval_leads : (j i : ℕ) → (key_of P G j + interval m j i) % P ≡ key_of P G (place_above m j i)
  unfolding interval place_above
  interval_leads j zero = ap (λ (n : ℕ). n % P) (add-zero (key_of P G j)) ∙ mod-mod (G * j) P
  interval_leads j (suc i) =
      let at = place_above m j i in
      ap (λ (n : ℕ). n % P) (let t : key_of P G j + (interval m j i + step_above m at) ≡ key_of P G j + interval m j i + step_above m at = omega arith in t)
      ∙ sym (add_cong P (step_above m at) ((key_of P G j + interval m j i) % P) (key_of P G j + interval m j i) (mod-mod _ P))
      ∙ ap (λ (n : ℕ). (n + step_above m at) % P) (interval_leads j i)
      ∙ upward_apart (upward m at)

pub key_zero : (P G : ℕ) → key_of P G 0 ≡ 0
key_zero P G = ap (λ (n : ℕ). n % P) (mul-zero G) ∙ zero-mod P

-- ---- the round

-- after i steps from place j, r primary and q secondary ones
pub record Reached (m : Mos) (j i place height : ℕ) : Type 0 where
  pub r : ℕ
  pub q : ℕ
  pub steps : i ≡ r + q
  pub inside : place < count_of m
  pub places : j + i * secondaries m ≡ q * count_of m + place
  pub high : height ≡ r * primary m + q * secondary m

reached_more : (m : Mos) (j i : ℕ) {place height next d : ℕ} → Reached m j i place height → Upward m place next d → Reached m j (suc i) next (height + d)
reached_more m j i x (by_primary h) = record {
  r = suc x.r;
  q = x.q;
  steps = omega (arith, x.steps);
  inside = omega arith;
  places = omega (arith, x.places, suc-mul i (secondaries m));
  high = omega (arith, x.high, suc-mul x.r (primary m));
}
reached_more m j i x (by_secondary h) = record {
  r = x.r;
  q = suc x.q;
  steps = omega (arith, x.steps);
  inside = omega (arith, x.inside);
  places = omega (arith, x.places, suc-mul i (secondaries m), suc-mul x.q (count_of m));
  high = omega (arith, x.high, suc-mul x.q (secondary m));
}

pub reached : (m : Mos) (j : ℕ) → j < count_of m → (i : ℕ) → Reached m j i (place_above m j i) (interval m j i)
unfolding place_above interval
reached m j h zero = record {
  r = 0;
  q = 0;
  steps = refl;
  inside = h;
  places = omega (arith, zero-mul (secondaries m), zero-mul (count_of m));
  high = omega (arith, zero-mul (primary m), zero-mul (secondary m));
}
reached m j h (suc i) = reached_more m j i (reached m j h i) (upward m (place_above m j i))

-- a multiple of n is no multiple of n and a rest
quotients_agree : (n b q k : ℕ) → k < n → n * b ≡ q * n + k → (b ≡ q) × (0 ≡ k)
quotients_agree n b q k h e =
    let f : b * n + 0 ≡ q * n + k = omega (arith, e, mul_comm n b) in
    let z : 0 < n = omega arith in (
      sym (digits_div b z) ∙ ap (λ (x : ℕ). x / n) f ∙ digits_div q h,
      sym (digits_mod b z) ∙ ap (λ (x : ℕ). x % n) f ∙ digits_mod q h,
    )

module _ (P G : ℕ) (m : Mos) (c : Chain P G m) where
  -- a × u is 1 + b × v, so there are places
  some_places : 0 < count_of m
  some_places = go (primaries m) refl
    where
      go : (a : ℕ) → primaries m ≡ a → 0 < count_of m
      go zero e = absurd (let z : ⊥ = omega (arith, c.coprime, ap (λ (n : ℕ). n * c.u) e, zero-mul c.u) in z)
      go (suc a) e = omega arith

  -- the whole round
  last : Reached m 0 (count_of m) (round m (count_of m)) (climbed m (count_of m))
  last = reached m 0 some_places (count_of m)

  last_agrees : (secondaries m ≡ last.q) × (0 ≡ round m (count_of m))
  last_agrees = quotients_agree (count_of m) (secondaries m) last.q (round m (count_of m)) last.inside (sym (zero-add _) ∙ last.places)

  climbs_the_period : climbed m (count_of m) ≡ P
  unfolding size_of
  climbs_the_period =
      last.high
      ∙ ap₂ (λ (x y : ℕ). x * primary m + y * secondary m)
      (let e : last.r ≡ primaries m = omega (arith, last.steps, last_agrees.0) in e)
      (sym last_agrees.0)
      ∙ c.size

  -- b × (u + v) + 1 is a multiple of a + b, so i and the place reached settle each other
  w : ℕ
  w = c.u + c.v

  inverse : secondaries m * w + 1 ≡ c.u * count_of m
  unfolding w
  inverse =
      omega (
        arith,
        c.coprime,
        mul-add (secondaries m) c.u c.v,
        mul-add c.u (primaries m) (secondaries m),
        mul_comm c.u (primaries m),
        mul_comm c.u (secondaries m),
      )

  -- i + w × place is a multiple of a + b
  opposite : (i : ℕ) → (i + w * round m i) % count_of m ≡ 0 % count_of m
  opposite i =
      let x = reached m 0 some_places i in
      of_cong (count_of m) (i + w * round m i) 0 (w * x.q) (i * c.u)
      (let e : i * (secondaries m * w + 1) ≡ i * (c.u * count_of m) = ap (λ (n : ℕ). i * n) inverse in
      let f : w * (i * secondaries m) ≡ w * (x.q * count_of m + round m i) = ap (λ (n : ℕ). w * n) (sym (zero-add _) ∙ x.places) in
      omega (
        arith,
        e,
        f,
        mul-add i (secondaries m * w) 1,
        mul-one i,
        mul_assoc i (secondaries m) w,
        mul_comm (i * secondaries m) w,
        mul-add w (x.q * count_of m) (round m i),
        mul_assoc w x.q (count_of m),
        mul_assoc i c.u (count_of m),
      ))

  met_once : (i j : ℕ) → i < count_of m → j < count_of m → round m i ≡ round m j → i ≡ j
  met_once i j hi hj e =
      sym (mod-eq_of_lt hi)
      ∙ add_cancel (count_of m) (w * round m i) i j
      (opposite i ∙ sym (opposite j) ∙ ap (λ (k : ℕ). (j + w * k) % count_of m) (sym e))
      ∙ mod-eq_of_lt hj

  -- the step at which place k is met
  turn : ℕ → ℕ
  turn k = (w * k * (count_of m - 1)) % count_of m

  turn_inside : (k : ℕ) → turn k < count_of m
  unfolding turn
  turn_inside k = mod-lt (w * k * (count_of m - 1)) some_places

  turn_opposite : (k : ℕ) → (turn k + w * k) % count_of m ≡ 0 % count_of m
  unfolding turn
  turn_opposite k =
      add_cong (count_of m) (w * k) ((w * k * (count_of m - 1)) % count_of m) (w * k * (count_of m - 1)) (mod-mod (w * k * (count_of m - 1)) (count_of m))
      ∙ of_cong (count_of m) (w * k * (count_of m - 1) + w * k) 0 0 (w * k)
      (let e : w * k * (count_of m - 1 + 1) ≡ w * k * count_of m = ap (λ (n : ℕ). w * k * n) (let f : count_of m - 1 + 1 ≡ count_of m = omega (arith, some_places) in f) in
      omega (arith, e, mul-add (w * k) (count_of m - 1) 1, mul-one (w * k), zero-mul (count_of m)))

  -- places that settle the same step are equal: times b
  place_of : (i k l : ℕ) → k < count_of m → l < count_of m → (i + w * k) % count_of m ≡ 0 % count_of m → (i + w * l) % count_of m ≡ 0 % count_of m → k ≡ l
  place_of i k l hk hl e f =
      sym (mod-eq_of_lt hk)
      ∙ add_cancel (count_of m) (secondaries m * (w * k)) k l
      (times k ∙ sym (times l) ∙ sym same)
      ∙ mod-eq_of_lt hl
    where
      alike : (w * k) % count_of m ≡ (w * l) % count_of m
      alike =
          add_cancel (count_of m) i (w * k) (w * l)
          (ap (λ (n : ℕ). n % count_of m) (omega arith) ∙ e ∙ sym f ∙ ap (λ (n : ℕ). n % count_of m) (omega arith))

      same : (l + secondaries m * (w * k)) % count_of m ≡ (l + secondaries m * (w * l)) % count_of m
      same =
          ap (λ (n : ℕ). n % count_of m) (omega arith)
          ∙ add_cong (count_of m) l (secondaries m * (w * k)) (secondaries m * (w * l)) (mul_cong (count_of m) (secondaries m) (w * k) (w * l) alike)
          ∙ ap (λ (n : ℕ). n % count_of m) (omega arith)

      times : (n : ℕ) → (n + secondaries m * (w * n)) % count_of m ≡ 0 % count_of m
      times n =
          of_cong (count_of m) (n + secondaries m * (w * n)) 0 0 (n * c.u)
          (let e : n * (secondaries m * w + 1) ≡ n * (c.u * count_of m) = ap (λ (x : ℕ). n * x) inverse in
          omega (
            arith,
            e,
            mul-add n (secondaries m * w) 1,
            mul-one n,
            mul_comm n (secondaries m * w),
            mul_assoc (secondaries m) w n,
            mul_assoc n c.u (count_of m),
            zero-mul (count_of m),
          ))

  met_at : (k : ℕ) → k < count_of m → round m (turn k) ≡ k
  met_at k h =
      place_of (turn k) (round m (turn k)) k (reached m 0 some_places (turn k)).inside h (opposite (turn k)) (turn_opposite k)

  pub moment_of_symmetry : MomentOfSymmetry P G m
  moment_of_symmetry = record {
    inside = λ k h. upward_inside (upward m k) h;
    apart = λ k h. upward_apart P G m c (upward m k);
    meets = λ k h. (turn k, turn_inside k, met_at k h);
    once = met_once;
    back = sym last_agrees.1;
    period = climbs_the_period;
  }

-- ---- in order of pitch

module _ (P G : ℕ) (h : 0 < P) (m : Mos) (c : Chain P G m) (hp : 0 < primary m) (hs : 0 < secondary m) where
  upward_above : {k n d : ℕ} → Upward m k n d → 0 < d
  upward_above (by_primary l) = hp
  upward_above (by_secondary l) = hs

  step_above_lem : (k : ℕ) → 0 < step_above m k
  step_above_lem k = upward_above (upward m k)

  climbs : (i : ℕ) → climbed m i < climbed m (suc i)
  unfolding interval
  climbs i = omega (arith, step_above_lem (round m i))

  climbs_to : (i d : ℕ) → climbed m i + d ≤ climbed m (i + d)
  climbs_to i zero = omega (arith, ap (climbed m) (let e : i + 0 ≡ i = omega arith in e))
  climbs_to i (suc d) =
      omega (arith, climbs_to i d, climbs (i + d), ap (climbed m) (let e : i + suc d ≡ suc (i + d) = omega arith in e))

  climbs_later : (i j : ℕ) → i ≤ j → climbed m i + (j - i) ≤ climbed m j
  climbs_later i j l = omega (arith, climbs_to i (j - i), ap (climbed m) (let e : i + (j - i) ≡ j = omega arith in e))

  below_period : (i : ℕ) → i < count_of m → climbed m i < P
  below_period i l = omega (arith, climbs_later i (count_of m) (omega arith), climbs_the_period P G m c)

  -- the key of the place reached is how far the round has climbed, first modulo P
  climbs_keys : (i : ℕ) → climbed m i % P ≡ key_of P G (round m i)
  climbs_keys i =
      ap (λ (n : ℕ). n % P) (sym (zero-add (climbed m i)))
      ∙ ap (λ (n : ℕ). (n + climbed m i) % P) (sym (key_zero P G))
      ∙ interval_leads P G m c 0 i

  pitch_is : (i : ℕ) → i < count_of m → key_of P G (round m i) ≡ climbed m i
  pitch_is i l = sym (climbs_keys i) ∙ mod-eq_of_lt (below_period i l)

  -- of two places of the round, by which comes first
  apart_at : (i j : ℕ) → i < count_of m → j < count_of m → (i ≡ j → ⊥) → step_above m (round m i) ≤ (climbed m j + P - climbed m i) % P
  unfolding interval
  apart_at i j hi hj d = go (ltb i j) refl
    where
      go : (t : Bool) → ltb i j ≡ t → step_above m (round m i) ≤ (climbed m j + P - climbed m i) % P
      go true e =
          let l : i < j = ltb-true i j e in
          let f : climbed m j + P - climbed m i ≡ climbed m j - climbed m i + P = omega (arith, climbs_later i j (omega arith)) in
          rw (f, add-mod_right (climbed m j - climbed m i) P, mod-eq_of_lt (let z : climbed m j - climbed m i < P = omega (arith, below_period j hj) in z))
          (omega (arith, climbs_later (suc i) j l))
      go false e =
          let l : j < i = omega (arith, ltb-false i j e) in
          rw (mod-eq_of_lt (let z : climbed m j + P - climbed m i < P = omega (arith, climbs_later j i (omega arith), below_period i hi) in z))
          (omega (arith, climbs_later (suc i) (count_of m) hi, climbs_the_period P G m c, below_period i hi))

  nothing_between : (j k : ℕ) → j < count_of m → k < count_of m → (j ≡ k → ⊥) → step_above m k ≤ (key_of P G j + P - key_of P G k) % P
  nothing_between j k hj hk d =
      let ej : round m (turn P G m c j) ≡ j = met_at P G m c j hj in
      let ek : round m (turn P G m c k) ≡ k = met_at P G m c k hk in
      let tj = turn_inside P G m c j in
      let tk = turn_inside P G m c k in
      let same : turn P G m c k ≡ turn P G m c j → ⊥ = λ e. d (sym ej ∙ ap (round m) (sym e) ∙ ek) in
      let pj : climbed m (turn P G m c j) ≡ key_of P G j = sym (pitch_is (turn P G m c j) tj) ∙ ap (key_of P G) ej in
      let pk : climbed m (turn P G m c k) ≡ key_of P G k = sym (pitch_is (turn P G m c k) tk) ∙ ap (key_of P G) ek in
      subst (λ (n : ℕ). step_above m k ≤ (key_of P G j + P - n) % P) pk
      (subst (λ (n : ℕ). step_above m k ≤ (n + P - climbed m (turn P G m c k)) % P) pj
      (subst (λ (n : ℕ). step_above m n ≤ (climbed m (turn P G m c j) + P - climbed m (turn P G m c k)) % P) ek
      (apart_at (turn P G m c k) (turn P G m c j) tk tj same)))

  pub in_order_of_pitch : InOrderOfPitch P G m
  in_order_of_pitch = record { pitch = pitch_is; rises = climbs; next = nothing_between }

-- ---- of every walk

pub pattern_is_scale : PatternIsScale
pattern_is_scale = record {
  scale = λ P G h k m e. moment_of_symmetry P G m (chain_walk P G h k m e);
  order =
      λ P G h g k m e.
      let above_zero = steps_stay_above (genesis P G) m k e g (omega (arith, mod-lt G h)) in
      in_order_of_pitch P G h m (chain_walk P G h k m e) above_zero.0 above_zero.1;
}
