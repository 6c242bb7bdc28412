-- The walk along the chain: one advance leads to the next place, each place has one scale degree, and walks compose.
use Prim.Native.Nat.{ℕ, suc, ◌+◌, ◌*◌, ◌-◌, ◌/◌, ◌%◌, ◌≤◌, ◌<◌}
use mathlib.Core.Path.{◌≡◌, refl, sym, ap, subst, ◌∙◌}
use mathlib.Core.Logic.{◌⊎◌, inl, inr}
use mathlib.Core.List.{List}
use native.Mathlib.Nat.{add_comm, mul-add, add-mul, mul_assoc, mul_comm, mul_left_comm, mul-one, mul-zero, suc-mul, zero-mod, zero-mul, mod-lt, mod-mod, mod-eq_of_lt, add-mod-mod, add-mul-mod_self_right, div-add-mod', div-eq_of_lt-le, mul-le-mul_left, mul-le-mul_right}
use native.Mathlib.Decide.{dec_lt}
use native.Mathlib.Omega.{arith}
use lib.ListN.{length, get_or, replicate, length-replicate}
use Rattle.text.specs.Writing.{joined}
use Rattle.text.proofs.Joined.{joined_none}
use Rattle.mos_layers.specs.declared.Runs.{Runs}
use Rattle.mos_layers.specs.Layers.{drop_empty}
use Rattle.mos_layers.specs.Parts.{run_at, run_sizes}
use Rattle.mos_layers.specs.Theorems.{sum}
use Rattle.mos_layers.proofs.Sizes.{drop_all}
use Rattle.math.proofs.Congruence.{add_cong, add_cancel, mul_cong}
use Rattle.pergen.proofs.CarriedWalk.{turn_stays, turn_wraps}
use Rattle.layout_layers.specs.declared.chain.Chain.{Chain}
use Rattle.layout_layers.specs.declared.chain.Spot.{Spot}
use Rattle.layout_layers.specs.Kept.{inverse_of, keys_of, Unbroken}
use Rattle.layout_layers.specs.Parts.{place_of, SpotAt, Spread, InTurn, InTurns, OnChain, Walk, Ahead, run_number, listed_number}
use Rattle.layout_layers.proofs.RunPlaces.{run_within, run_span, layers_within, here_found}
use Rattle.layout_layers.proofs.SpreadLaws.{spread_none, spread_as, spread_of, spread_then}

-- ---- places and scale degrees

module _ (c : Chain) (u : Unbroken c) where
  abbrev R : ℕ
  R = c.reduced_period

  abbrev n : ℕ
  n = c.num_cycles

  abbrev x : ℕ
  x = inverse_of c

  abbrev g : ℕ
  g = c.advance

  pub some_places : 0 < R
  some_places = omega (arith, u.start_below)

  pub place_below : (turn : ℕ) → place_of c turn < R
  unfolding place_of
  place_below turn = mod-lt _ some_places

  place_is : (turn : ℕ) → place_of c turn ≡ (x * turn + c.start) % R
  unfolding place_of
  place_is turn = add-mod-mod c.start (x * turn) R ∙ ap (λ (k : ℕ). k % R) (add_comm c.start (x * turn))

  -- the advance undoes the inverse
  undone : (turn : ℕ) → (g * (x * turn)) % R ≡ turn % R
  undone turn =
      ap (λ (k : ℕ). k % R) (sym (mul_assoc g x turn) ∙ ap (λ (k : ℕ). k * turn) (mul_comm g x) ∙ mul_comm (x * g) turn)
      ∙ mul_cong R turn (x * g) 1 u.one
      ∙ ap (λ (k : ℕ). k % R) (mul-one turn)

  pub one_turn : (s t : ℕ) → s < R → t < R → place_of c s ≡ place_of c t → s ≡ t
  one_turn s t hs ht e =
      sym (mod-eq_of_lt hs)
      ∙ sym (undone s)
      ∙ mul_cong R g (x * s) (x * t) (add_cancel R c.start (x * s) (x * t) (sym (place_is s) ∙ e ∙ place_is t))
      ∙ undone t
      ∙ mod-eq_of_lt ht

  -- one advance on
  next_place : (turn place next : ℕ) → place_of c turn ≡ place % R → next ≡ (turn + g) % R → place_of c next ≡ (place + 1) % R
  next_place turn place next leads e =
      let on : x * (turn + g) + c.start ≡ x * g + (x * turn + c.start) = omega (arith, mul-add x turn g) in
      place_is next
      ∙ add_cong R c.start (x * next) (x * (turn + g)) (ap (λ (k : ℕ). (x * k) % R) e ∙ mul_cong R x ((turn + g) % R) (turn + g) (mod-mod (turn + g) R))
      ∙ ap (λ (k : ℕ). k % R) on
      ∙ add_cong R (x * turn + c.start) (x * g) 1 u.one
      ∙ ap (λ (k : ℕ). k % R) (add_comm 1 (x * turn + c.start))
      ∙ add_cong R 1 (x * turn + c.start) place (sym (place_is turn) ∙ leads)

  -- as many advances behind 0 as the start says
  first_place : (turn : ℕ) → (turn + c.start * g) % R ≡ 0 → place_of c turn ≡ 0 % R
  first_place turn e =
      let back : (c.start * (x * g)) % R ≡ c.start % R
      = mul_cong R c.start (x * g) 1 u.one ∙ ap (λ (k : ℕ). k % R) (mul-one c.start) in
      let all : c.start * (x * g) + x * turn ≡ x * (turn + c.start * g)
      = omega (arith, mul-add x turn (c.start * g), mul_left_comm c.start x g) in
      place_is turn
      ∙ ap (λ (k : ℕ). k % R) (add_comm (x * turn) c.start)
      ∙ sym (add_cong R (x * turn) (c.start * (x * g)) c.start back)
      ∙ ap (λ (k : ℕ). k % R) all
      ∙ mul_cong R x (turn + c.start * g) 0 (e ∙ sym (zero-mod R))
      ∙ ap (λ (k : ℕ). k % R) (mul-zero x)

  start_none : c.start * g % R ≡ 0 → (0 + c.start * g) % R ≡ 0
  start_none e = ap (λ (k : ℕ). k % R) (let q : 0 + c.start * g ≡ c.start * g = omega arith in q) ∙ e

  start_back : (ahead : ℕ) → ahead ≡ c.start * g % R → (R - ahead + c.start * g) % R ≡ 0
  start_back ahead e =
      let q = c.start * g / R in
      let whole : R - ahead + c.start * g ≡ 0 + suc q * R
      = omega (arith, div-add-mod' (c.start * g) R, mod-lt (c.start * g) some_places, suc-mul q R) in
      ap (λ (k : ℕ). k % R) whole ∙ add-mul-mod_self_right 0 (suc q) R ∙ zero-mod R

  -- the first spot, and the one after another, by what the code tests
  pub first_here : c.start * g % R ≡ 0 → SpotAt c (record { place = 0; turn = 0 }) × (◌≡◌ {A = ℕ} 0 0)
  first_here e = (record { turn_below = some_places; leads = first_place 0 (start_none e) }, refl)

  pub first_behind : (ahead : ℕ) → ahead ≡ c.start * g % R → (ahead ≡ 0 → ⊥) → SpotAt c (record { place = 0; turn = R - ahead }) × (◌≡◌ {A = ℕ} 0 0)
  first_behind ahead e some = (
    record {
      turn_below = omega (arith, some, some_places);
      leads = first_place (R - ahead) (start_back ahead e);
    },
    refl,
  )

  module _ (s : Spot) (at : SpotAt c s) where
    pub next_stays : s.turn < R - g → SpotAt c (record { place = s.place + 1; turn = s.turn + g }) × (s.place + 1 ≡ s.place + 1)
    next_stays l = (
      record {
        turn_below = omega (arith, l);
        leads = next_place s.turn s.place (s.turn + g) at.leads (turn_stays s.turn g R u.advance_below l);
      },
      refl,
    )

    pub next_wraps : R - g ≤ s.turn → SpotAt c (record { place = s.place + 1; turn = s.turn - (R - g) }) × (s.place + 1 ≡ s.place + 1)
    next_wraps l = (
      record {
        turn_below = omega (arith, at.turn_below);
        leads = next_place s.turn s.place (s.turn - (R - g)) at.leads (turn_wraps s.turn g R u.advance_below at.turn_below l);
      },
      refl,
    )

  pub spot_place : (s : Spot) → SpotAt c s → s.place < R → place_of c s.turn ≡ s.place
  spot_place s at h = at.leads ∙ mod-eq_of_lt h

  -- ---- walks

  pub walk_none : (s : Spot) (h : ℕ → ℕ) (xs : List ℕ) → SpotAt c s → Walk c s s 0 h xs xs
  walk_none s h xs at =
      record { spread = spread_none xs (λ i t. let z : ⊥ = omega (arith, t.1, t.2) in z); arrived = at; place_is = omega arith }

  -- the keys of one place
  pub walk_one : (s r : Spot) (h : ℕ → ℕ) {a b : List ℕ} → SpotAt c s → s.place < R → Spread (InTurn n s.turn) h a b → SpotAt c r × (r.place ≡ s.place + 1)
      → Walk c s r 1 h a b
  walk_one s r h {a} {b} at l stored next =
      record { spread = spread_of forth back stored; arrived = next.0; place_is = next.1 }
    where
      here : place_of c s.turn ≡ s.place
      here = spot_place s at l

      forth : (i : ℕ) → i / n ≡ s.turn → OnChain c s.place (s.place + 1) i
      forth i t =
          let e : place_of c (i / n) ≡ s.place = ap (place_of c) t ∙ here in
          (omega (arith, t, at.turn_below), omega (arith, e), omega (arith, e))

      back : (i : ℕ) → OnChain c s.place (s.place + 1) i → i / n ≡ s.turn
      back i t = one_turn (i / n) s.turn t.0 at.turn_below (omega (arith, t.1, t.2, here))

  pub walk_then : (s r t : Spot) (h : ℕ → ℕ) (k m : ℕ) {a b d : List ℕ} → Walk c s r k h a b → Walk c r t m h b d → Walk c s t (k + m) h a d
  walk_then s r t h k m {a} {b} {d} v w =
      record {
        spread = spread_then either
            (λ i q. (q.0, q.1, omega (arith, q.2)))
            (λ i q. (q.0, omega (arith, q.1, v.place_is), omega (arith, q.2, v.place_is)))
            v.spread w.spread;
        arrived = w.arrived;
        place_is = omega (arith, v.place_is, w.place_is);
      }
    where
      by : (i : ℕ) → OnChain c s.place (s.place + (k + m)) i → Dec (place_of c (i / n) < r.place)
          → OnChain c r.place (r.place + m) i ⊎ ((OnChain c r.place (r.place + m) i → ⊥) × OnChain c s.place (s.place + k) i)
      by i q (yes l) = inr ((λ o. let z : ⊥ = omega (arith, o.1, l) in z), (q.0, q.1, omega (arith, l, v.place_is)))
      by i q (no l) = inl (q.0, omega (arith, l), omega (arith, q.2, v.place_is))

      either : (i : ℕ) → OnChain c s.place (s.place + (k + m)) i
          → OnChain c r.place (r.place + m) i ⊎ ((OnChain c r.place (r.place + m) i → ⊥) × OnChain c s.place (s.place + k) i)
      either i q = by i q (dec_lt (place_of c (i / n)) r.place)

  -- the same walk, said otherwise
  pub walk_count : (s r : Spot) (h : ℕ → ℕ) (k m : ℕ) {a b : List ℕ} → k ≡ m → Walk c s r k h a b → Walk c s r m h a b
  walk_count s r h k m {a} {b} e w = subst (λ (j : ℕ). Walk c s r j h a b) e w

  pub walk_as : (s r : Spot) (h f : ℕ → ℕ) (k : ℕ) {a b : List ℕ} → ((i : ℕ) → OnChain c s.place (s.place + k) i → h i ≡ f i) → Walk c s r k h a b → Walk c s r k f a b
  walk_as s r h f k e w = record { spread = spread_as e w.spread; arrived = w.arrived; place_is = w.place_is }

  -- the whole chain
  pub walk_whole : (s r : Spot) (h : ℕ → ℕ) (k : ℕ) {a b : List ℕ} → s.place ≡ 0 → k ≡ R → Walk c s r k h a b → Spread (InTurns n R) h a b
  walk_whole s r h k start all w =
      spread_of (λ i t. t.0) (λ i t. (t, omega (arith, start), omega (arith, start, all, place_below (i / n)))) w.spread

  -- ---- room

  -- a scale degree of the chain is in the slice
  pub turn_room : (turn : ℕ) {len : ℕ} → turn < R → keys_of c ≤ len → turn * n + n ≤ len
  turn_room turn h l = omega (arith, mul-le-mul_right n h, suc-mul turn n)

  -- of one cycle
  pub single_inside : (turn len : ℕ) → n ≡ 1 → turn < R → keys_of c ≤ len → turn < len
  single_inside turn len one h held = omega (arith, h, held, ap (λ (k : ℕ). R * k) one, mul-one R)

  -- part of the way
  pub ahead_part : (s r : Spot) (h : ℕ → ℕ) (k m count : ℕ) {a b : List ℕ} → Ahead c s count a → Walk c s r k h a b → k + m ≤ count → Ahead c r m b
  ahead_part s r h k m count ahead w l =
      record {
        unbroken = u;
        at = w.arrived;
        on_chain = omega (arith, ahead.on_chain, w.place_is);
        held = omega (arith, ahead.held, w.spread.kept);
      }

  -- ---- a run of layers of one size

  -- in its layer k
  pub run_layer_at : (place size first k i : ℕ) → OnChain c (place + k * size) (place + k * size + size) i → (first + k) * n + i % n ≡ run_number c place size first i
  run_layer_at place size first k i t =
      let q : (place_of c (i / n) - place) / size ≡ k
      = div-eq_of_lt-le size (omega (arith, t.1)) (omega (arith, t.1, t.2, add-mul k 1 size, mul_comm 1 size, mul-one size)) in
      ap (λ (j : ℕ). (first + j) * n + i % n) (sym q)

  -- a layer more, of elements that F makes of numbers
  pub run_more : (F : ℕ → ℕ) (s r t : Spot) (size first k : ℕ) {a b d : List ℕ} → Walk c s r (k * size) (λ i. F (run_number c s.place size first i)) a b
      → Walk c r t size (λ i. F ((first + k) * n + i % n)) b d → Walk c s t ((k + 1) * size) (λ i. F (run_number c s.place size first i)) a d
  run_more F s r t size first k v w =
      let h : ℕ → ℕ = λ i. F (run_number c s.place size first i) in
      walk_count s t h (k * size + size) ((k + 1) * size) (omega (arith, add-mul k 1 size, mul_comm 1 size, mul-one size))
      (walk_then s r t h (k * size) size v
      (walk_as r t (λ i. F ((first + k) * n + i % n)) h size
      (λ i o. ap F (run_layer_at s.place size first k i (o.0, omega (arith, o.1, v.place_is), omega (arith, o.2, v.place_is)))) w))

  pub run_room : (k times size : ℕ) → k < times → k * size + size ≤ times * size
  run_room k times size l = omega (arith, mul-le-mul_right size l, suc-mul k size)

  pub run_start : (s : Spot) (h : ℕ → ℕ) (size : ℕ) (xs : List ℕ) → SpotAt c s → Walk c s s (0 * size) h xs xs
  run_start s h size xs at = walk_count s s h 0 (0 * size) (sym (zero-mul size)) (walk_none s h xs at)

  pub run_empty : (s : Spot) (h : ℕ → ℕ) (times size : ℕ) (xs : List ℕ) → size ≡ 0 → SpotAt c s → Walk c s s (times * size) h xs xs
  run_empty s h times size xs e at =
      walk_count s s h 0 (times * size) (sym (ap (λ (k : ℕ). times * k) e ∙ mul-zero times)) (walk_none s h xs at)

-- ---- what the code computes with

pub place_by : (c : Chain) (turn degree place : ℕ) → degree ≡ inverse_of c * turn % c.reduced_period
    → place ≡ (c.start + degree) % c.reduced_period → place ≡ place_of c turn
unfolding place_of
place_by c turn degree place e q = q ∙ ap (λ (k : ℕ). (c.start + k) % c.reduced_period) e

-- the numbers of layer k of a run
pub run_fits : (first times size k n most : ℕ) → (size ≡ 0 → ⊥) → k < times → (first + length (drop_empty (replicate times size))) * n ≤ most
    → (first + k) * n + n ≤ most
run_fits first times size k n most some l h =
    let all : length (drop_empty (replicate times size)) ≡ times = ap length (drop_all times size some) ∙ length-replicate times size in
    let next : suc (first + k) ≤ first + length (drop_empty (replicate times size)) = omega (arith, all) in
    omega (arith, mul-le-mul_right n next, suc-mul (first + k) n)

pub layer_fits : (layer n most : ℕ) → 0 < n → layer * n + n ≤ most → layer < most
layer_fits layer n most some h =
    omega (arith, suc-mul layer n, mul-le-mul_left (suc layer) some, mul-one (suc layer))

-- ---- run by run

module _ (c : Chain) (u : Unbroken c) (runs : Runs) (F : ℕ → ℕ) where
  abbrev run_of : ℕ → List ℕ
  run_of = run_at runs.sizes runs.times

  -- what F makes of the keys' numbers
  abbrev made : ℕ → ℕ
  made = λ i. F (listed_number runs c i)

  pub chain_start : (s : Spot) (xs : List ℕ) → SpotAt c s → Walk c s s (sum (joined run_of 0)) made xs xs
  chain_start s xs at =
      walk_count c u s s made 0 (sum (joined run_of 0)) (sym (ap sum (joined_none run_of))) (walk_none c u s made xs at)

  module _ (i : ℕ) (h : i < 8) where
    abbrev size : ℕ
    size = get_or runs.sizes i 0

    abbrev times : ℕ
    times = get_or runs.times i 0

    module _ (s r : Spot) (begun : s.place ≡ 0) {a b : List ℕ} (v : Walk c s r (sum (joined run_of i)) made a b) where
      pub chain_ahead : sum (run_sizes runs) ≡ c.reduced_period → keys_of c ≤ length a → Ahead c r (times * size) b
      chain_ahead fill held =
          record {
            unbroken = u;
            at = v.arrived;
            on_chain = omega (arith, v.place_is, run_within runs i h);
            held = omega (arith, v.spread.kept);
          }

      pub chain_more : (t : Spot) (first : ℕ) {d : List ℕ} → first ≡ length (drop_empty (joined run_of i))
          → Walk c r t (times * size) (λ j. F (run_number c r.place size first j)) b d → Walk c s t (sum (joined run_of (i + 1))) made a d
      chain_more t first {d} counted w =
          walk_count c u s t made (sum (joined run_of i) + times * size) (sum (joined run_of (i + 1))) (sym (run_span runs i h))
          (walk_then c u s r t made (sum (joined run_of i)) (times * size) v
          (walk_as c u r t (λ j. F (run_number c r.place size first j)) made (times * size) each w))
        where
          each : (j : ℕ) → OnChain c r.place (r.place + times * size) j → F (run_number c r.place size first j) ≡ F (listed_number runs c j)
          each j o =
              let place = place_of c (j / c.num_cycles) in
              ap (λ (k : ℕ). F (k * c.num_cycles + j % c.num_cycles))
              (here_found runs i h place (place - r.place) first (omega (arith, o.1, v.place_is)) counted (omega (arith, o.1, o.2, mul_comm times size)))

    pub chain_fits : (first most : ℕ) → first ≡ length (drop_empty (joined run_of i)) → length (drop_empty (run_sizes runs)) * c.num_cycles ≤ most
        → (first + length (drop_empty (replicate times size))) * c.num_cycles ≤ most
    chain_fits first most counted b =
        let few : first + length (drop_empty (replicate times size)) ≤ length (drop_empty (run_sizes runs)) = omega (arith, layers_within runs i h) in
        omega (arith, mul-le-mul_right c.num_cycles few)

  pub chain_done : (s r : Spot) (i : ℕ) {a b : List ℕ} → s.place ≡ 0 → i ≤ 8 → 8 ≤ i → sum (run_sizes runs) ≡ c.reduced_period
      → Walk c s r (sum (joined run_of i)) made a b → Spread (InTurns c.num_cycles c.reduced_period) made a b
  chain_done s r i begun l m fill v =
      let e : i ≡ 8 = omega arith in
      walk_whole c u s r made (sum (joined run_of i)) begun (ap (λ (k : ℕ). sum (joined run_of k)) e ∙ fill) v
