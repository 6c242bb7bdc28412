-- One place on along the chain, past the letters alone: both indices go up by one; where the letters begin anew there is a sharp more, or
-- a flat less.
use Rattle.std.specs.Prelude.{Option}
use Prim.Native.Nat.{ℕ, ◌+◌, ◌*◌, ◌-◌, ◌/◌, ◌%◌, ◌≤◌, ◌<◌}
use mathlib.Core.Path.{◌≡◌, refl, sym, ap, ap₂, ◌∙◌, subst}
use mathlib.Core.Bool.{Bool, true, false}
use lib.Arith.{digits_div, digits_mod}
use lib.Dec.{ltb}
use lib.ListN.{length}
use borrow.Author.Tests.{ltb-true, ltb-false}
use native.Mathlib.Nat.{mod-lt, mod_self, mod-eq_of_lt, div_self, div-eq_of_lt, div-le_self, mul_comm, mul-one, mul-le-mul, le_refl, le_antisymm}
use native.Mathlib.Omega.{arith}
use Rattle.text.specs.Writing.{joined}
use Rattle.text.proofs.Joined.{joined_none, length_joined_more}
use Rattle.genchain.specs.Chains.{chain_of}
use Rattle.layout.specs.declared.prepared.Prepared.{Prepared}
use Rattle.layout.specs.Layouts.{sharp_first}
use Rattle.layout.specs.Parts.{layout_in}
use Rattle.notes.specs.Names.{name_text}
use Rattle.notes.specs.Parts.{Measured}
use Rattle.notes.specs.declared.plans.NamePlan.{NamePlan}
use Rattle.pergen.specs.declared.Accidentals.{Accidentals}
use Rattle.pergen.specs.Pergen.{shown}
use Rattle.pergen.specs.Spelling.{by_coordinates}
use Rattle.pergen.proofs.CarriedWalk.{stay_high, stay_low, carry_high, carry_low}
use Rattle.layout_book.specs.Parts.{SpelledPlanned, place_at, one_place_on, CanGoOn, bare_at, stretch_name, Stretch}
use Rattle.layout_book.proofs.ReadyNumbers.{Numbers}
use Rattle.layout_book.proofs.BareNames.{bare_short}
use Rattle.layout_book.proofs.BareLengths.{flat_past_letters}

-- ---- a letter on

pub letter_stays : (n i : ℕ) → i + 1 < n → i + 1 ≡ (i + 1) % n
letter_stays n i l = sym (mod-eq_of_lt l)

pub letter_first : (n i : ℕ) → i < n → n ≤ i + 1 → 0 ≡ (i + 1) % n
letter_first n i l h = sym (ap (λ (x : ℕ). x % n) (let q : i + 1 ≡ n = omega arith in q) ∙ mod_self n)

pub carry_none : (n i : ℕ) → i + 1 < n → 0 ≡ (i + 1) / n
carry_none n i l = sym (div-eq_of_lt l)

pub carry_one : (n i : ℕ) → i < n → n ≤ i + 1 → 1 ≡ (i + 1) / n
carry_one n i l h = sym (ap (λ (x : ℕ). x / n) (let q : i + 1 ≡ n = omega arith in q) ∙ div_self (omega arith))

-- ---- indices and counts at a place

pub record Placed (N R place sharp sharps flat flats : ℕ) : Type 0 where
  pub sharp_is : sharp ≡ place % N
  pub sharps_is : sharps ≡ place / N
  pub flat_is : flat ≡ N - 1 - (R + (N - 1) - place) % N
  pub flats_is : flats ≡ (R + (N - 1) - place) / N

module _ (N : ℕ) (some : 0 < N) where
  -- up: remainder and quotient of the next number
  up_index : (place : ℕ) → (place % N + 1) % N ≡ (place + 1) % N
  up_index place = by (ltb (place % N + 1) N) refl
    where
      by : (b : Bool) → ltb (place % N + 1) N ≡ b → (place % N + 1) % N ≡ (place + 1) % N
      by true q = let l = ltb-true (place % N + 1) N q in mod-eq_of_lt l ∙ sym (stay_low N place some l)
      by false q =
          let l = ltb-false (place % N + 1) N q in sym (letter_first N (place % N) (mod-lt place some) l) ∙ sym (carry_low N place some l)

  up_count : (place : ℕ) → place / N + (place % N + 1) / N ≡ (place + 1) / N
  up_count place = by (ltb (place % N + 1) N) refl
    where
      by : (b : Bool) → ltb (place % N + 1) N ≡ b → place / N + (place % N + 1) / N ≡ (place + 1) / N
      by true q = let l = ltb-true (place % N + 1) N q in omega (arith, carry_none N (place % N) l, stay_high N place some l)
      by false q =
          let l = ltb-false (place % N + 1) N q in omega (arith, carry_one N (place % N) (mod-lt place some) l, carry_high N place some l)

  -- down: of the number before, the remainder taken from the last index
  down_index : (f : ℕ) → (N - 1 - (f + 1) % N + 1) % N ≡ N - 1 - f % N
  down_index f = by (ltb (f % N + 1) N) refl
    where
      by : (b : Bool) → ltb (f % N + 1) N ≡ b → (N - 1 - (f + 1) % N + 1) % N ≡ N - 1 - f % N
      by true q =
          let l = ltb-true (f % N + 1) N q in
          let e : N - 1 - (f + 1) % N + 1 ≡ N - 1 - f % N = omega (arith, stay_low N f some l, l) in
          ap (λ (x : ℕ). x % N) e ∙ mod-eq_of_lt (omega (arith, some))
      by false q =
          let l = ltb-false (f % N + 1) N q in
          let e : N - 1 - (f + 1) % N + 1 ≡ N = omega (arith, carry_low N f some l, some) in
          ap (λ (x : ℕ). x % N) e ∙ mod_self N ∙ omega (arith, l, mod-lt f some)

  down_count : (f : ℕ) → (f + 1) / N - (N - 1 - (f + 1) % N + 1) / N ≡ f / N
  down_count f = by (ltb (f % N + 1) N) refl
    where
      by : (b : Bool) → ltb (f % N + 1) N ≡ b → (f + 1) / N - (N - 1 - (f + 1) % N + 1) / N ≡ f / N
      by true q =
          let l = ltb-true (f % N + 1) N q in
          let e : N - 1 - (f + 1) % N + 1 < N = omega (arith, stay_low N f some l, l) in
          omega (arith, div-eq_of_lt e, stay_high N f some l)
      by false q =
          let l = ltb-false (f % N + 1) N q in
          let e : N - 1 - (f + 1) % N + 1 ≡ N = omega (arith, carry_low N f some l, some) in
          omega (arith, ap (λ (x : ℕ). x / N) e, div_self some, carry_high N f some l)

  module _ (R place sharp sharps flat flats : ℕ) (w : Placed N R place sharp sharps flat flats) where
    pub sharp_inside : sharp < N
    sharp_inside = omega (arith, w.sharp_is, mod-lt place some)

    pub flat_inside : flat < N
    flat_inside = omega (arith, w.flat_is, some)

    module _ (l : place < R) where
      before : R + (N - 1) - place ≡ R + (N - 1) - (place + 1) + 1
      before = omega (arith, l)

      pub placed_next : {a b c d : ℕ} → a ≡ (sharp + 1) % N → b ≡ (sharp + 1) / N → c ≡ (flat + 1) % N → d ≡ (flat + 1) / N
          → Placed N R (place + 1) a (sharps + b) c (flats - d)
      placed_next ea eb ec ed =
          let f = R + (N - 1) - (place + 1) in
          let e : flat ≡ N - 1 - (f + 1) % N = w.flat_is ∙ ap (λ (x : ℕ). N - 1 - x % N) before in
          record {
            sharp_is = ea ∙ ap (λ (x : ℕ). (x + 1) % N) w.sharp_is ∙ up_index place;
            sharps_is = ap₂ (λ (x y : ℕ). x + y) w.sharps_is (eb ∙ ap (λ (x : ℕ). (x + 1) / N) w.sharp_is) ∙ up_count place;
            flat_is = ec ∙ ap (λ (x : ℕ). (x + 1) % N) e ∙ down_index f;
            flats_is =
                ap₂ (λ (x y : ℕ). x - y) (w.flats_is ∙ ap (λ (x : ℕ). x / N) before) (ed ∙ ap (λ (x : ℕ). (x + 1) / N) e) ∙ down_count f;
          }

      -- there is a flat to take away
      pub some_flats : N ≤ place → {d : ℕ} → d ≡ (flat + 1) / N → d ≤ flats
      some_flats h {d} ed =
          let f = R + (N - 1) - (place + 1) in
          let e : flat ≡ N - 1 - (f + 1) % N = w.flat_is ∙ ap (λ (x : ℕ). N - 1 - x % N) before in
          by f (ed ∙ ap (λ (x : ℕ). (x + 1) / N) e) (w.flats_is ∙ ap (λ (x : ℕ). x / N) before) (ltb (f % N + 1) N) refl
        where
          by : (f : ℕ) → d ≡ (N - 1 - (f + 1) % N + 1) / N → flats ≡ (f + 1) / N → (b : Bool) → ltb (f % N + 1) N ≡ b → d ≤ flats
          by f u v true q =
              let k = ltb-true (f % N + 1) N q in
              let less : N - 1 - (f + 1) % N + 1 < N = omega (arith, stay_low N f some k, k) in
              omega (arith, u, v, div-eq_of_lt less)
          by f u v false q =
              let k = ltb-false (f % N + 1) N q in
              let all : N - 1 - (f + 1) % N + 1 ≡ N = omega (arith, carry_low N f some k, some) in
              omega (arith, u, v, ap (λ (x : ℕ). x / N) all, div_self some, carry_high N f some k)

  pub placed_first : (R sharps : ℕ) {flat : ℕ} → flat ≡ R + (N - 1) - N * sharps
      → Placed N R (N * sharps) 0 sharps (N - 1 - flat % N) (flat / N)
  placed_first R sharps e =
      let q : N * sharps ≡ sharps * N + 0 = omega (arith, mul_comm N sharps) in
      record {
        sharp_is = sym (ap (λ (x : ℕ). x % N) q ∙ digits_mod sharps some);
        sharps_is = sym (ap (λ (x : ℕ). x / N) q ∙ digits_div sharps some);
        flat_is = ap (λ (x : ℕ). N - 1 - x % N) e;
        flats_is = ap (λ (x : ℕ). x / N) e;
      }

-- ---- a loop that adds the lengths of a stretch's names

-- before a place, the spellings are the place's, and the total is the length of the names before it
pub record Adding (p : Prepared) (from end place : ℕ) (a : Accidentals) (total : ℕ) : Type 0 where
  pub numbers : Numbers p
  pub stretch : Stretch p from end
  pub cycle_is : a.cycle ≡ shown p.solved.num_cycles 0
  pub placed : Placed p.found.num_letters p.solved.reduced_period place a.sharp_index a.sharp_count a.flat_index a.flat_count
  pub begun : p.found.num_letters * from ≤ place
  pub inside : place ≤ end
  pub is : total ≡ length (joined (stretch_name p from) (place - p.found.num_letters * from))
  pub small : total ≤ 39325 * (place - p.found.num_letters * from)

module _ (p : Prepared) (h : Numbers p) (from end : ℕ) (w : Stretch p from end) where
  abbrev first : ℕ
  first = p.found.num_letters * from

  -- the first place is past the letters alone
  pub first_past : p.found.num_letters ≤ first
  first_past =
      let N = p.found.num_letters in
      let q : N * 1 ≤ N * from = mul-le-mul {n₂ = N} {m₂ = from} (le_refl N) w.past in
      omega (arith, mul-one N, q)

  pub adding_first : {c : Option ℕ} {flat : ℕ} → c ≡ shown p.solved.num_cycles 0
      → flat ≡ p.solved.reduced_period + (p.found.num_letters - 1) - first
      → Adding p from end first
      (record {
        cycle = c;
        sharp_index = 0;
        sharp_count = from;
        flat_index = p.found.num_letters - 1 - flat % p.found.num_letters;
        flat_count = flat / p.found.num_letters;
      })
      0
  adding_first e q =
      let none : first - first ≡ 0 = omega arith in
      record {
        numbers = h;
        stretch = w;
        cycle_is = e;
        placed = placed_first p.found.num_letters (omega (arith, h.five)) p.solved.reduced_period from q;
        begun = omega arith;
        inside = w.inside;
        is = sym (ap (λ (k : ℕ). length (joined (stretch_name p from) k)) none ∙ ap length (joined_none (stretch_name p from)));
        small = omega arith;
      }

module _ {p : Prepared} {from end place : ℕ} {a : Accidentals} {total : ℕ} (w : Adding p from end place a total) where
  abbrev N : ℕ
  N = p.found.num_letters

  abbrev R : ℕ
  R = p.solved.reduced_period

  some_letters : 0 < N
  some_letters = omega (arith, w.numbers.five)

  module _ (more : place < end) where
    below : place < R
    below = omega (arith, w.stretch.end_inside)

    past : N ≤ place
    past = omega (arith, first_past p w.numbers from end w.stretch, w.begun)

    next : Placed N R (place + 1) ((a.sharp_index + 1) % N) (a.sharp_count + (a.sharp_index + 1) / N) ((a.flat_index + 1) % N)
        (a.flat_count - (a.flat_index + 1) / N)
    next = placed_next N some_letters R place a.sharp_index a.sharp_count a.flat_index a.flat_count w.placed below refl refl refl refl

    pub can_go_on : CanGoOn N a
    can_go_on =
        record {
          sharp_inside = sharp_inside N some_letters R place a.sharp_index a.sharp_count a.flat_index a.flat_count w.placed;
          sharps_fit = omega (arith, next.sharps_is, div-le_self (place + 1) N, below, w.numbers.few_degrees);
          flat_inside = flat_inside N some_letters R place a.sharp_index a.sharp_count a.flat_index a.flat_count w.placed;
          flat_left = some_flats N some_letters R place a.sharp_index a.sharp_count a.flat_index a.flat_count w.placed below past refl;
        }

    -- with the name at the place, by a plan of it that was measured
    module _ {plan : NamePlan} {m : ℕ} (planned : SpelledPlanned p a plan) (measured : Measured plan m) where
      place_is : a ≡ place_at p place
      unfolding place_at by_coordinates
      place_is =
          ap₂ (λ (c : Option ℕ) (i : ℕ). record { cycle = c; sharp_index = i; sharp_count = a.sharp_count; flat_index = a.flat_index; flat_count = a.flat_count })
          w.cycle_is w.placed.sharp_is
          ∙ rw (w.placed.sharps_is, w.placed.flat_is, w.placed.flats_is, flat_past_letters p place past) refl

      name_is : m ≡ length (bare_at p place)
      unfolding bare_at
      name_is =
          measured.length_is
          ∙ ap length planned.text
          ∙ ap (λ (x : Accidentals). length (name_text (chain_of p.found.chain).letters (sharp_first (layout_in p)) x)) place_is

      pub total_fits : total + m ≤ 39325 * 65535
      total_fits = omega (arith, w.small, name_is, bare_short p w.numbers place below, below, w.numbers.few_degrees)

      pub adding_next : {b : Accidentals} → b ≡ one_place_on N a → Adding p from end (place + 1) b (total + m)
      unfolding stretch_name
      adding_next {b} e =
          let k = place - N * from in
          let here : N * from + k ≡ place = omega (arith, w.begun) in
          let on : place + 1 - N * from ≡ k + 1 = omega (arith, w.begun) in
          subst (λ (x : Accidentals). Adding p from end (place + 1) x (total + m)) (sym e)
          (record {
            numbers = w.numbers;
            stretch = w.stretch;
            cycle_is = w.cycle_is;
            placed = next;
            begun = omega (arith, w.begun);
            inside = omega (arith, more);
            is =
                ap₂ (λ (x y : ℕ). x + y) w.is (name_is ∙ ap (λ (x : ℕ). length (bare_at p x)) (sym here))
                ∙ sym (ap (λ (x : ℕ). length (joined (stretch_name p from) x)) on ∙ length_joined_more (stretch_name p from) k);
            small = omega (arith, w.small, on, bare_short p w.numbers place below, name_is);
          })

  pub all_added : end ≤ place → (total ≡ length (joined (stretch_name p from) (end - N * from))) × (total ≤ 39325 * 65535)
  all_added done =
      let all : place ≡ end = le_antisymm w.inside done in (
        w.is ∙ ap (λ (k : ℕ). length (joined (stretch_name p from) (k - N * from))) all,
        omega (arith, w.small, w.inside, w.stretch.end_inside, w.numbers.few_degrees),
      )
