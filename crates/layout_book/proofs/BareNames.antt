-- A name is the bare name of its degree and a star for each cycle before its own; bare names are the same in the order of the keys and
-- along the chain.
use Rattle.std.specs.Prelude.{None, Option, Some}
use Prim.Native.Nat.{ℕ, ◌+◌, ◌*◌, ◌-◌, ◌/◌, ◌%◌, ◌≤◌, ◌<◌}
use mathlib.Core.Path.{◌≡◌, refl, sym, ap, ap₂, ◌∙◌}
use mathlib.Core.Bool.{Bool, true, false}
use mathlib.Core.List.{List, [], ◌∷◌, ◌++◌, append-nil}
use lib.Arith.{digits_div, digits_mod}
use lib.Dec.{ltb}
use lib.IntN.{pos}
use lib.ListN.{length, replicate, length-append, length-replicate}
use borrow.Author.Tests.{lt-ltb, le-ltb, ltb-true, ltb-false}
use native.Mathlib.Nat.{mod-eq-sub-mod, mod-eq_of_lt, mod-lt, zero-mod}
use native.Mathlib.Omega.{arith}
use Rattle.answer.specs.Choice.{pick}
use Rattle.text.specs.Writing.{joined}
use Rattle.text.proofs.Joined.{joined_blocks}
use Rattle.genchain.specs.Chains.{chain_of}
use Rattle.layout.specs.declared.prepared.Prepared.{Prepared}
use Rattle.layout.specs.Layouts.{accidentals_in, sharp_first}
use Rattle.layout.specs.Names.{name_in, listed_name}
use Rattle.layout.specs.Parts.{layout_in}
use Rattle.layout.proofs.Readiness.{parts_ready, spellings_are}
use Rattle.notes.specs.Names.{letter_alone, printed, in_order, spelling_text, spellings_text, name_text}
use Rattle.pergen.specs.declared.Accidentals.{Accidentals}
use Rattle.pergen.specs.declared.Generation.{Generation}
use Rattle.pergen.specs.declared.Spelling.{Spelling}
use Rattle.pergen.specs.declared.euclid.Solved.{Solved}
use Rattle.pergen.specs.Pergen.{shown}
use Rattle.pergen.specs.Spelling.{stars_of, sharp_spelling, flat_spelling, sharp_coordinate, flat_coordinate, by_coordinates, accidentals_of}
use Rattle.pergen.specs.Parts.{generation_from}
use Rattle.pergen.proofs.Indices.{flat_inside, flat_past, accidentals_high}
use Rattle.layout_book.specs.Parts.{flat_beside, place_at, bare_at}
use Rattle.layout_book.proofs.NameBounds.{name_short}
use Rattle.layout_book.proofs.ReadyNumbers.{Numbers}
use Rattle.layout_book.proofs.Turning.{sum, turned_sum, Turned, turned}
use Rattle.layout_book.proofs.Rounds.{length_joined_sum, stars_below, growing_sum, scaled_sum}

-- ---- stars

-- the spellings of coordinates, by the tests that tell which are printed
abbrev tested : Option ℕ → ℕ → ℕ → ℕ → Bool → Bool → Bool → Bool → List Spelling
tested c N sharp flat x y z w =
    let a = by_coordinates c N sharp flat in
    pick x (sharp_spelling a ∷ [])
    (pick y (sharp_spelling a ∷ []) (pick z (flat_spelling a ∷ []) (in_order w (sharp_spelling a) (flat_spelling a))))

module _ (letters : List ℕ) (sf : Bool) (N sharp flat : ℕ) where
  -- parentheses do not go by the number
  same_tested : (c : ℕ) (x y z w : Bool)
      → spellings_text letters sf (Some c) (tested (Some c) N sharp flat x y z w)
      ≡ spellings_text letters sf (Some 0) (tested (Some 0) N sharp flat x y z w)
  unfolding sharp_spelling flat_spelling by_coordinates spelling_text
  same_tested c true y z w = refl
  same_tested c false true z w = refl
  same_tested c false false true w = refl
  same_tested c false false false true = refl
  same_tested c false false false false = refl

  same_spellings : (c : ℕ)
      → spellings_text letters sf (Some c) (printed sf (by_coordinates (Some c) N sharp flat))
      ≡ spellings_text letters sf (Some 0) (printed sf (by_coordinates (Some 0) N sharp flat))
  unfolding printed letter_alone by_coordinates
  same_spellings c =
      same_tested c (letter_alone (by_coordinates (Some c) N sharp flat)) (ltb (sharp / N) (flat / N)) (ltb (flat / N) (sharp / N)) sf

  starred : (n c : ℕ) → c < n
      → name_text letters sf (by_coordinates (shown n c) N sharp flat)
      ≡ name_text letters sf (by_coordinates (shown n 0) N sharp flat) ++ replicate c 42
  unfolding name_text by_coordinates
  starred n c h = by (ltb 1 n) refl
    where
      by : (b : Bool) → ltb 1 n ≡ b
          → name_text letters sf (by_coordinates (shown n c) N sharp flat)
          ≡ name_text letters sf (by_coordinates (shown n 0) N sharp flat) ++ replicate c 42
      by true q =
          rw (q, append-nil) (ap (λ (t : List ℕ). t ++ replicate c 42) (same_spellings c))
      by false q =
          let z : c ≡ 0 = omega (arith, ltb-false 1 n q) in
          rw (q, z) (sym (append-nil (name_text letters sf (by_coordinates None N sharp flat))))

pub no_stars : (n : ℕ) → stars_of (shown n 0) ≡ 0
no_stars n = by (ltb 1 n)
  where
    by : (b : Bool) → stars_of (pick b (Some 0) None) ≡ 0
    by true = refl
    by false = refl

-- key 0's cycle
pub first_shown : (solved : Solved) (number : ℕ) → number ≡ 0 → (g : Generation) → g ≡ generation_from solved number
    → g.cycle ≡ shown solved.num_cycles 0
unfolding generation_from
first_shown solved number none g is =
    ap (λ (x : Generation). x.cycle) is
    ∙ ap (shown solved.num_cycles) (ap (λ (i : ℕ). i % solved.num_cycles) none ∙ zero-mod solved.num_cycles)

-- the place of a turn's keys
abbrev pub turn_place : Prepared → ℕ → ℕ
turn_place p t = (p.found.start + p.solved.generator_inverse * t % p.solved.reduced_period) % p.solved.reduced_period

module _ (p : Prepared) (h : Numbers p) where
  abbrev degrees : ℕ
  degrees = p.solved.reduced_period

  abbrev cycles : ℕ
  cycles = p.solved.num_cycles

  abbrev inverse : ℕ
  inverse = p.solved.generator_inverse

  abbrev letters : ℕ
  letters = p.found.num_letters

  abbrev start : ℕ
  start = p.found.start

  abbrev name : ℕ → List ℕ
  name = listed_name (layout_in p)

  abbrev text_of : Accidentals → List ℕ
  text_of a = name_text (chain_of p.found.chain).letters (sharp_first (layout_in p)) a

  some_degrees : 0 < degrees
  some_degrees = omega (arith, h.walkable.below)

  -- ---- places along the chain

  flat_beside_lem : (d : ℕ) → d < degrees + (letters - 1) → 0 < letters
      → flat_coordinate degrees letters d ≡ flat_beside degrees letters (d % degrees)
  unfolding flat_beside
  flat_beside_lem d l some = by (ltb d letters) (ltb d degrees) refl refl
    where
      by : (b b' : Bool) → ltb d letters ≡ b → ltb d degrees ≡ b' → flat_coordinate degrees letters d ≡ flat_beside degrees letters (d % degrees)
      by true b' q q' =
          let k : d < letters = ltb-true d letters q in
          let m : d % degrees ≡ d = mod-eq_of_lt (omega (arith, k, h.enough)) in
          sym (flat_inside degrees letters d some h.enough (omega (arith, k)))
          ∙ sym (rw (m, lt-ltb d letters k) refl)
      by false true q q' =
          let k : letters ≤ d = ltb-false d letters q in
          let m : d % degrees ≡ d = mod-eq_of_lt (ltb-true d degrees q') in
          sym (flat_past degrees letters d some (omega (arith, k, some)) (omega (arith, l, some)))
          ∙ sym (rw (m, le-ltb d letters k) refl)
      by false false q q' =
          let k : degrees ≤ d = ltb-false d degrees q' in
          let m : d % degrees ≡ d - degrees = mod-eq-sub-mod k ∙ mod-eq_of_lt (let z : d - degrees < degrees = omega (arith, l, h.enough, some) in z) in
          let b : d - degrees < letters = omega (arith, l, k) in
          sym (flat_past degrees letters d some (omega (arith, k, some, h.enough)) (omega (arith, l, some)))
          ∙ sym (rw (m, lt-ltb (d - degrees) letters b) (let z : letters - 1 - (d - degrees) ≡ degrees + (letters - 1) - d = omega (arith, k, l) in z))

  -- the spellings of a degree in a cycle, by its place
  abbrev spelled_at : ℕ → ℕ → Accidentals
  spelled_at place c = by_coordinates (shown cycles c) letters place (flat_beside degrees letters place)

  degree_spelled : (d c : ℕ) → d < degrees → accidentals_of degrees letters start d (shown cycles c) ≡ spelled_at ((start + d) % degrees) c
  unfolding sharp_coordinate
  degree_spelled d c l =
      sym (accidentals_high degrees letters start d (shown cycles c) h.enough _ _ refl refl)
      ∙ ap (by_coordinates (shown cycles c) letters ((start + d) % degrees))
      (flat_beside_lem (start + d) (omega (arith, l, h.start_below)) (omega (arith, h.start_below)))

  turn_spelled : (t c : ℕ) → c < cycles → accidentals_in (layout_in p) (pos (t * cycles + c)) ≡ spelled_at (turn_place p t) c
  unfolding generation_from
  turn_spelled t c l =
      sym (spellings_are p h.ready (t * cycles + c) (generation_from p.solved (t * cycles + c)) refl _ refl)
      ∙ ap₂ (λ (q r : ℕ). accidentals_of degrees letters start (inverse * q % degrees) (shown cycles r)) (digits_div t l) (digits_mod t l)
      ∙ degree_spelled (inverse * t % degrees) c (mod-lt (inverse * t) some_degrees)

  -- a turn's key in a cycle
  pub name_starred : (t c : ℕ) → c < cycles → name (t * cycles + c) ≡ bare_at p (turn_place p t) ++ replicate c 42
  unfolding name_in bare_at place_at
  name_starred t c l =
      ap text_of (turn_spelled t c l)
      ∙ starred (chain_of p.found.chain).letters (sharp_first (layout_in p)) letters _ _ cycles c l

  -- ---- lengths

  turning : Turned degrees (turn_place p) (λ (place : ℕ). h.partner * (place + (degrees - start)) % degrees)
  turning = turned degrees inverse h.partner start some_degrees h.partner_is (omega (arith, h.start_below, h.enough))

  -- each place is that of a key in cycle 0
  pub bare_short : (place : ℕ) → place < degrees → length (bare_at p place) ≤ 39325
  bare_short place l =
      let t = h.partner * (place + (degrees - start)) % degrees in
      omega (
        arith,
        ap (λ (x : ℕ). length (bare_at p x)) (turning.right place l),
        ap length (name_starred t 0 h.walkable.some_cycles),
        length-append (bare_at p (turn_place p t)) (replicate 0 42),
        name_short (layout_in p) (parts_ready p h.ready) h.few_keys (pos (t * cycles + 0)),
      )

  -- the degrees of all turns are those of all places
  bare_sum : sum (λ (t : ℕ). length (bare_at p (turn_place p t))) degrees ≡ sum (λ (place : ℕ). length (bare_at p place)) degrees
  bare_sum =
      turned_sum degrees _ _ turning (λ (place : ℕ). length (bare_at p place))

  turn_length : (t : ℕ) → length (joined (λ (c : ℕ). name (t * cycles + c)) cycles)
      ≡ cycles * length (bare_at p (turn_place p t)) + sum (λ (c : ℕ). c) cycles
  turn_length t =
      length_joined_sum (λ (c : ℕ). name (t * cycles + c)) cycles
      ∙ growing_sum (λ (c : ℕ). length (name (t * cycles + c))) (length (bare_at p (turn_place p t))) cycles
      (λ c l. ap length (name_starred t c l)
      ∙ length-append (bare_at p (turn_place p t)) (replicate c 42)
      ∙ ap (λ (x : ℕ). length (bare_at p (turn_place p t)) + x) (length-replicate {A = ℕ} c 42))

  pub names_length : length (joined name (degrees * cycles))
      ≡ cycles * length (joined (bare_at p) degrees) + degrees * (cycles * (cycles - 1) / 2)
  names_length =
      ap length (sym (joined_blocks name cycles degrees))
      ∙ length_joined_sum (λ (t : ℕ). joined (λ (c : ℕ). name (t * cycles + c)) cycles) degrees
      ∙ scaled_sum (λ (t : ℕ). length (joined (λ (c : ℕ). name (t * cycles + c)) cycles)) (λ (t : ℕ). length (bare_at p (turn_place p t))) cycles
      (sum (λ (c : ℕ). c) cycles) degrees (λ t l. turn_length t)
      ∙ ap₂ (λ (x y : ℕ). cycles * x + degrees * y) (bare_sum ∙ sym (length_joined_sum (bare_at p) degrees)) (stars_below cycles)
