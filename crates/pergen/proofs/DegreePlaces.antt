-- The sharp and the flat spelling of a key stand at places that differ from its degree by a multiple of R, so they sound it.
use Rattle.std.specs.Prelude.{None, Option, Some}
use Prim.Native.Nat.{ℕ, zero, ◌+◌, ◌*◌, ◌-◌, ◌/◌, ◌%◌, ◌≤◌, ◌<◌}
use mathlib.Core.Path.{◌≡◌, refl, sym, ap, subst, ◌∙◌}
use mathlib.Core.Bool.{Bool, true, false}
use lib.Dec.{leb, ltb}
use lib.IntN.{ℤ, pos}
use borrow.Author.Tests.{leb-false, ltb-false}
use native.Mathlib.Nat.{mod-lt, mod-eq_of_lt, mod-mod, mod-add-div, add_comm, mul-zero, mul-add, mod-eq-sub-mod, mod-le, add-zero, mod-one}
use native.Mathlib.Decide.{dec_lt}
use native.Mathlib.Omega.{arith}
use Rattle.answer.specs.Choice.{pick}
use Rattle.math.specs.Division.{remainder, Apart}
use Rattle.math.proofs.Congruence.{add_cong, add_cancel}
use Rattle.math.proofs.Integers.{Rep, rep_pos, rep_neg, rep_add, rep_minus, rep_mul}
use Rattle.math.proofs.Division.{remainder_rep, remainders_agree, remainder→apart}
use Rattle.pergen.specs.declared.Accidentals.{Accidentals}
use Rattle.pergen.specs.declared.Signs.TheVariants.{Sharps, Flats}
use Rattle.pergen.specs.declared.Spelling.{Spelling}
use Rattle.pergen.specs.Pergen.{cycles, reduced, cycle, key_degree, key_cycle, cycle_of}
use Rattle.pergen.specs.Spelling.{sharp_coordinate, flat_coordinate, by_coordinates, low_sharp_index, low_flat_index, by_indices, accidentals_of, key_accidentals, place, sounds, sounded_key, stars_of, sharp_spelling, flat_spelling}
use Rattle.pergen.specs.Theorems.{PlacesOfTheDegree, SoundsOfTheKey, IndicesOfSymbols, AccidentalsSoundTheirKey, LetterWithoutSigns, FewSigns}
use Rattle.pergen.proofs.Inverse.{cycles_positive}
use Rattle.pergen.proofs.Keys.{key_degree_below, degree_sounds_key}
use Rattle.pergen.proofs.Indices.{flat_rep, LowIndex, low_sharp, low_flat, accidentals_high, sharp_small, flat_small}

-- ---- a spelling's place as a difference of naturals

pub place_sharps : (N o index k stars : ℕ) → Rep (place N o (record { index = index; signs = Sharps k; stars = stars })) (index + N * k) o
unfolding place
place_sharps N o index k stars =
    record { eq = omega (arith, (rep_minus (rep_add (rep_pos index) (rep_mul N (rep_pos k))) (rep_pos o)).eq, mul-zero N) }

pub place_flats : (N o index k stars : ℕ) → Rep (place N o (record { index = index; signs = Flats k; stars = stars })) index (N * k + o)
unfolding place
place_flats N o index k stars =
    record { eq = omega (arith, (rep_minus (rep_add (rep_pos index) (rep_neg (rep_mul N (rep_pos k)))) (rep_pos o)).eq, mul-zero N) }

-- ---- the spellings of a degree e below R, of an origin o below N

module _ (R N o e : ℕ) (c : Option ℕ) (ho : o < N) (he : e < R) where
  abbrev spelt : Accidentals
  spelt = accidentals_of R N o e c

  -- what the theorems say of it
  record Good (a : Accidentals) : Type 0 where
    sharp : Apart R (place N o (sharp_spelling a)) (pos e)
    flat : Apart R (place N o (flat_spelling a)) (pos e)
    sharp_index : a.sharp_index < N
    flat_index : a.flat_index < N

  some_keys : zero < R
  some_keys = omega arith

  some_symbols : zero < N
  some_symbols = omega arith

  -- z is a − b, and a ≡ e + b modulo R
  apart_by : {z : ℤ} {a b : ℕ} → Rep z a b → a % R ≡ (e + b) % R → Apart R z (pos e)
  apart_by {z} {a} {b} r q =
      remainder→apart R some_keys z (pos e)
      ((remainders_agree R some_keys r (rep_pos e)).1 (ap (λ (x : ℕ). x % R) (add-zero a) ∙ q))

  -- R at least N

  sharp_congruent : (x : ℕ) → x ≡ sharp_coordinate R (o + e) → (x % N + N * (x / N)) % R ≡ (e + o) % R
  unfolding sharp_coordinate
  sharp_congruent x q =
      ap (λ (z : ℕ). z % R) (mod-add-div x N)
      ∙ ap (λ (z : ℕ). z % R) q
      ∙ mod-mod (o + e) R
      ∙ ap (λ (z : ℕ). z % R) (add_comm o e)

  -- y + 1 + d ≡ N
  pub flat_sum : (y : ℕ) → y ≡ flat_coordinate R N (o + e) → (y + (0 + 1 + (o + e))) % R ≡ (N + 0 + 0) % R
  unfolding flat_coordinate
  flat_sum y q = ap (λ (z : ℕ). (z + (0 + 1 + (o + e))) % R) q ∙ remainder_rep R some_keys (flat_rep N (o + e))

  flat_congruent : (y : ℕ) → y ≡ flat_coordinate R N (o + e) → (N - 1 - y % N) % R ≡ (e + (N * (y / N) + o)) % R
  flat_congruent y q =
      add_cancel R (y % N + 1) _ _
      (ap (λ (z : ℕ). z % R) (let t : N - 1 - y % N + (y % N + 1) ≡ N + 0 + 0 = omega (arith, mod-lt y some_symbols) in t)
      ∙ sym (flat_sum y q)
      ∙ ap (λ (z : ℕ). z % R)
      (let t : y + (0 + 1 + (o + e)) ≡ e + (N * (y / N) + o) + (y % N + 1) = omega (arith, mod-add-div y N) in t))

  high : Good (by_coordinates c N (sharp_coordinate R (o + e)) (flat_coordinate R N (o + e)))
  unfolding by_coordinates sharp_spelling flat_spelling
  high =
      let x = sharp_coordinate R (o + e) in
      let y = flat_coordinate R N (o + e) in
      record {
        sharp = apart_by (place_sharps N o (x % N) (x / N) (stars_of c)) (sharp_congruent x refl);
        flat = apart_by (place_flats N o (N - 1 - y % N) (y / N) (stars_of c)) (flat_congruent y refl);
        sharp_index = mod-lt x some_symbols;
        flat_index = omega (arith, mod-lt y some_symbols);
      }

  -- R below N: the index is d or d − R

  low_congruent : (x : ℕ) → LowIndex R N (o + e) x → x % R ≡ (e + o) % R
  low_congruent x h = by h.near.0 h.near.1 h.near.2 ∙ ap (λ (z : ℕ). z % R) (add_comm o e)
    where
      by : (b : Bool) → x ≡ pick b (o + e - R) (o + e) → pick b R 0 ≤ o + e → x % R ≡ (o + e) % R
      by true q l = ap (λ (z : ℕ). z % R) q ∙ sym (mod-eq-sub-mod l)
      by false q l = ap (λ (z : ℕ). z % R) q

  low : (x y : ℕ) → LowIndex R N (o + e) x → LowIndex R N (o + e) y → Good (by_indices c x y)
  unfolding by_indices sharp_spelling flat_spelling
  low x y hx hy =
      record {
        sharp =
            apart_by (place_sharps N o x 0 (stars_of c))
            (ap (λ (z : ℕ). (x + z) % R) (mul-zero N) ∙ ap (λ (z : ℕ). z % R) (add-zero x) ∙ low_congruent x hx);
        flat =
            apart_by (place_flats N o y 0 (stars_of c))
            (low_congruent y hy ∙ ap (λ (z : ℕ). (e + z) % R) (let t : o ≡ N * 0 + o = omega (arith, mul-zero N) in t));
        sharp_index = hx.below;
        flat_index = hy.below;
      }

  good : Good (accidentals_of R N o e c)
  unfolding accidentals_of
  good = by (leb N R) refl
    where
      by : (b : Bool) → leb N R ≡ b
          → Good (pick b
          (by_coordinates c N (sharp_coordinate R (o + e)) (flat_coordinate R N (o + e)))
          (by_indices c (low_sharp_index R N (o + e)) (low_flat_index R (o + e) e)))
      by true q = high
      by false q =
          let h : R < N = leb-false N R q in
          low _ _ (low_sharp R N o e ho he h) (low_flat R N o e ho he h)

-- ---- the spellings of a key

pub stars_of_key : (P G : ℕ) (key : ℤ) → zero < P → stars_of (cycle_of P G key) ≡ key_cycle P G key
unfolding cycle_of key_cycle cycle
stars_of_key P G key hP = by (ltb 1 (cycles P G)) refl
  where
    by : (b : Bool) → ltb 1 (cycles P G) ≡ b
        → stars_of (pick b (Some (remainder key P % cycles P G)) None) ≡ remainder key P % cycles P G
    by true q = refl
    by false q = sym (ap (λ (n : ℕ). remainder key P % n) (one (ltb-false 1 (cycles P G) q)) ∙ mod-one (remainder key P))
      where
        one : cycles P G ≤ 1 → cycles P G ≡ 1
        one h = omega (arith, cycles_positive P G hP)

pub cycle_kept : (R N o e : ℕ) (c : Option ℕ) → (accidentals_of R N o e c).cycle ≡ c
unfolding accidentals_of by_coordinates by_indices
cycle_kept R N o e c = by (leb N R)
  where
    by : (b : Bool)
        → (pick b
        (by_coordinates c N (sharp_coordinate R (o + e)) (flat_coordinate R N (o + e)))
        (by_indices c (low_sharp_index R N (o + e)) (low_flat_index R (o + e) e))).cycle ≡ c
    by true = refl
    by false = refl

module _ (P G N o : ℕ) (key : ℤ) (hP : zero < P) (ho : o < N) where
  good_key : Good (reduced P G) N o (key_degree P G key) (cycle_of P G key) ho (key_degree_below P G hP key) (key_accidentals P G N o key)
  unfolding key_accidentals
  good_key = good (reduced P G) N o (key_degree P G key) (cycle_of P G key) ho (key_degree_below P G hP key)

  pub stars_are : stars_of (key_accidentals P G N o key).cycle ≡ key_cycle P G key
  unfolding key_accidentals
  stars_are = ap stars_of (cycle_kept (reduced P G) N o (key_degree P G key) (cycle_of P G key)) ∙ stars_of_key P G key hP

  sounds_key : (s : Spelling) → s.stars ≡ stars_of (key_accidentals P G N o key).cycle → Apart (reduced P G) (place N o s) (pos (key_degree P G key))
      → sounded_key P G N o s ≡ remainder key P
  unfolding sounded_key
  sounds_key s e a = ap (sounds P G (place N o s)) (e ∙ stars_are) ∙ degree_sounds_key P G hP key (place N o s) a

  places_of_the_degree : PlacesOfTheDegree P G N o key
  places_of_the_degree = (good_key.sharp, good_key.flat)

  sounds_of_the_key : SoundsOfTheKey P G N o key
  unfolding sharp_spelling flat_spelling
  sounds_of_the_key = (sounds_key _ refl good_key.sharp, sounds_key _ refl good_key.flat)

  indices_of_symbols : IndicesOfSymbols P G N o key
  indices_of_symbols = (good_key.sharp_index, good_key.flat_index)

pub accidentals_sound_their_key : AccidentalsSoundTheirKey
accidentals_sound_their_key P G N o key hP ho =
    (places_of_the_degree P G N o key hP ho, sounds_of_the_key P G N o key hP ho, indices_of_symbols P G N o key hP ho)

-- ---- a letter without signs: the coordinates sum to N − 1 modulo R, and both are below N

module _ (R N o e : ℕ) (c : Option ℕ) (ho : o < N) (he : e < R) (h : N ≤ R) where
  sum_is : (x y : ℕ) → x ≡ sharp_coordinate R (o + e) → y ≡ flat_coordinate R N (o + e) → (x + y + 1) % R ≡ N % R
  unfolding sharp_coordinate
  sum_is x y ex ey =
      ap (λ (z : ℕ). z % R) (let t : x + y + 1 ≡ x + (y + 1) = omega arith in t)
      ∙ ap (λ (z : ℕ). (z + (y + 1)) % R) ex
      ∙ add_cong R (y + 1) ((o + e) % R) (o + e) (mod-mod (o + e) R)
      ∙ ap (λ (z : ℕ). z % R) (let t : o + e + (y + 1) ≡ y + (0 + 1 + (o + e)) = omega arith in t)
      ∙ flat_sum R N o e c ho he y ey
      ∙ ap (λ (z : ℕ). z % R) (let t : N + 0 + 0 ≡ N = omega arith in t)

  -- x and y below N, with x + y ≡ N − 1 modulo R: x + y is below N − 1 + R, so it is N − 1
  one_index : (x y : ℕ) → x < N → y < N → (x + y + 1) % R ≡ N % R → x ≡ N - 1 - y
  one_index x y hx hy q = by (dec_lt (x + y) R)
    where
      sum : (x + y) % R ≡ N - 1
      sum =
          add_cancel R 1 (x + y) (N - 1) (q ∙ ap (λ (z : ℕ). z % R) (let t : N ≡ N - 1 + 1 = omega arith in t))
          ∙ mod-eq_of_lt (let t : N - 1 < R = omega arith in t)

      by : Dec (x + y < R) → x ≡ N - 1 - y
      by (yes l) = omega (arith, sum, mod-eq_of_lt l)
      by (no l) =
          let above : R ≤ x + y = omega arith in
          let wrapped : (x + y - R) % R ≡ x + y - R = mod-eq_of_lt (let t : x + y - R < R = omega arith in t) in
          absurd (let t : ⊥ = omega (arith, sum, mod-eq-sub-mod above, wrapped) in t)

  no_signs : (z : ℕ) → z / N ≡ 0 → z < N
  no_signs z q = omega (arith, mod-add-div z N, ap (λ (v : ℕ). N * v) q, mul-zero N, mod-lt z (some_symbols R N o e c ho he))

  one_letter : (x y : ℕ) → x ≡ sharp_coordinate R (o + e) → y ≡ flat_coordinate R N (o + e) → x / N ≡ 0 → y / N ≡ 0 → x % N ≡ N - 1 - y % N
  one_letter x y ex ey zx zy =
      mod-eq_of_lt (no_signs x zx)
      ∙ one_index x y (no_signs x zx) (no_signs y zy) (sum_is x y ex ey)
      ∙ ap (λ (z : ℕ). N - 1 - z) (sym (mod-eq_of_lt (no_signs y zy)))

  -- x and y below R, with x + y + 1 ≡ N modulo R: x + y + 1 is below R, or R and the remainder of N
  sum_most : (x y : ℕ) → x < R → y < R → (x + y + 1) % R ≡ N % R → x + y < R + N
  sum_most x y hx hy q = by (dec_lt (x + y + 1) R)
    where
      by : Dec (x + y + 1 < R) → x + y < R + N
      by (yes l) = omega arith
      by (no l) =
          let above : R ≤ x + y + 1 = omega arith in
          let wrapped : (x + y + 1 - R) % R ≡ x + y + 1 - R = mod-eq_of_lt (let t : x + y + 1 - R < R = omega arith in t) in
          omega (arith, q, mod-eq-sub-mod above, wrapped, mod-le N R)

  signs_most : (x y : ℕ) → x ≡ sharp_coordinate R (o + e) → y ≡ flat_coordinate R N (o + e) → N * (x / N + y / N) < R + N
  signs_most x y ex ey =
      let some : zero < R = omega arith in
      let most = sum_most x y (sharp_small R (o + e) x ex some) (flat_small R N (o + e) y ey some) (sum_is x y ex ey) in
      omega (arith, most, mul-add N (x / N) (y / N), mod-add-div x N, mod-add-div y N)

abbrev OneIndex : Accidentals → Type 0
OneIndex a = a.sharp_count ≡ 0 → a.flat_count ≡ 0 → a.sharp_index ≡ a.flat_index

pub letter_without_signs : LetterWithoutSigns
unfolding key_accidentals by_coordinates
letter_without_signs P G N o key hP ho h =
    subst OneIndex (accidentals_high (reduced P G) N o (key_degree P G key) (cycle_of P G key) h _ _ refl refl)
    (one_letter (reduced P G) N o (key_degree P G key) (cycle_of P G key) ho (key_degree_below P G hP key) h _ _ refl refl)

pub few_signs : FewSigns
unfolding key_accidentals by_coordinates
few_signs P G N o key hP ho h =
    subst (λ (a : Accidentals). N * (a.sharp_count + a.flat_count) < reduced P G + N)
    (accidentals_high (reduced P G) N o (key_degree P G key) (cycle_of P G key) h _ _ refl refl)
    (signs_most (reduced P G) N o (key_degree P G key) (cycle_of P G key) ho (key_degree_below P G hP key) h _ _ refl refl)
