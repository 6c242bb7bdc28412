-- Places: degree and cycle are two digits of a number, so they are a permutation of the octave.
use Prim.Native.Nat.{ℕ, ◌+◌, ◌*◌, ◌/◌, ◌%◌, ◌<◌}
use mathlib.Core.Path.{◌≡◌, sym, ap, ap₂, ◌∙◌, subst}
use native.Mathlib.Nat.{mul_comm, mod-lt, mod-eq_of_lt, div-add-mod', div-lt_iff_lt-mul}
use lib.Arith.{digits_div, digits_mod, digits_lt}
use lib.IntN.{pos}
use Rattle.math.proofs.Division.{apart→remainder}
use Rattle.pergen.specs.Pergen.{cycles, reduced, degree, cycle}
use Rattle.pergen.proofs.Inverse.{period_is, reduced_positive}
use Rattle.pergen.proofs.Keys.{degree_below, cycle_below, keys_from_zero_on, degree_and_cycle_tell_keys_apart}
use Rattle.pergen.proofs.DegreePlaces.{stars_of_key}
use Rattle.pergen.proofs.CarriedWalk.{key_with, key_with_below, key_with_cycle, key_with_degree}
use Rattle.layout_order.specs.Order.{chain_place}
use Rattle.layout_order.specs.Theorems.{ChainOrderIsAPermutation}

module _ (P G : ℕ) (h : 0 < P) where
  -- by the formulas of degree and cycle
  pub place_is : (i : ℕ) → chain_place P G i ≡ cycle P G i * reduced P G + degree P G i
  unfolding chain_place
  place_is i =
      let old = keys_from_zero_on P G h i in
      ap₂ (λ (c d : ℕ). c * reduced P G + d) (stars_of_key P G (pos i) h ∙ old.cycle_stays) old.degree_stays

  pub place_below : (i : ℕ) → chain_place P G i < P
  place_below i =
      subst (λ (j : ℕ). j < P) (sym (place_is i))
      (subst (λ (Q : ℕ). cycle P G i * reduced P G + degree P G i < Q) (mul_comm (cycles P G) (reduced P G) ∙ sym (period_is P G h))
      (digits_lt (cycle_below P G h i) (degree_below P G h i)))

  place_cycle : (i : ℕ) → chain_place P G i / reduced P G ≡ cycle P G i
  place_cycle i = ap (λ (j : ℕ). j / reduced P G) (place_is i) ∙ digits_div (cycle P G i) (degree_below P G h i)

  place_degree : (i : ℕ) → chain_place P G i % reduced P G ≡ degree P G i
  place_degree i = ap (λ (j : ℕ). j % reduced P G) (place_is i) ∙ digits_mod (cycle P G i) (degree_below P G h i)

  pub places_apart : (i j : ℕ) → i < P → j < P → chain_place P G i ≡ chain_place P G j → i ≡ j
  places_apart i j hi hj e =
      let d : degree P G i ≡ degree P G j = sym (place_degree i) ∙ ap (λ (k : ℕ). k % reduced P G) e ∙ place_degree j in
      let c : cycle P G i ≡ cycle P G j = sym (place_cycle i) ∙ ap (λ (k : ℕ). k / reduced P G) e ∙ place_cycle j in
      let old-i = keys_from_zero_on P G h i in
      let old-j = keys_from_zero_on P G h j in
      let away = (degree_and_cycle_tell_keys_apart P G h (pos i) (pos j)).1
      (old-i.degree_stays ∙ d ∙ sym old-j.degree_stays, old-i.cycle_stays ∙ c ∙ sym old-j.cycle_stays) in
      sym (mod-eq_of_lt hi) ∙ apart→remainder P h (pos i) (pos j) away ∙ mod-eq_of_lt hj

  -- the key at a place
  module _ (j : ℕ) (hj : j < P) where
    low : j % reduced P G < reduced P G
    low = mod-lt j (reduced_positive P G h)

    high : j / reduced P G < cycles P G
    high =
        (div-lt_iff_lt-mul (reduced_positive P G h)).1
        (subst (λ (Q : ℕ). j < Q) (period_is P G h ∙ mul_comm (reduced P G) (cycles P G)) hj)

    pub key_there : ℕ
    key_there = key_with P G h (j % reduced P G) (j / reduced P G) low high

    pub key_there_below : key_there < P
    unfolding key_there
    key_there_below = key_with_below P G h (j % reduced P G) (j / reduced P G) low high

    pub key_there_lem : chain_place P G key_there ≡ j
    unfolding key_there
    key_there_lem =
        place_is key_there
        ∙ ap₂ (λ (c d : ℕ). c * reduced P G + d)
        (key_with_cycle P G h (j % reduced P G) (j / reduced P G) low high)
        (key_with_degree P G h (j % reduced P G) (j / reduced P G) low high)
        ∙ div-add-mod' j (reduced P G)

pub chain_order_is_a_permutation : ChainOrderIsAPermutation
chain_order_is_a_permutation P G h =
    record {
      within = λ i hi. place_below P G h i;
      apart = places_apart P G h;
      each = λ j hj. (key_there P G h j hj, key_there_below P G h j hj, key_there_lem P G h j hj);
    }
