-- How long the name of an accepted layout's key can be, and that none is empty.
use Prim.Native.Nat.{ℕ, ◌+◌, ◌*◌, ◌≤◌, ◌<◌}
use native.Mathlib.Nat.{mul-le-mul, mul-one, mul-add, le_refl}
use native.Mathlib.Decide.{dec_lt}
use native.Mathlib.Omega.{arith}
use lib.IntN.{ℤ}
use lib.ListN.{length}
use Rattle.genchain.specs.Chains.{chain_of}
use Rattle.layout.specs.Layouts.{Layout, cycles_in, reduced_in, accidentals_in, sharp_first}
use Rattle.layout.specs.Names.{name_in}
use Rattle.layout.proofs.Finding.{Parts}
use Rattle.layout.proofs.PatternShape.{pattern_shape}
use Rattle.notes.proofs.ShortNames.{names_are_short, names_are_not_empty}
use Rattle.pergen.proofs.Inverse.{period_is, cycles_positive}
use Rattle.pergen.proofs.Keys.{key_cycle_below}
use Rattle.pergen.proofs.DegreePlaces.{few_signs, stars_are}

-- no name is empty
pub name_some : (l : Layout) (key : ℤ) → 1 ≤ length (name_in l key)
unfolding name_in
name_some l key = names_are_not_empty (chain_of l.chain).letters (sharp_first l) (accidentals_in l key)

-- N letters with so many signs each are less than a round more than the degrees
signs_small : (N R signs : ℕ) → 5 ≤ N → R ≤ 65535 → N * signs < R + N → signs ≤ 13107
signs_small N R signs five small few = by (dec_lt 13107 signs)
  where
    by : Dec (13107 < signs) → signs ≤ 13107
    by (no h) = omega (arith, h)
    by (yes h) =
        let all : N * (13107 + 1) ≤ N * signs = mul-le-mul {n₂ = N} {m₂ = signs} (le_refl N) (omega (arith, h)) in
        absurd (let z : ⊥ = omega (arith, all, mul-add N 13107 1, mul-one N, few, five, small) in z)

module _ (l : Layout) (a : Parts l) (small : l.octave ≤ 65535) where
  abbrev P : ℕ
  P = l.octave

  abbrev G : ℕ
  G = l.generator

  pub few_degrees : reduced_in l ≤ 65535
  few_degrees =
      let q : reduced_in l * 1 ≤ reduced_in l * cycles_in l
      = mul-le-mul {n₂ = reduced_in l} {m₂ = cycles_in l} (le_refl (reduced_in l)) (cycles_positive P G a.positive) in
      omega (arith, q, mul-one (reduced_in l), period_is P G a.positive, small)

  pub few_cycles : cycles_in l ≤ 13107
  few_cycles =
      let shape = pattern_shape l a in
      let q : 5 * cycles_in l ≤ reduced_in l * cycles_in l
      = mul-le-mul {n₂ = reduced_in l} {m₂ = cycles_in l} (omega (arith, shape.at_least_five, shape.enough_keys)) (le_refl (cycles_in l)) in
      omega (arith, q, period_is P G a.positive, small)

  -- at most 7 bytes, 13,107 signs and 13,106 stars
  pub name_short : (key : ℤ) → length (name_in l key) ≤ 39325
  unfolding name_in accidentals_in
  name_short key =
      let shape = pattern_shape l a in
      let N = l.letters in
      omega (
        arith,
        names_are_short (chain_of l.chain).letters (sharp_first l) (accidentals_in l key),
        signs_small N (reduced_in l) _ shape.at_least_five few_degrees (few_signs P G N l.start key a.positive a.start_below shape.enough_keys),
        stars_are P G N l.start key a.positive a.start_below,
        key_cycle_below P G a.positive key,
        few_cycles,
      )
