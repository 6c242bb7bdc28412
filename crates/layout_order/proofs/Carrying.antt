-- The walk from key to key: the entries of the keys before the one at hand are placed.
use Prim.Native.Nat.{ℕ, ◌+◌, ◌*◌, ◌<◌}
use mathlib.Core.Path.{◌≡◌, refl, sym, ap, ap₂, ◌∙◌}
use mathlib.Core.List.{List}
use native.Mathlib.Omega.{arith}
use lib.ListN.{length, get_or, set}
use mir.Syntax.{w64}
use mir.Val.{Fits}
use Rattle.mos.proofs.Sizes.{product_fits}
use Rattle.pergen.specs.Parts.{solved_of, At}
use Rattle.pergen.specs.Pergen.{degree, cycle}
use Rattle.pergen.specs.declared.euclid.Solved.{Solved}
use Rattle.pergen.specs.declared.stepping.Key.{Key}
use Rattle.layout.specs.Parts.{Ready}
use Rattle.layout.specs.declared.prepared.Prepared.{Prepared}
use Rattle.layout.proofs.Readiness.{parts_ready, key_degree_lem, key_cycle_lem}
use Rattle.layout_order.specs.Parts.{other, position_in, rearranged}
use Rattle.layout_order.specs.declared.parts.ListOrder.{ListOrder}
use Rattle.layout_order.specs.declared.parts.ListOrder.TheVariants.{Chain, Keys}
use Rattle.layout_order.proofs.Places.{place_is}
use Rattle.layout_order.proofs.Placing.{placed_length, placed_none, placed_more, order_permutes}

-- a place fits 64 bits
pub product_held : (a b : ℕ) → a < 65536 → b < 65536 → Fits w64 (a * b)
product_held a b ha hb = omega (arith, product_fits a b ha hb)

pub sum_held : (a b c : ℕ) → a < 65536 → b < 65536 → c < 65536 → Fits w64 (a * b + c)
sum_held a b c ha hb hc = omega (arith, product_fits a b ha hb)

-- a key tells its position in either order
module _ (p : Prepared) (h : Ready p) (k : Key) (at : At p.solved k) where
  pub chain_position : k.cycle * p.solved.reduced_period + k.degree ≡ position_in Chain p.found.octave p.found.generator k.number
  unfolding solved_of position_in
  chain_position =
      let P = p.found.octave in
      let G = p.found.generator in
      ap₂ (λ (c d : ℕ). c * p.solved.reduced_period + d) (key_cycle_lem p h k at) (key_degree_lem p h k at)
      ∙ ap (λ (s : Solved). cycle P G k.number * s.reduced_period + degree P G k.number) h.solved_is
      ∙ sym (place_is P G (parts_ready p h).positive k.number)

  pub number_position : k.number ≡ position_in Keys p.found.octave p.found.generator k.number
  unfolding position_in
  number_position = refl

-- a key of the octave has its entry among so many
pub position_below : (p : Prepared) → Ready p → (order : ListOrder) (number : ℕ) → number < p.found.octave → {i : ℕ}
    → i ≡ position_in order p.found.octave p.found.generator number → i < p.found.octave
position_below p h order number l e =
    rw e ((order_permutes order p.found.octave p.found.generator (parts_ready p h).positive).within number l)

-- ---- the walk

-- The entries of the keys below `number` are where the order has them, and k is the key with this number.
pub record Carrying (order : ListOrder) (p : Prepared) (entries before after : List ℕ) (k : Key) (number : ℕ) : Type 0 where
  pub at : At p.solved k
  pub number_is : k.number ≡ number
  pub content : after ≡ rearranged order p.found.octave p.found.generator entries number before

module _ (order : ListOrder) (p : Prepared) (entries before : List ℕ) where
  abbrev P : ℕ
  P = p.found.octave

  abbrev G : ℕ
  G = p.found.generator

  abbrev from : ℕ → ℕ
  from = position_in (other order) P G

  abbrev to : ℕ → ℕ
  to = position_in order P G

  pub carry_start : (k : Key) → At p.solved k × (k.number ≡ 0) → Carrying order p entries before before k 0
  carry_start k (at, zeroth) = record { at = at; number_is = zeroth; content = placed_none from to entries before }

  module _ {after : List ℕ} {k : Key} {number : ℕ} (c : Carrying order p entries before after k number) where
    pub carry_length : length after ≡ length before
    carry_length = ap length c.content ∙ placed_length from to entries number before

    pub carry_on : {i e : ℕ} → i ≡ to k.number → e ≡ get_or entries (from k.number) 0
        → {next : Key} → At p.solved next × (next.number ≡ k.number + 1) → Carrying order p entries before (set after i e) next (number + 1)
    carry_on there entry (at, on) =
        record {
          at = at;
          number_is = omega (arith, on, c.number_is);
          content = placed_more from to entries number before c.content (there ∙ ap to c.number_is)
              (entry ∙ ap (λ (n : ℕ). get_or entries (from n) 0) c.number_is);
        }
