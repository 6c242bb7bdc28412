-- The numbers of a layout that was made ready, and their bounds: N letters, R degrees, n cycles, the inverse and the start.
use Prim.Native.Nat.{ℕ, ◌*◌, ◌/◌, ◌%◌, ◌≤◌, ◌<◌}
use mathlib.Core.Path.{◌≡◌, sym, subst}
use Rattle.layout.specs.declared.prepared.Prepared.{Prepared}
use Rattle.layout.specs.Parts.{layout_in, Ready}
use Rattle.layout.proofs.Finding.{Parts}
use Rattle.layout.proofs.Kept.{made_ready}
use Rattle.layout.proofs.PatternShape.{PatternShape, pattern_shape}
use Rattle.layout.proofs.Readiness.{parts_ready, ready_walkable, ready_octave}
use Rattle.pergen.specs.Pergen.{cycles}
use Rattle.pergen.specs.declared.euclid.Solved.{Solved}
use Rattle.pergen.specs.Parts.{solved_of, Walkable}
use Rattle.pergen.proofs.Inverse.{numbers}
use Rattle.layout_book.proofs.NameBounds as Bounds

pub record Numbers (p : Prepared) : Type 0 where
  pub ready : Ready p
  pub five : 5 ≤ p.found.num_letters
  pub nine : p.found.num_letters ≤ 9
  pub start_below : p.found.start < p.found.num_letters
  pub enough : p.found.num_letters ≤ p.solved.reduced_period
  pub walkable : Walkable p.solved
  pub octave_is : p.found.octave ≡ p.solved.reduced_period * p.solved.num_cycles
  pub few_keys : p.found.octave ≤ 65535
  pub few_degrees : p.solved.reduced_period ≤ 65535
  pub few_cycles : p.solved.num_cycles ≤ 13107
  -- the inverse has a partner, the steps of a generator: so each degree comes once in an octave
  pub partner : ℕ
  pub partner_is : p.solved.generator_inverse * partner % p.solved.reduced_period ≡ 1 % p.solved.reduced_period

module _ (p : Prepared) (h : Ready p) (small : p.found.octave ≤ 65535) where
  abbrev P : ℕ
  P = p.found.octave

  abbrev G : ℕ
  G = p.found.generator

  parts : Parts (layout_in p)
  parts = parts_ready p h

  shape : PatternShape (layout_in p)
  shape = pattern_shape (layout_in p) parts

  pub ready_numbers : Numbers p
  unfolding solved_of
  ready_numbers =
      record {
        ready = h;
        five = shape.at_least_five;
        nine = shape.at_most_nine;
        start_below = shape.start_below;
        enough = by (λ (s : Solved). p.found.num_letters ≤ s.reduced_period) shape.enough_keys;
        walkable = ready_walkable p h;
        octave_is = ready_octave p h;
        few_keys = small;
        few_degrees = by (λ (s : Solved). s.reduced_period ≤ 65535) (Bounds.few_degrees (layout_in p) parts small);
        few_cycles = by (λ (s : Solved). s.num_cycles ≤ 13107) (Bounds.few_cycles (layout_in p) parts small);
        partner = G / cycles P G;
        partner_is = by (λ (s : Solved). s.generator_inverse * (G / cycles P G) % s.reduced_period ≡ 1 % s.reduced_period) (numbers P G parts.positive).one;
      }
    where
      -- what holds of the numbers that follow holds of those that were solved
      by : (F : Solved → Type 0) → F (solved_of P G) → F p.solved
      by F = subst F (sym h.solved_is)

pub made_numbers : (p : Prepared) → p.found.octave ≤ 65535 → Numbers p
made_numbers p = ready_numbers p (made_ready p)
