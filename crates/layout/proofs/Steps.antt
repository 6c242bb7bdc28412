-- The extended Euclid of an accepted layout comes by the steps of its pattern: they are what the chain's generators leave (`Chain`).
use Prim.Native.Nat.{ℕ, ◌+◌, ◌%◌, ◌≤◌}
use mathlib.Core.Path.{ap, ◌∙◌}
use native.Mathlib.Nat.{mul_comm, zero-mod}
use native.Mathlib.Omega.{arith}
use Rattle.mos.specs.Patterns.{primaries, secondaries, primary, secondary, size_of, genesis}
use Rattle.mos.specs.Walks.{children}
use Rattle.mos.proofs.Scale.{chain_walk}
use Rattle.layout.specs.Layouts.{Layout}
use Rattle.layout.specs.Parts.{StepsLeft}
use Rattle.layout.proofs.Finding.{Parts}
use Rattle.layout.proofs.Keys.{first_at, walk_divisor, genesis_divisor}
use Rattle.layout.proofs.PatternShape.{pattern_shape}

pub steps_left : (l : Layout) → Parts l → primary l.pattern ≤ 65535 → secondary l.pattern ≤ 65535 → StepsLeft l.octave l.generator l.pattern
unfolding size_of
steps_left l a small₀ small₁ =
    let P = l.octave in
    let G = l.generator in
    let m = l.pattern in
    let at = first_at l.letters (children (genesis P G)) m a.pattern in
    let chain = chain_walk P G a.positive at.0 m at.1 in
    let shape = pattern_shape l a in
    record {
      same = walk_divisor P G at.0 m at.1 ∙ genesis_divisor P G a.positive;
      some₀ = shape.primary_above;
      small₀ = small₀;
      small₁ = small₁;
      whole = chain.size;
      ordered = λ e. omega (arith, e, shape.secondary_above);
      left₀ = ap (λ (n : ℕ). n % P) (mul_comm (secondaries m) G) ∙ chain.up;
      left₁ = ap (λ (n : ℕ). (n + secondary m) % P) (mul_comm (primaries m) G) ∙ chain.down ∙ zero-mod P;
    }
