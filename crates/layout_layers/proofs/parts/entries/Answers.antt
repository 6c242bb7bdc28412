-- Each scale degree has a number for each cycle.
use Prim.Native.Nat.{ℕ, ◌*◌}
use mathlib.Core.Path.{ap}
use native.Mathlib.Nat.{mul-le-mul}
use native.Mathlib.Omega.{arith}
use borrow.Author.Rules.{rules}
use Rattle.layout_layers.proofs.parts.entries.Goals as goal

pub overflow_mul-result : goal.overflow_mul-result
overflow_mul-result c = omega (arith, mul-le-mul {n₁ = c.turns_of.result} {m₁ = c.args.chain.num_cycles} {n₂ = 131070} {m₂ = 65535} c.turns_of.ensures.1 (search rules))

pub returns : goal.returns
returns c = ap (λ (k : ℕ). k * c.args.chain.num_cycles) c.turns_of.ensures.0
