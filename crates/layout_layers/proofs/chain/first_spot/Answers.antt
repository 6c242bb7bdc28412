-- The start's advances, taken back from scale degree 0.
use native.Mathlib.Nat.{mul-le-mul, mod-lt}
use native.Mathlib.Omega.{arith}
use Prim.Native.Nat.{◌*◌}
use Rattle.layout_layers.proofs.ChainLaws.{some_places, first_here, first_behind}
use mathlib.Core.Path.{refl}
use borrow.Author.Rules.{rules}
use Rattle.layout_layers.proofs.chain.first_spot.Goals as goal

pub overflow_mul-ahead : goal.overflow_mul-ahead
overflow_mul-ahead c =
    let chain = c.args.chain in
    omega (arith, mul-le-mul {n₁ = chain.start} {m₁ = chain.advance} {n₂ = 65535} {m₂ = 65535} (search rules) (search rules))

pub returns-then-ahead-eq0 : goal.returns-then-ahead-eq0
returns-then-ahead-eq0 c = first_here c.args.chain c.requires c.if-ahead-eq0.true

pub overflow_sub-result : goal.overflow_sub-result
overflow_sub-result c =
    omega (arith, mod-lt (c.args.chain.start * c.args.chain.advance) (some_places c.args.chain c.requires))

pub returns : goal.returns
returns c =
    first_behind c.args.chain c.requires _ refl c.if-ahead-eq0.false
