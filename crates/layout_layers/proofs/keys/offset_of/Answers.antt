-- A product of 16-bit numbers, one of them at most 8, and its quotient; dividing by 1 changes nothing.
use Prim.Native.Nat.{◌*◌}
use mathlib.Core.Path.{refl}
use native.Mathlib.Nat.{div-le_self}
use native.Mathlib.Omega.{arith}
use Rattle.layout_layers.proofs.PlanLaws.{offset_fits, offset_single}
use borrow.Author.Rules.{rules}
use Rattle.layout_layers.proofs.keys.offset_of.Goals as goal

pub overflow_mul-product : goal.overflow_mul-product
overflow_mul-product c = omega (arith, offset_fits c.args.generator c.args.start (search rules) c.requires.1)

pub returns-then-cycles-eq1 : goal.returns-then-cycles-eq1
returns-then-cycles-eq1 c = (
  offset_single (c.args.generator * c.args.start) c.args.cycles c.if-cycles-eq1.true,
  omega (arith, offset_fits c.args.generator c.args.start (search rules) c.requires.1),
)

pub returns : goal.returns
returns c = (
  refl,
  omega (arith, offset_fits c.args.generator c.args.start (search rules) c.requires.1, div-le_self (c.args.generator * c.args.start) c.args.cycles),
)
