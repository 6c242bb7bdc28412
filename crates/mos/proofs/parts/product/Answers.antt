-- A product of two 16-bit numbers fits 32 bits.
use mathlib.Core.Path.{refl}
use native.Mathlib.Omega.{arith}
use borrow.Author.Rules.{rules}
use Rattle.mos.proofs.Sizes.{product_fits}
use Rattle.mos.proofs.parts.product.Goals as goal

pub overflow_mul-result : goal.overflow_mul-result
overflow_mul-result c = omega (arith, product_fits c.args.x c.args.y (search rules) (search rules))

pub returns : goal.returns
returns c = (refl, product_fits c.args.x c.args.y (search rules) (search rules))
