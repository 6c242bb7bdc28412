-- The product with the reciprocal.
use Prim.Native.Nat.{ℕ, ◌*◌, ◌/◌}
use mathlib.Core.Path.{ap, ◌∙◌}
use native.Mathlib.Nat.{div-le_self}
use native.Mathlib.Omega.{arith}
use Rattle.layout_book.proofs.Reciprocal.{quotient_by, product_small}
use Rattle.layout_book.proofs.places.Places.quotient.Goals as goal

pub overflow_mul-result : goal.overflow_mul-result
overflow_mul-result c =
    omega (
      arith,
      ap (λ (x : ℕ). c.args.number * x) c.args.self.by_letters.is,
      product_small c.args.self.letters c.args.number c.args.self.by_letters.some c.args.self.by_letters.few (omega arith),
    )

pub returns : goal.returns
returns c =
    ap (λ (x : ℕ). c.args.number * x / 2147483648) c.args.self.by_letters.is
    ∙ quotient_by c.args.self.letters c.args.number c.args.self.by_letters.some c.args.self.by_letters.few (omega arith)

pub overflow_cast-result-3 : goal.overflow_cast-result-3
overflow_cast-result-3 c = omega (arith, returns c, div-le_self c.args.number c.args.self.letters)
