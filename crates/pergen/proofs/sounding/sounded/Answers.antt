-- The key is below the period, and only the place's remainder matters.
use Prim.Native.Nat.{◌+◌, ◌*◌}
use native.Mathlib.Nat.{mod-lt}
use native.Mathlib.Omega.{arith}
use Rattle.pergen.proofs.Differences.{sounded_is, key_product}
use borrow.Author.Rules.{rules}
use Rattle.pergen.proofs.sounding.sounded.Goals as goal

pub overflow_mul-key : goal.overflow_mul-key
overflow_mul-key c =
    omega (arith, key_product c.args.pergen.period c.args.pergen.generator c.args.stars c.place_in_period-place.result c.args.sides.above c.args.sides.below c.requires c.place_in_period-place.ensures (search rules) (search rules))

pub overflow_add-key : goal.overflow_add-key
overflow_add-key c =
    omega (arith, key_product c.args.pergen.period c.args.pergen.generator c.args.stars c.place_in_period-place.result c.args.sides.above c.args.sides.below c.requires c.place_in_period-place.ensures (search rules) (search rules))

pub overflow_cast-result : goal.overflow_cast-result
overflow_cast-result c =
    omega (arith, mod-lt (c.args.pergen.generator * c.place_in_period-place.result + c.args.stars) c.requires)

pub returns : goal.returns
returns c =
    sounded_is c.args.pergen.period c.args.pergen.generator c.args.stars c.place_in_period-place.result c.args.sides.above c.args.sides.below c.requires c.place_in_period-place.ensures
