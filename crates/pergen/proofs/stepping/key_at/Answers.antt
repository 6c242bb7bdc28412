-- The number's turn, brought round the cycle; its degree, and what is left of the number.
use Prim.Native.Nat.{◌*◌, ◌≤◌, ◌<◌}
use mathlib.Core.Path.{refl}
use native.Mathlib.Nat.{mod-lt}
use native.Mathlib.Omega.{arith}
use Rattle.pergen.proofs.Calls.{product_fits}
use Rattle.pergen.proofs.CarriedWalk.{at_found, turn_fits, turn_below, rest_below}
use borrow.Author.Rules.{rules}
use Rattle.pergen.proofs.stepping.key_at.Goals as goal

pub within_cycle-within-requires : goal.within_cycle-within-requires
within_cycle-within-requires c =
    let pre = c.requires in
    turn_below _ pre.0 _ _ c.turn_of-turn.ensures pre.1

pub overflow_mul-degree : goal.overflow_mul-degree
overflow_mul-degree c =
    let solved = c.args.solved in
    let R = solved.reduced_period in
    let some : 0 < R = omega (arith, c.requires.0.below) in
    let small : c.within_cycle-within.result ≤ 65535
    = omega (arith, c.within_cycle-within.ensures, mod-lt c.turn_of-turn.result some) in
    omega (arith, product_fits solved.generator_inverse c.within_cycle-within.result (search rules) small)

pub overflow_mul-cycle : goal.overflow_mul-cycle
overflow_mul-cycle c =
    omega (arith, turn_fits _ c.requires.0 c.args.number _ c.turn_of-turn.ensures)

pub overflow_sub-cycle : goal.overflow_sub-cycle
overflow_sub-cycle c =
    turn_fits _ c.requires.0 c.args.number _ c.turn_of-turn.ensures

pub overflow_cast-result : goal.overflow_cast-result
overflow_cast-result c =
    let solved = c.args.solved in
    let some : 0 < solved.reduced_period = omega (arith, c.requires.0.below) in
    omega (arith, mod-lt (solved.generator_inverse * c.within_cycle-within.result) some)

pub overflow_cast-result-2 : goal.overflow_cast-result-2
overflow_cast-result-2 c =
    omega (arith, rest_below _ c.requires.0 c.args.number _ c.turn_of-turn.ensures)

pub returns : goal.returns
returns c =
    (at_found _ c.requires.0 _ _ c.turn_of-turn.ensures c.within_cycle-within.ensures, refl)
