-- The entry for n, and the small numbers that stand for the powers.
use native.Mathlib.Omega.{arith}
use Rattle.edo_tritaves.proofs.TableRule.{handed_out}
use Rattle.edo_tritaves.proofs.Choosing.{tritave_is, chosen, chosen_up, chosen_down, chosen_first}
use Rattle.edo_tritaves.proofs.choose.Goals as goal

pub overflow_mul-thirds : goal.overflow_mul-thirds
overflow_mul-thirds c =
    let k = (handed_out c.table-all.ensures).sides c.args.n c.requires.0 c.requires.1 in
    omega (arith, k.few, k.some)

pub overflow_add-thirds : goal.overflow_add-thirds
overflow_add-thirds c =
    let k = (handed_out c.table-all.ensures).sides c.args.n c.requires.0 c.requires.1 in
    omega (arith, k.few, k.some)

pub overflow_mul-thirds-2 : goal.overflow_mul-thirds-2
overflow_mul-thirds-2 c =
    let k = (handed_out c.table-all.ensures).sides c.args.n c.requires.0 c.requires.1 in
    omega (arith, k.few, k.some)

pub overflow_mul-thirds-else-thirds-steps : goal.overflow_mul-thirds-else-thirds-steps
overflow_mul-thirds-else-thirds-steps c =
    let k = (handed_out c.table-all.ensures).sides c.args.n c.requires.0 c.requires.1 in
    omega (arith, k.few, k.some)

pub returns-then-thirds-steps : goal.returns-then-thirds-steps
returns-then-thirds-steps c =
    let n = c.args.n in
    let k = (handed_out c.table-all.ensures).sides n c.requires.0 c.requires.1 in
    chosen n _ _ (tritave_is n _ k.few ((handed_out c.table-all.ensures).entry n c.requires.0 c.requires.1)) (chosen_up n _ k c.if-thirds-steps.true)

pub returns-then-steps-thirds : goal.returns-then-steps-thirds
returns-then-steps-thirds c =
    let n = c.args.n in
    let k = (handed_out c.table-all.ensures).sides n c.requires.0 c.requires.1 in
    chosen n _ _ (tritave_is n _ k.few ((handed_out c.table-all.ensures).entry n c.requires.0 c.requires.1)) (chosen_down n _ k c.if-thirds-steps.false c.if-steps-thirds.true)

pub returns-else-steps-thirds : goal.returns-else-steps-thirds
returns-else-steps-thirds c =
    let n = c.args.n in
    let k = (handed_out c.table-all.ensures).sides n c.requires.0 c.requires.1 in
    chosen n _ _ (tritave_is n _ k.few ((handed_out c.table-all.ensures).entry n c.requires.0 c.requires.1)) (chosen_first n _ k c.if-thirds-steps.false c.if-steps-thirds.false)
