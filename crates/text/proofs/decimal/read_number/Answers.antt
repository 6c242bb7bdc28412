use native.Mathlib.Omega.{arith}
use Rattle.text.proofs.Numbers.{read_none, read_more, digit_inside, small_digit, too_large, too_long, no_digit_at_all, number_read}
use borrow.Author.Rules.{rules}
use Rattle.text.proofs.decimal.read_number.Goals as goal

pub loop-digit-init : goal.loop-digit-init
loop-digit-init c = (read_none _ _, search rules, search rules)

pub overflow_add-value : goal.overflow_add-value
overflow_add-value c = omega (arith, small_digit _ _ _ _ c.loop-digit.invariant.0 _ c.in-Some.ensures)

pub overflow_add-next : goal.overflow_add-next
overflow_add-next c = omega (arith, digit_inside _ _ _ _ c.loop-digit.invariant.0 _ c.in-Some.ensures)

pub returns-then-value-gt65535 : goal.returns-then-value-gt65535
returns-then-value-gt65535 c =
    too_large _ _ _ _ (read_more _ _ _ _ c.loop-digit.invariant.0 _ c.in-Some.ensures) c.if-value-gt65535.true

pub overflow_sub-next : goal.overflow_sub-next
overflow_sub-next c = omega (arith, c.loop-digit.invariant.0.from)

pub returns-then-next-at-gt5 : goal.returns-then-next-at-gt5
returns-then-next-at-gt5 c =
    too_long _ _ _ _ (read_more _ _ _ _ c.loop-digit.invariant.0 _ c.in-Some.ensures) c.if-next-at-gt5.true

pub loop-digit-preserved : goal.loop-digit-preserved
loop-digit-preserved c =
    (read_more _ _ _ _ c.loop-digit.invariant.0 _ c.in-Some.ensures, search rules, search rules)

pub returns-then-next-at : goal.returns-then-next-at
returns-then-next-at c =
    no_digit_at_all _ _ _ _ c.loop-digit.invariant.0 c.in_default.ensures c.if-next-at.true

pub returns : goal.returns
returns c =
    number_read _ _ _ _ c.loop-digit.invariant.0 c.in_default.ensures c.if-next-at.false c.loop-digit.invariant.2 c.loop-digit.invariant.1
