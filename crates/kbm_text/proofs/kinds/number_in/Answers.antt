use borrow.Author.Rules.{rules}
use native.Mathlib.Omega.{arith}
use Rattle.kbm_text.proofs.Bytes.{read_none, none_short, none_long, small_enough, read_all, low_byte, high_byte, read_more}
use Rattle.kbm_text.proofs.kinds.number_in.Goals as goal

pub returns-then-line-lt1 : goal.returns-then-line-lt1
returns-then-line-lt1 c = none_short _ c.if-line-lt1.true

pub returns-then-line-gt5 : goal.returns-then-line-gt5
returns-then-line-gt5 c = none_long _ c.if-line-gt5.true

pub loop-byte-init : goal.loop-byte-init
loop-byte-init c = (read_none _, search rules, search rules)

pub returns-then-byte-lt48 : goal.returns-then-byte-lt48
returns-then-byte-lt48 c = low_byte _ _ _ c.loop-byte.invariant.0 (search rules) c.if-byte-lt48.true

pub returns-then-byte-gt57 : goal.returns-then-byte-gt57
returns-then-byte-gt57 c = high_byte _ _ _ c.loop-byte.invariant.0 (search rules) c.if-byte-gt57.true

pub overflow_mul-value : goal.overflow_mul-value
overflow_mul-value c = omega (arith, small_enough _ _ _ c.loop-byte.invariant.0 (search rules))

pub overflow_add-value : goal.overflow_add-value
overflow_add-value c = omega (arith, small_enough _ _ _ c.loop-byte.invariant.0 (search rules))

pub loop-byte-preserved : goal.loop-byte-preserved
loop-byte-preserved c =
    (read_more _ _ _ c.loop-byte.invariant.0 (search rules) (search rules) (search rules) _ c.from.ensures, search rules, search rules)

pub returns : goal.returns
returns c = read_all _ _ _ c.loop-byte.invariant.0 (search rules) (search rules) (search rules) (search rules)
