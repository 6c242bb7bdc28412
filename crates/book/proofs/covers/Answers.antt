use native.Mathlib.Nat.{le_antisymm}
use native.Mathlib.Omega.{arith}
use mathlib.Core.Path.{◌∙◌}
use Rattle.book.proofs.Pairs.{check_none, check_more, check_elsewhere, check_empty, uncovered, covered_by}
use Rattle.book.proofs.covers.Goals as goal

pub loop-key-init : goal.loop-key-init
loop-key-init c = check_none _ _ c.requires.is_count

pub place_at-place-requires : goal.place_at-place-requires
place_at-place-requires c = omega (arith, c.requires.held)

pub returns-then-offset-due : goal.returns-then-offset-due
returns-then-offset-due c =
    uncovered _ _ _ c.requires.is_count c.loop-key-test.true
    (check_elsewhere _ _ _ _ c.loop-key.invariant c.place_at-place.ensures c.if-offset-due.true)

pub returns-then-length-lt1 : goal.returns-then-length-lt1
returns-then-length-lt1 c =
    uncovered _ _ _ c.requires.is_count c.loop-key-test.true
    (check_empty _ _ _ _ c.loop-key.invariant c.place_at-place.ensures c.if-length-lt1.true)

pub loop-key-preserved : goal.loop-key-preserved
loop-key-preserved c =
    check_more _ _ _ _ c.loop-key.invariant c.place_at-place.ensures c.if-offset-due.false c.if-length-lt1.false

pub returns : goal.returns
returns c =
    let all = le_antisymm (omega arith) c.loop-key-test.false in
    covered_by _ _ _ (all ∙ c.requires.is_count) c.loop-key.invariant
