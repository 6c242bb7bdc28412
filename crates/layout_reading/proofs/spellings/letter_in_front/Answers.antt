use native.Mathlib.Nat.{not-suc-le-zero}
use native.Mathlib.Omega.{arith}
use Rattle.genchain.proofs.TableRows.{row_count_small}
use Rattle.layout_reading.proofs.WholeTexts.{front_found, passed_more, front_none}
use Rattle.layout_reading.proofs.spellings.letter_in_front.Goals as goal

pub loop-place-init : goal.loop-place-init
loop-place-init c = λ j k. absurd (not-suc-le-zero k)

pub bounds-row-place : goal.bounds-row-place
bounds-row-place c = omega (arith, row_count_small _ c.requires)

pub returns-then-starts : goal.returns-then-starts
returns-then-starts c =
    front_found _ c.requires _ _ c.loop-place-test.true c.loop-place.invariant _ c.starts.ensures c.if-starts.true _ c.letter_length.ensures.0

pub loop-place-preserved : goal.loop-place-preserved
loop-place-preserved c = passed_more _ c.requires _ _ c.loop-place-test.true c.loop-place.invariant _ c.starts.ensures c.if-starts.false

pub returns : goal.returns
returns c = front_none _ c.requires _ _ c.loop-place-test.false c.loop-place.invariant
