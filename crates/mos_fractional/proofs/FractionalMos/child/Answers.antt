-- A step of 0, counts that would pass 65,535, and two comparisons.
use native.Mathlib.Omega.{arith}
use lib.Ieee.{of_bits}
use Rattle.mos_fractional.proofs.Descent.{no_primary, no_secondary, full, longer_primary, longer_secondary, none_longer}
use Rattle.mos_fractional.proofs.FractionalMos.child.Goals as goal

pub returns-then-p : goal.returns-then-p
unfolding of_bits
returns-then-p c = no_primary _ c.if-p.true

pub returns-then-s : goal.returns-then-s
unfolding of_bits
returns-then-s c = no_secondary _ c.if-p.false c.if-s.true

pub returns-then-a-b : goal.returns-then-a-b
unfolding of_bits
returns-then-a-b c = full _ c.if-p.false c.if-s.false (omega arith)

pub returns-then-s-p : goal.returns-then-s-p
unfolding of_bits
returns-then-s-p c = longer_primary _ c.if-p.false c.if-s.false (omega arith) c.if-s-p.true

pub returns-then-p-s : goal.returns-then-p-s
unfolding of_bits
returns-then-p-s c =
    longer_secondary _ c.if-p.false c.if-s.false (omega arith)
    c.if-s-p.false c.if-p-s.true

pub returns : goal.returns
unfolding of_bits
returns c =
    none_longer _ c.if-p.false c.if-s.false (omega arith) c.if-s-p.false
    c.if-p-s.false
