-- One byte, or none.
use native.Mathlib.Omega.{arith}
use Rattle.text.proofs.Writing.{wrote_as, wrote_none}
use Rattle.layout_explaining.proofs.Wording.{plural_one, plural_more}
use Rattle.layout_explaining.proofs.sentences.put_plural.Goals as goal

pub returns-then-n-eq1 : goal.returns-then-n-eq1
returns-then-n-eq1 c = (wrote_as (plural_one _ c.if-n-eq1.true) (wrote_none _ _), omega arith)

pub returns : goal.returns
returns c =
    (wrote_as (plural_more _ c.if-n-eq1.false) c.put_byte.ensures, omega (arith, c.put_byte.ensures.end))
