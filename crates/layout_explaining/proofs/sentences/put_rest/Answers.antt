-- The sentence of the second spelling, then the verdict's.
use native.Mathlib.Omega.{arith}
use Rattle.text.proofs.Writing.{then}
use Rattle.layout_explaining.proofs.sentences.put_rest.Goals as goal

pub returns : goal.returns
returns c =
    (then c.put_standing-stands.ensures.0 c.put_verdict.ensures.0, omega (arith, c.put_standing-stands.ensures.1, c.put_verdict.ensures.1))
