-- The letter's bytes and one for each sign.
use native.Mathlib.Omega.{arith}
use Rattle.notes.proofs.Lengths.{length_mark}
use Rattle.notes.proofs.plans.mark_length.Goals as goal

pub returns : goal.returns
returns c = record { length_is = omega (arith, length_mark c.args.mark); bound = omega arith }
