-- The printed spellings and one for each star.
use native.Mathlib.Omega.{arith}
use Rattle.notes.proofs.Lengths.{length_plan}
use Rattle.notes.proofs.plans.plan_length.Goals as goal

pub returns : goal.returns
returns c = record { length_is = omega (arith, length_plan c.args.plan); bound = omega arith }
