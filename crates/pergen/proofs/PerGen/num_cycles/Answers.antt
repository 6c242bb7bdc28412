-- Question 2, then what `gcd_u16` found.
use mathlib.Core.Path.{◌∙◌}
use Rattle.answer.proofs.Passing.{refusal_asked}
use Rattle.pergen.proofs.Calls.{no_number, number_given, cycles_found, some_period}
use Rattle.pergen.proofs.PerGen.num_cycles.Goals as goal

pub returns-in_err-asked : goal.returns-in_err-asked
returns-in_err-asked c =
    refusal_asked _ _ _ c.from_residual.ensures c.in_err-asked.ensures.0 ∙ no_number _ c.in_err-asked.ensures.1 _

pub returns : goal.returns
returns c = number_given _ c.in_ok-asked.ensures _ _ (cycles_found _ _ _ (some_period c.in_ok-asked.ensures) c.gcd_u16.ensures.is)
