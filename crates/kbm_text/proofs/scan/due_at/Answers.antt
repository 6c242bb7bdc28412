-- The list of what is due, place by place.
use Rattle.std.proofs.Common.{arith, sym, ap, inl, inr}
use Rattle.kbm_text.specs.Reading.{due}
use Rattle.kbm_text.proofs.StepLaws.{due_entry}
use Rattle.kbm_text.proofs.scan.due_at.Goals as goal

pub returns-in-0 : goal.returns-in-0
unfolding due
returns-in-0 c = elim c.in-0.is [ inl e ↦ sym (ap (due _) e) | inr e ↦ sym (ap (due _) e) ]

pub returns-in-1 : goal.returns-in-1
unfolding due
returns-in-1 c = elim c.in-1.is [ inl e ↦ sym (ap (due _) e) | inr e ↦ sym (ap (due _) e) ]

pub returns-in-2 : goal.returns-in-2
unfolding due
returns-in-2 c = sym (ap (due _) c.in-2.is)

pub returns-in-3 : goal.returns-in-3
unfolding due
returns-in-3 c = sym (ap (due _) c.in-3.is)

pub returns-in-4 : goal.returns-in-4
unfolding due
returns-in-4 c = sym (ap (due _) c.in-4.is)

pub returns-in_default : goal.returns-in_default
returns-in_default c = sym (due_entry _ _ (grind arith))
