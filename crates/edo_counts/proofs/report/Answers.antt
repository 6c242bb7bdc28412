-- Question 10, then the report at the front.
use mathlib.Core.Path.{refl, sym, ap}
use native.Mathlib.Omega.{arith}
use lib.ListN.{length}
use lib.Seq.{length-take-le}
use Rattle.answer.specs.Outcome.{given}
use Rattle.answer.proofs.Lent.{held, not_held, filled_refused}
use Rattle.text.proofs.Writing.{wrote_as, filled_given}
use Rattle.edo_counts.specs.Counts.{report}
use Rattle.edo_counts.proofs.Lines.{report_there}
use Rattle.edo_counts.proofs.report.Goals as goal

pub returns-then-out-count : goal.returns-then-out-count
returns-then-out-count c = filled_refused 10 _ (not_held _ report (omega (arith, (report_there refl c.put_report-count.ensures).2))) refl

pub slice_bounds-text-end : goal.slice_bounds-text-end
slice_bounds-text-end c = (report_there refl c.put_report-count.ensures).0

pub slice_bounds-put_text-end : goal.slice_bounds-put_text-end
slice_bounds-put_text-end c = sym (length-take-le _ _ (report_there refl c.put_report-count.ensures).0)

pub put_text-requires : goal.put_text-requires
put_text-requires c =
    let r = report_there refl c.put_report-count.ensures in
    omega (arith, r.2, ap length r.1)

pub returns : goal.returns
returns c =
    let r = report_there refl c.put_report-count.ensures in
    filled_given (held _ report (omega (arith, r.2))) (ap given r.2) (omega (arith, r.2)) (wrote_as r.1 c.put_text.ensures)
