-- The report is at the front of what was put.
use Prim.Native.Nat.{ℕ}
use mathlib.Core.List.{List, []}
use mathlib.Core.Path.{refl, subst}
use native.Mathlib.Omega.{arith}
use Rattle.streams.specs.Streams.{Handed}
use Rattle.edo_counts.proofs.Lines.{report_there}
use Rattle.edo_report.proofs.print.Goals as goal

pub write_front-requires : goal.write_front-requires
write_front-requires c = omega (arith, (report_there refl c.put_report-bytes.ensures).0)

pub returns : goal.returns
returns c =
    subst (λ (text : List ℕ). Handed text c.write_front.result) (report_there refl c.put_report-bytes.ensures).1
    (c.write_front.ensures.next [] c.begin.ensures.none)
