-- The output for what is kept is the output for the line.
use Prim.Native.Nat.{ℕ}
use mathlib.Core.List.{List, []}
use mathlib.Core.Path.{refl, subst}
use Rattle.streams.specs.Streams.{Handed}
use Rattle.streams.proofs.Enough.{printed}
use Rattle.edo_lines.specs.Lines.{output}
use Rattle.edo.proofs.Printing.{front, line_is_enough}
use Rattle.edo.proofs.print.Goals as goal

pub returns : goal.returns
returns c =
    printed output line_is_enough c.args.line.now _ c.kept.ensures _
    (λ taken.
    subst (λ (text : List ℕ). Handed text c.write_front-done.result)
    (front _ refl c.put_output-bytes.ensures.0 c.put_output-bytes.ensures.1).1
    (c.write_front-done.ensures.next [] c.begin.ensures.none))
