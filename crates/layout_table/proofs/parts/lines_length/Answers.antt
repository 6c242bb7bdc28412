-- All names, and all the rest.
use mathlib.Core.Path.{ap}
use native.Mathlib.Omega.{arith}
use lib.ListN.{length}
use Rattle.layout.specs.Parts.{layout_in}
use Rattle.layout_table.proofs.Lines.{length_lines}
use Rattle.layout_table.proofs.Calls.{table_lines}
use Rattle.layout_table.proofs.parts.lines_length.Goals as goal

pub returns : goal.returns
returns c =
    let l = layout_in c.args.prepared in
    let names = rw c.of.ensures at c.names_length.ensures in
    omega (arith, names.length_is, c.numbers_length.ensures.0, length_lines l l.octave, ap length (table_lines l))
