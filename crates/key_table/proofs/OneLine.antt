-- A line's first 18 bytes say what is printed, and so does the first line of any bytes.
use Prim.Native.Nat.{ℕ}
use mathlib.Core.Path.{◌≡◌, ap}
use mathlib.Core.List.{List}
use Rattle.answer.specs.Outcome.{Outcome, and_then}
use Rattle.line.specs.declared.Line.{Line}
use Rattle.line.specs.Lines.{line_outcome}
use Rattle.line.proofs.Enough.{later_bytes_ignored}
use Rattle.streams.proofs.Enough.{first_line_is_enough}
use Rattle.layout_table.specs.Tables.{get_table, output}
use Rattle.line.specs.LineLayouts.{layout_on}
use Rattle.line.specs.Refusals.{output_of}
use Rattle.streams.specs.Reading.{LineIsEnough}

output_by : (x y : List ℕ) → line_outcome x ≡ line_outcome y → output x ≡ output y
unfolding output
output_by x y e = ap (λ (o : Outcome Line). output_of (and_then o (λ (a : Line). get_table (layout_on a)))) e

pub line_is_enough : LineIsEnough output
line_is_enough =
    record {
      eighteen = λ (line : List ℕ). output_by _ _ (later_bytes_ignored.eighteen line);
      one_line = first_line_is_enough output (λ line after. output_by _ _ (later_bytes_ignored.line_feed_lem line after));
    }
