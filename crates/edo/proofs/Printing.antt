-- 18 bytes of a line, and its first line, are enough; the output stands at the front of the buffer.
use Prim.Native.Nat.{ℕ, ◌≤◌}
use native.Mathlib.Nat.{zero-add}
use native.Mathlib.Omega.{arith}
use mathlib.Core.Path.{◌≡◌, ◌∙◌}
use mathlib.Core.List.{List}
use lib.ListN.{length, take}
use Rattle.text.specs.Writing.{Wrote}
use Rattle.text.proofs.Writing.{put_there}
use Rattle.streams.specs.Reading.{LineIsEnough}
use Rattle.streams.proofs.Enough.{first_line_is_enough}
use Rattle.edo_lines.specs.Lines.{output}
use Rattle.edo_lines.proofs.Outputs.{later_bytes_change_nothing}

pub line_is_enough : LineIsEnough output
line_is_enough =
    record {
      one_line = first_line_is_enough output later_bytes_change_nothing.line_feed_lem;
      eighteen = later_bytes_change_nothing.eighteen;
    }

-- what was put stands at the front of the buffer
module _ (line : List ℕ) {xs ys : List ℕ} {next : ℕ} (long : length xs ≡ 264) (w : Wrote xs 0 (output line) ys next) (few : next ≤ 264) where
  is_length : next ≡ length (output line)
  is_length = w.end ∙ zero-add (length (output line))

  fits : length (output line) ≤ length xs
  fits = omega (arith, is_length, few)

  pub front : (next ≤ length ys) × (take next ys ≡ output line)
  front = put_there fits w
