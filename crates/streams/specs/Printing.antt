-- What a program prints: the output for the whole line that it read, however long, and no part of it left out.
use Rattle.std.specs.Prelude.{◌≡◌, ℕ, true, List}
use Rattle.streams.specs.declared.lines.KeptLine.{KeptLine}
use Rattle.streams.specs.declared.output.Output.{Output}
use Rattle.streams.specs.Streams.{Handed}
use Rattle.streams.specs.Reading.{LineRead}

-- What `print` of a program promises of the line that it is given, which was read (`read` of `KeptLine`): unless a part was not taken, the
-- whole output for the line was handed over.
abbrev pub Printed : (List ℕ → List ℕ) → KeptLine → Output → Type 0
Printed output line done = (read : LineRead line.buffer line.input) → done.taken ≡ true → Handed (output read.line) done
