-- No line feed so far, and the buffer begins with what came (`Going`); each turn takes a byte more.
use Rattle.std.proofs.Common.{◌≡◌, ◌≤◌, length}
use Rattle.streams.specs.Streams.{longest}
use Rattle.streams.proofs.Going.{Going}
use Rattle.streams.proofs.lines.fill.Given as goal

abbrev pub invariant-loop : goal.invariant-loop
invariant-loop l =
    Going l.line l.past l.count l.counter × (longest ≤ length l.line) × (length l.line ≡ length l.initial.line)
