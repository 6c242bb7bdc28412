-- A number below the octave is its own remainder.
use mathlib.Core.Path.{sym}
use native.Mathlib.Nat.{mod-eq_of_lt}
use Rattle.layout.proofs.questions.within_octave.Goals as goal

pub returns-then-generator-octave : goal.returns-then-generator-octave
returns-then-generator-octave c = sym (mod-eq_of_lt c.if-generator-octave.true)
