-- Questions 1 to 4 and 18, then the length of the planned name of the key round the octave.
use mathlib.Core.Path.{ap}
use mir.Syntax.{w32}
use Rattle.math.proofs.Signed.{read_back_lem}
use Rattle.answer.proofs.Passing.{passed_on}
use Rattle.answer.specs.Lent.{counted}
use Rattle.layout.proofs.Calls.{asked_back, name_refused, name_measured}
use Rattle.layout.proofs.IsomorphicLayout.note_name_len.Goals as goal

pub returns-in_err-asked : goal.returns-in_err-asked
returns-in_err-asked c =
    let r = c.args.self in
    rw (passed_on _ _ c.from_residual.ensures)
    (ap counted (name_refused r _ (asked_back r _ _ (read_back_lem w32 c.args.key c.ranges.key) _ _ c.in_err-asked.was c.ask_key.ensures) _))

pub returns : goal.returns
returns c =
    let r = c.args.self in
    let found = asked_back r _ _ (read_back_lem w32 c.args.key c.ranges.key) _ _ c.in_ok-asked.was c.ask_key.ensures in
    name_measured r _ found.0 c.args.key _ found.1 _ c.name_length.ensures
