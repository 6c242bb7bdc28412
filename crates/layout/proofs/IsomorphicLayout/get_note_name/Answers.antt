-- Questions 1 to 4 and 18, then 10, then the name of the key round the octave.
use mathlib.Core.Path.{refl}
use Rattle.answer.proofs.Lent.{filled_refused}
use mir.Syntax.{w32}
use Rattle.math.proofs.Signed.{read_back_lem}
use Rattle.answer.proofs.Passing.{passed_on}
use Rattle.layout.proofs.Calls.{asked_back, name_refused, name_held, filled_as, refused_in_room}
use Rattle.layout.proofs.IsomorphicLayout.get_note_name.Goals as goal

pub returns-in_err-asked : goal.returns-in_err-asked
returns-in_err-asked c =
    let r = c.args.self in
    rw (passed_on _ _ c.from_residual.ensures)
    (filled_refused _ _ (refused_in_room _ _ _ (name_refused r _ (asked_back r _ _ (read_back_lem w32 c.args.key c.ranges.key) _ _ c.in_err-asked.was c.ask_key.ensures) _)) refl)

pub returns : goal.returns
returns c =
    let r = c.args.self in
    let found = asked_back r _ _ (read_back_lem w32 c.args.key c.ranges.key) _ _ c.in_ok-asked.was c.ask_key.ensures in
    filled_as (name_held r _ found.0 c.args.key _ found.1 _) c.write_name.ensures
