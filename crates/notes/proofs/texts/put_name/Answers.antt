-- The plan's own stars.
use Rattle.notes.specs.Parts.{plan_text}
use Rattle.notes.proofs.texts.put_name.Goals as goal

pub put_starred-requires : goal.put_starred-requires
unfolding plan_text
put_starred-requires c = c.requires

pub returns : goal.returns
unfolding plan_text
returns c = c.put_starred.ensures
