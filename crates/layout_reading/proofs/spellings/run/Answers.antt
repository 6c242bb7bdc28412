use Rattle.layout_reading.proofs.Texts.{run_at}
use Rattle.layout_reading.proofs.spellings.run.Goals as goal

pub returns : goal.returns
returns c = run_at _ _ _ c.requires _ c.leading.ensures
