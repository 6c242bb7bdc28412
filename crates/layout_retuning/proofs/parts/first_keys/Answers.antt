-- The place is that of the first entry.
use Rattle.layout_retuning.proofs.Strides.{first_keys}
use Rattle.layout_retuning.proofs.parts.first_keys.Goals as goal

pub returns : goal.returns
returns c = first_keys _ _ c.keys_at.ensures
