-- Both tunings sound the place.
use Rattle.layout_retuning.proofs.Strides.{keys_are}
use Rattle.layout_retuning.proofs.parts.keys_at.Goals as goal

pub returns : goal.returns
returns c = keys_are _ _ _ _ _ c.key_at.ensures c.key_at-2.ensures
