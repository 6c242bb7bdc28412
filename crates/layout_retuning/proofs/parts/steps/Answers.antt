-- Both keys are the spelling's, within the octave.
use Rattle.layout_retuning.proofs.Calls.{steps_are}
use Rattle.layout_retuning.proofs.Strides.{keys_below}
use Rattle.layout_retuning.proofs.parts.steps.Goals as goal

pub distance-requires : goal.distance-requires
distance-requires c = keys_below _ c.args.tunings.positive _ _ _ c.keys_at-keys.ensures

pub returns : goal.returns
returns c = steps_are _ _ _ _ _ c.sides_of-place.ensures c.keys_at-keys.ensures c.distance.ensures
