use Rattle.pergen.proofs.Keys.{keys_from_zero_on}
use Rattle.layout_layers.proofs.Theorems.{layers_from_zero_on}
use Rattle.claims.proofs.w_201.Goals as goal

pub returns : goal.returns
returns c = (keys_from_zero_on, layers_from_zero_on)
