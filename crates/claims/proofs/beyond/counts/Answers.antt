use Rattle.pergen.proofs.DegreePlaces.{few_signs}
use Rattle.layout_layers.proofs.Counts.{signs_by_count, keys_by_count}
use Rattle.layout_layers.proofs.Theorems.{counts_fit}
use Rattle.mos_layers.proofs.Theorems.{enough_layers}
use Rattle.claims.proofs.beyond.counts.Goals as goal

pub returns : goal.returns
returns c = (few_signs, signs_by_count, counts_fit, keys_by_count, enough_layers)
