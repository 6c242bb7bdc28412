use Rattle.layout_lamps.proofs.Theorems.{first_octave_stays}
use Rattle.claims.proofs.w_204.Goals as goal

pub returns : goal.returns
returns c = first_octave_stays
