use Rattle.pergen.proofs.Inverse.{one_inverse}
use Rattle.pergen.proofs.Keys.{degree_sounds_key, degree_and_cycle_tell_keys_apart}
use Rattle.claims.proofs.pergens.Goals as goal

pub returns : goal.returns
returns c = (one_inverse, degree_sounds_key, degree_and_cycle_tell_keys_apart)
