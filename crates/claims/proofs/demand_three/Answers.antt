use Rattle.layout.proofs.Naming.{spellings_sound_one_key, names_sound_their_key, names_tell_keys_apart}
use Rattle.claims.proofs.demand_three.Goals as goal

pub returns : goal.returns
returns c = (spellings_sound_one_key, names_sound_their_key, names_tell_keys_apart)
