use Rattle.layout.proofs.SoundedKeys.{spellings_have_a_key}
use Rattle.pergen.proofs.SignedNumbers.{signs_add_to_the_place}
use Rattle.claims.proofs.beyond.sounded_keys.Goals as goal

pub returns : goal.returns
returns c = (spellings_have_a_key, signs_add_to_the_place)
