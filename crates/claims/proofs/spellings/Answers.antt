use Rattle.pergen.proofs.DegreePlaces.{accidentals_sound_their_key, letter_without_signs}
use Rattle.pergen.proofs.Keys.{spellings_of_one_key}
use Rattle.layout.proofs.Naming.{enough_keys}
use Rattle.claims.proofs.spellings.Goals as goal

pub returns : goal.returns
returns c = (accidentals_sound_their_key, letter_without_signs, spellings_of_one_key, enough_keys)
