use Rattle.mos.proofs.Theorems.{steps_stay_above, letters_fit, made_patterns}
use Rattle.claims.proofs.beyond.patterns_are_sound.Goals as goal

pub returns : goal.returns
returns c = (steps_stay_above, letters_fit, made_patterns)
