use Rattle.layout_reach.proofs.Distances.{distances_round_the_octave}
use Rattle.layout_reach.proofs.LetterKeys.{bears_is_the_name, bare_letters_sound_their_keys, letters_have_keys}
use Rattle.layout_reach.proofs.Nearest.{nearest_is_answered, some_nearest_key}
use Rattle.layout_reach.proofs.Spans.{reach_is_exact}
use Rattle.claims.proofs.w_203.Goals as goal

pub returns : goal.returns
returns c =
    (distances_round_the_octave, bears_is_the_name, bare_letters_sound_their_keys, letters_have_keys, nearest_is_answered, some_nearest_key, reach_is_exact)
