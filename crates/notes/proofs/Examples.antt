-- The worked examples, computed.
use mathlib.Core.Path.{refl}
use Rattle.pergen.specs.Spelling.{key_accidentals, sounded_key}
use Rattle.notes.specs.Names.{printed}
use Rattle.notes.specs.Reading.{read_name}
use Rattle.notes.specs.Answers.{chain_name, name_length_outcome, name_outcome}
use Rattle.notes.specs.Examples.{ExamplesHold}

pub examples_hold : ExamplesHold
unfolding chain_name read_name name_length_outcome name_outcome printed key_accidentals sounded_key
examples_hold =
    record {
      names = refl;
      readings = refl;
      fits = refl;
      no_room = refl;
      no_chain_lem = refl;
      length_given = refl;
      length_no_chain = refl;
      first_of_two = refl;
      second_of_two = refl;
      two_bare = refl;
    }
