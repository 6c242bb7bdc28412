-- What the calls on fractional patterns write and answer.
use Rattle.std.specs.Prelude.{List, [], ◌∷◌, Option, None, Some}
use Rattle.mos_fractional.specs.declared.FractionalMos.{FractionalMos}

-- "No child" is an ordinary answer: no pattern.
abbrev pub child_patterns : Option FractionalMos → List FractionalMos
child_patterns None = []
child_patterns (Some m) = m ∷ []
