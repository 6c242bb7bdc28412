-- The walk of children from a fractional generator.
use Rattle.std.specs.Prelude.{ℕ, zero, suc, ◌-◌, List, [], ◌∷◌, Float, Option, None, Some}
use Rattle.mos_fractional.specs.declared.FractionalMos.{FractionalMos}
use Rattle.mos_fractional.specs.Fractional.{count_of, genesis, child_of}

-- The rest of a walk, where there is a next pattern.
abbrev pub onward : Option FractionalMos → (FractionalMos → List FractionalMos) → List FractionalMos
onward None rest = []
onward (Some m) rest = rest m

-- A pattern, its child, and so on to the end. The number bounds the walk's length; `WalkIsWhole` says that it is never met.
unfoldable pub walk : ℕ → FractionalMos → List FractionalMos
unfolding child_of
walk zero m = m ∷ []
walk (suc more) m = m ∷ onward (child_of m) (walk more)

-- The whole walk of children from a pattern with counts above 0, itself first: the sum of the counts grows with each, and above 65,535
-- there is no child.
unfoldable pub children : FractionalMos → List FractionalMos
unfolding walk
children m = walk (65536 - count_of m) m

-- The whole walk of a generator, the genesis first.
abbrev pub children_from : Float → List FractionalMos
children_from generator = children (genesis generator)
