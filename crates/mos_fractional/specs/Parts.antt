-- What the inner functions promise to the entry points.
use Rattle.std.specs.Prelude.{ℕ, ◌<◌, List, [], ◌∷◌, ltb, Float, Option, None, Some}
use Rattle.answer.specs.Choice.{pick}
use Rattle.answer.specs.Outcome.{Outcome, given, refused, ask}
use Rattle.mos_fractional.specs.declared.FractionalMos.{FractionalMos}
use Rattle.mos_fractional.specs.Fractional.{is_finite, primaries, secondaries, child_of}

-- Both counts are above 0, as of all patterns of a walk: so the counts' sum grows with each child.
abbrev pub Growing : FractionalMos → Type 0
Growing m = (0 < primaries m) × (0 < secondaries m)

-- The turn of a listing after this one: the child is stored, if there is one. A turn that stores nothing is the last.
abbrev pub next_turn : Option FractionalMos → Option FractionalMos
next_turn None = None
next_turn (Some m) = child_of m

-- From this turn on these patterns are stored, and no more.
pub data Turns : Option FractionalMos → List FractionalMos → Type 0 where
  ended : Turns None []
  turned : (m : FractionalMos) (ms : List FractionalMos) → Turns (child_of m) ms → Turns (Some m) (m ∷ ms)

-- What a listing stores: nothing where it is refused.
abbrev pub stored_of : Outcome (List FractionalMos) → List FractionalMos
stored_of (given patterns) = patterns
stored_of (refused n) = []

-- What a listing answers that stored so many patterns.
abbrev pub answered_of : Float → ℕ → Outcome ℕ
answered_of generator count = pick (ltb 0 count) (given count) (ask 22 (is_finite generator) (refused 10))
