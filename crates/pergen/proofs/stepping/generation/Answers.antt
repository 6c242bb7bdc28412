-- The cycle is there where there are several.
use Rattle.pergen.proofs.CarriedWalk.{shown_cycle}
use Rattle.pergen.proofs.stepping.generation.Goals as goal

pub returns : goal.returns
returns c = shown_cycle _ _ c.requires _ c.then_some.ensures
