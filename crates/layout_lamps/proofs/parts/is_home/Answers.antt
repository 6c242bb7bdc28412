-- Key 0, or the octave.
use Rattle.layout_lamps.proofs.StripLaws.{home_first, home_second}
use Rattle.layout_lamps.proofs.parts.is_home.Goals as goal

pub returns-then-number-eq0 : goal.returns-then-number-eq0
returns-then-number-eq0 c = home_first _ _ c.requires.1 c.if-number-eq0.true

pub returns : goal.returns
returns c = home_second _ _ c.requires.1 c.if-number-eq0.false
