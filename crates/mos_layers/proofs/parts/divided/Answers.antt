-- Dividing by 1 changes nothing.
use Rattle.mos_layers.proofs.Theorems.{divided_by_one}
use Rattle.mos_layers.proofs.parts.divided.Goals as goal

pub returns-then-cycles-eq1 : goal.returns-then-cycles-eq1
returns-then-cycles-eq1 c = divided_by_one c.args.x c.args.cycles c.if-cycles-eq1.true
