-- The steps divided by the divisor that is lent.
use mathlib.Core.Path.{◌∙◌}
use Rattle.mos_layers.proofs.Theorems.{divisor_above, divided_fits, cycles_layers}
use Rattle.mos_layers.proofs.parts.runs_over.Goals as goal

pub divided-x-requires : goal.divided-x-requires
divided-x-requires c = divisor_above c.args.m _ c.requires.1

pub divided-y-requires : goal.divided-y-requires
divided-y-requires c = divisor_above c.args.m _ c.requires.1

pub runs_of-requires : goal.runs_of-requires
runs_of-requires c =
    divided_fits c.args.m _ c.requires.1 _ _ c.divided-x.ensures c.divided-y.ensures c.requires.0

pub returns : goal.returns
returns c =
    c.runs_of.ensures ∙ cycles_layers c.args.m _ c.requires.1 _ _ c.divided-x.ensures c.divided-y.ensures
