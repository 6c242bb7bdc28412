-- The divisor of the steps, and the runs over it.
use Rattle.mos_layers.proofs.parts.runs_in.Goals as goal

pub runs_over-requires : goal.runs_over-requires
runs_over-requires c = (c.args.m.fits, c.num_cycles.ensures.0)
