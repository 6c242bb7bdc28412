use Rattle.mos.proofs.Scale.{pattern_is_scale}
use Rattle.mos.proofs.IntervalClasses.{interval_classes_have_two_sizes}
use Rattle.claims.proofs.patterns_are_scales.Goals as goal

pub returns : goal.returns
returns c = (pattern_is_scale, interval_classes_have_two_sizes)
