-- Questions 7 and 10, then the sizes at the front.
use mathlib.Core.Path.{refl}
use Rattle.mos_layers.proofs.Answers.{sizes_passed, sizes_of, sizes_no_room, sizes_given}
use Rattle.mos_layers.proofs.layer_sizes.Goals as goal

pub returns-in_err-pattern : goal.returns-in_err-pattern
returns-in_err-pattern c = sizes_passed _ _ _ c.from_residual.ensures c.in_err-pattern.ensures

pub returns-then-out-len : goal.returns-then-out-len
returns-then-out-len c =
    sizes_of c.in_ok-pattern.ensures
    (sizes_no_room _ c.runs_in-runs.result c.runs_in-runs.ensures _ refl c.in_ok-pattern.pattern.fits c.count_sizes-len.ensures c.if-out-len.true)

pub returns : goal.returns
returns c =
    sizes_of c.in_ok-pattern.ensures
    (sizes_given _ c.runs_in-runs.result c.runs_in-runs.ensures _ refl c.in_ok-pattern.pattern.fits c.count_sizes-len.ensures c.if-out-len.false c.put_all_sizes.ensures)
