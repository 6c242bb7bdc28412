-- Questions 7 and 10, then the layers at the front; they are as many as the reduced size says.
use mathlib.Core.Path.{refl}
use Rattle.mos_layers.proofs.Answers.{layers_passed, layers_of_lem, layers_no_room, layers_room, layers_given, code_reduced}
use Rattle.mos_layers.proofs.get_layers.Goals as goal

pub returns-in_err-pattern : goal.returns-in_err-pattern
returns-in_err-pattern c = layers_passed _ _ _ c.from_residual.ensures c.in_err-pattern.ensures

pub returns-then-out-len : goal.returns-then-out-len
returns-then-out-len c =
    layers_of_lem c.in_ok-pattern.ensures
    (layers_no_room _ _ refl c.in_ok-pattern.pattern.fits (code_reduced c.in_ok-pattern.pattern.mos c.size.ensures c.num_cycles-cycles.ensures.0) c.if-out-len.true)

pub runs_over-requires : goal.runs_over-requires
runs_over-requires c = (c.in_ok-pattern.pattern.fits, c.num_cycles-cycles.ensures.0)

pub put_all_layers-requires : goal.put_all_layers-requires
put_all_layers-requires c =
    layers_room c.in_ok-pattern.pattern.mos c.runs_over.result c.runs_over.ensures c.args.out.now refl c.in_ok-pattern.pattern.fits
    (code_reduced c.in_ok-pattern.pattern.mos c.size.ensures c.num_cycles-cycles.ensures.0) c.if-out-len.false

pub returns : goal.returns
returns c =
    layers_of_lem c.in_ok-pattern.ensures
    (layers_given _ c.runs_over.result c.runs_over.ensures _ refl c.in_ok-pattern.pattern.fits
    (code_reduced c.in_ok-pattern.pattern.mos c.size.ensures c.num_cycles-cycles.ensures.0) c.if-out-len.false c.put_all_layers.ensures)
