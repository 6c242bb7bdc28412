-- Question 7, then how many layers the runs have.
use mathlib.Core.Path.{ap, ◌∙◌}
use lib.ListN.{length}
use Rattle.mos.specs.declared.Mos.{Mos}
use Rattle.mos.proofs.Sizes.{size_passed, size_given}
use Rattle.mos_layers.specs.Layers.{layer_sizes}
use Rattle.mos_layers.proofs.Answers.{runs_sizes}
use Rattle.mos_layers.proofs.layer_sizes_len.Goals as goal

pub returns-in_err-pattern : goal.returns-in_err-pattern
returns-in_err-pattern c = size_passed _ _ _ c.from_residual.ensures c.in_err-pattern.ensures

pub returns : goal.returns
returns c =
    let same = c.in_ok-pattern.ensures in
    size_given _ same c.in_ok-pattern.pattern.fits
    (c.count_sizes.ensures ∙ ap length (runs_sizes _ c.runs_in.result c.runs_in.ensures) ∙ ap (λ (m : Mos). length (layer_sizes m)) same)
