-- Question 7, then the walk.
use Rattle.std.specs.Prelude.{slice_get}
use mathlib.Core.Path.{ap, ◌∙◌}
use Rattle.mos.specs.declared.Mos.{Mos}
use Rattle.mos.specs.Walks.{parents}
use Rattle.mos.proofs.Sizes.{size_passed, size_given}
use Rattle.mos_walks.proofs.nth_parent.Goals as goal

pub returns-in_err-pattern : goal.returns-in_err-pattern
returns-in_err-pattern c = size_passed _ _ _ c.from_residual.ensures c.in_err-pattern.ensures

pub returns : goal.returns
returns c =
    let same = c.in_ok-pattern.ensures in
    size_given _ same c.in_ok-pattern.pattern.fits (c.ascend.ensures ∙ ap (λ (n : Mos). slice_get (parents n) c.args.k) same)
