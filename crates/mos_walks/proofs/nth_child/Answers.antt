-- Question 7, then the walk.
use Rattle.std.specs.Prelude.{slice_get}
use mathlib.Core.Path.{ap, ◌∙◌}
use Rattle.mos.specs.declared.Mos.{Mos}
use Rattle.mos.specs.Walks.{children}
use Rattle.mos.proofs.Sizes.{size_passed, size_given}
use Rattle.mos_walks.proofs.nth_child.Goals as goal

pub returns-in_err-pattern : goal.returns-in_err-pattern
returns-in_err-pattern c = size_passed _ _ _ c.from_residual.ensures c.in_err-pattern.ensures

pub returns : goal.returns
returns c =
    let same = c.in_ok-pattern.ensures in
    size_given _ same c.in_ok-pattern.pattern.fits (c.descend.ensures ∙ ap (λ (n : Mos). slice_get (children n) c.args.k) same)
