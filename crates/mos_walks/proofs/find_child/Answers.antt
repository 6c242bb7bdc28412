-- Question 7, then the walk.
use mathlib.Core.Path.{ap, ◌∙◌}
use Rattle.mos.specs.declared.Mos.{Mos}
use Rattle.mos.specs.Walks.{children, first_with}
use Rattle.mos.proofs.Sizes.{size_passed, size_given}
use Rattle.mos_walks.proofs.Meeting.{meets_found}
use Rattle.mos_walks.proofs.find_child.Goals as goal

pub returns-in_err-pattern : goal.returns-in_err-pattern
returns-in_err-pattern c = size_passed _ _ _ c.from_residual.ensures c.in_err-pattern.ensures

pub seek-requires : goal.seek-requires
seek-requires c = c.in_ok-pattern.pattern.fits

pub returns : goal.returns
returns c =
    let same = c.in_ok-pattern.ensures in
    size_given _ same c.in_ok-pattern.pattern.fits
    (meets_found _ _ c.seek.ensures ∙ ap (λ (n : Mos). first_with c.args.num_steps (children n)) same)
