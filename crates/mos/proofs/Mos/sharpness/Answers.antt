-- Question 7, then the difference of the steps.
use mathlib.Core.Path.{ap, ◌∙◌}
use lib.IntN.{pos}
use borrow.Author.Rules.{rules}
use Rattle.mos.specs.declared.Mos.{Mos}
use Rattle.mos.specs.Patterns.{primary, secondary}
use Rattle.mos.proofs.Sizes.{size_passed, size_given}
use Rattle.mos.proofs.Keys.{difference_is}
use Rattle.mos.proofs.Mos.sharpness.Goals as goal

pub returns-in_err-mos : goal.returns-in_err-mos
returns-in_err-mos c = size_passed _ _ _ c.from_residual.ensures c.in_err-mos.ensures

pub returns : goal.returns
returns c =
    let same = c.in_ok-mos.ensures in
    let m = c.args.self in
    size_given _ same c.in_ok-mos.field-0.fits
    (difference_is _ _ (primary m) (secondary m) (c.from.ensures ∙ ap (λ (n : Mos). pos (primary n)) same)
    (c.from-2.ensures ∙ ap (λ (n : Mos). pos (secondary n)) same) (search rules) (search rules))
