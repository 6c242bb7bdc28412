-- Question 7, then products and a sum that are exact at 64 bits.
use mathlib.Core.Path.{ap, ◌∙◌}
use lib.IntN.{pos}
use borrow.Author.Rules.{rules}
use Rattle.mos.specs.declared.Mos.{Mos}
use Rattle.mos.specs.Patterns.{primary, secondary}
use Rattle.mos.proofs.Sizes.{size_passed, size_given}
use Rattle.mos.proofs.Keys.{key_fits, key_is}
use Rattle.mos.proofs.Mos.get_key.Goals as goal

pub returns-in_err-mos : goal.returns-in_err-mos
returns-in_err-mos c = size_passed _ _ _ c.from_residual.ensures c.in_err-mos.ensures

pub overflow_add-result : goal.overflow_add-result
overflow_add-result c =
    let same = c.in_ok-mos.ensures in
    let m = c.args.self in
    key_fits c.args.p c.args.s c.ranges.p c.ranges.s (primary m) (secondary m) (search rules) (search rules) _ _ _ _ c.from.ensures c.from-3.ensures
    (c.from-2.ensures ∙ ap (λ (n : Mos). pos (primary n)) same) (c.from-4.ensures ∙ ap (λ (n : Mos). pos (secondary n)) same)

pub returns : goal.returns
returns c =
    let same = c.in_ok-mos.ensures in
    let m = c.args.self in
    size_given _ same c.in_ok-mos.field-0.fits
    (key_is c.args.p c.args.s c.ranges.p c.ranges.s (primary m) (secondary m) (search rules) (search rules) _ _ _ _ c.from.ensures c.from-3.ensures
    (c.from-2.ensures ∙ ap (λ (n : Mos). pos (primary n)) same) (c.from-4.ensures ∙ ap (λ (n : Mos). pos (secondary n)) same))
