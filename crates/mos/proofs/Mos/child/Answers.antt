-- Question 7, then the child.
use borrow.Author.Rules.{rules}
use mathlib.Core.Path.{ap, ◌∙◌}
use Rattle.mos.specs.Patterns.{child_of}
use Rattle.mos.proofs.Sequences.{mapped}
use Rattle.mos.proofs.Sizes.{size_passed, size_given}
use Rattle.mos.proofs.Mos.child.Goals as goal

pub returns-in_err-pattern : goal.returns-in_err-pattern
returns-in_err-pattern c = size_passed _ _ _ c.from_residual.ensures c.in_err-pattern.ensures

pub returns : goal.returns
returns c = size_given _ c.in_ok-pattern.ensures c.in_ok-pattern.pattern.fits (mapped _ _ _ c.map.ensures.cases (λ x y h. search rules) c.child.ensures ∙ ap child_of c.in_ok-pattern.ensures)
