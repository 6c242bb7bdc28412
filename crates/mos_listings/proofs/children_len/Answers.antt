-- Question 7, then four numbers a pattern.
use Prim.Native.Nat.{ℕ, ◌*◌}
use lib.ListN.{length}
use mathlib.Core.Path.{sym, ap, ◌∙◌}
use Rattle.mos.specs.declared.Mos.{Mos}
use Rattle.mos.specs.Walks.{children}
use Rattle.mos.proofs.Sizes.{size_passed, size_given}
use Rattle.mos.proofs.Sequences.{length_listed}
use Rattle.mos_listings.proofs.children_len.Goals as goal

pub returns-in_err-pattern : goal.returns-in_err-pattern
returns-in_err-pattern c = size_passed _ _ _ c.from_residual.ensures c.in_err-pattern.ensures

pub returns : goal.returns
returns c = size_given _ c.in_ok-pattern.ensures c.in_ok-pattern.pattern.fits (ap (λ (n : ℕ). n * 4) (c.count_children.ensures ∙ ap (λ (m : Mos). length (children m)) c.in_ok-pattern.ensures) ∙ sym (length_listed (children c.args.mos)))
