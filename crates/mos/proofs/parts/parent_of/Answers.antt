-- Swap counts with steps, child, swap back.
use mathlib.Core.Path.{sym, ap, ◌∙◌}
use Rattle.std.specs.Prelude.{Some, is_some}
use Rattle.mos.specs.declared.Mos.{Mos}
use Rattle.mos.specs.Patterns.{is_pattern, child_of}
use Rattle.mos.proofs.Sizes.{dual_pattern}
use Rattle.mos.proofs.Descent.{parent_there, dual_parent}
use Rattle.mos.proofs.parts.parent_of.Goals as goal

pub child_of-requires : goal.child_of-requires
child_of-requires c =
    let m = c.args.m in (
      ap is_pattern c.dual_of.ensures ∙ dual_pattern m ∙ c.requires.0,
      ap (λ (n : Mos). is_some (child_of n)) c.dual_of.ensures ∙ sym (parent_there m) ∙ c.requires.1,
    )

pub returns : goal.returns
returns c =
    dual_parent c.args.m c.child_of.result
    (sym (ap child_of c.dual_of.ensures) ∙ c.child_of.ensures)
    ∙ ap Some (sym c.dual_of-2.ensures)
