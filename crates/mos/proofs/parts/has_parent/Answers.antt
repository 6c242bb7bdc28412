-- A parent is a child of the dual.
use mathlib.Core.Path.{sym, ap, ◌∙◌}
use Rattle.std.specs.Prelude.{is_some}
use Rattle.mos.specs.declared.Mos.{Mos}
use Rattle.mos.specs.Patterns.{child_of}
use Rattle.mos.proofs.Descent.{parent_there}
use Rattle.mos.proofs.parts.has_parent.Goals as goal

pub returns : goal.returns
returns c = c.has_child.ensures ∙ ap (λ (m : Mos). is_some (child_of m)) c.dual_of.ensures ∙ sym (parent_there c.args.m)
