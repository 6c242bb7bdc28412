-- Each return is one position of the walk of parents.
use Prim.Native.Nat.{ℕ, ◌<◌}
use mathlib.Core.Path.{ap, ◌∙◌, subst}
use Rattle.std.specs.Prelude.{is_some}
use Rattle.mos.specs.Patterns.{count_of}
use Rattle.mos.proofs.Descent.{parent_falls}
use Rattle.mos.proofs.Sequences.{parent_here, parent_later, parent_never}
use Rattle.mos_walks.proofs.parts.+ascend.Goals as goal

pub returns-then-k-eq0 : goal.returns-then-k-eq0
returns-then-k-eq0 t c = parent_here _ _ c.if-k-eq0.true

pub returns-in-None : goal.returns-in-None
returns-in-None t c = parent_never _ _ c.if-k-eq0.false (ap is_some c.in-None.ensures)

pub ascend-requires : goal.ascend-requires
ascend-requires t c = (subst (λ (j : ℕ). count_of c.in-Some.parent.mos < j) c.decreases (parent_falls _ _ c.in-Some.ensures), tt)

pub returns-in-Some : goal.returns-in-Some
returns-in-Some t c = c.ascend.ensures ∙ parent_later _ _ _ c.if-k-eq0.false c.in-Some.ensures
