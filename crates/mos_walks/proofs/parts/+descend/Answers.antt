-- Each return is one position of the walk of children.
use Prim.Native.Nat.{ℕ, ◌<◌}
use mathlib.Core.Path.{ap, ◌∙◌, subst}
use Rattle.std.specs.Prelude.{is_some}
use Rattle.mos.specs.Patterns.{steps_of}
use Rattle.mos.proofs.Descent.{child_at, child_falls}
use Rattle.mos.proofs.Sequences.{child_here, child_later, child_never}
use Rattle.mos_walks.proofs.parts.+descend.Goals as goal

pub returns-then-k-eq0 : goal.returns-then-k-eq0
returns-then-k-eq0 t c = child_here _ _ c.if-k-eq0.true

pub returns-in-None : goal.returns-in-None
returns-in-None t c = child_never _ _ c.if-k-eq0.false (ap is_some c.in-None.ensures)

pub descend-requires : goal.descend-requires
descend-requires t c = (subst (λ (j : ℕ). steps_of c.in-Some.child.mos < j) c.decreases (child_falls (child_at c.in-Some.ensures)), tt)

pub returns-in-Some : goal.returns-in-Some
returns-in-Some t c = c.descend.ensures ∙ child_later _ _ _ c.if-k-eq0.false c.in-Some.ensures
