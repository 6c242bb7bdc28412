-- The last parent: of a pattern with a parent it is the parent's.
use Prim.Native.Nat.{ℕ, ◌<◌}
use mathlib.Core.Path.{ap, ◌∙◌, subst}
use Rattle.mos.specs.Patterns.{count_of}
use Rattle.std.specs.Prelude.{is_some}
use Rattle.mos.proofs.Descent.{parent_falls}
use Rattle.mos.proofs.Sequences.{genesis_here, genesis_next}
use Rattle.mos_walks.proofs.parts.+root.Goals as goal

pub root-requires : goal.root-requires
root-requires t c = (subst (λ (j : ℕ). count_of c.in-Some.parent.mos < j) c.decreases (parent_falls _ _ c.in-Some.ensures), tt)

pub returns-in-Some : goal.returns-in-Some
returns-in-Some t c = c.root.ensures ∙ genesis_next _ _ c.in-Some.ensures

pub returns-in-None : goal.returns-in-None
returns-in-None t c = genesis_here _ (ap is_some c.in-None.ensures)
