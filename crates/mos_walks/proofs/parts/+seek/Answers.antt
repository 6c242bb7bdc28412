-- Each return is one equation of the search.
use Prim.Native.Nat.{ℕ, ◌<◌}
use mathlib.Core.Path.{sym, ◌∙◌, subst}
use native.Mathlib.Omega.{arith}
use Rattle.mos.specs.Patterns.{steps_of}
use Rattle.mos.proofs.Descent.{child_at, child_falls, child_keeps_pattern}
use Rattle.mos.proofs.Sequences.{none_of}
use Rattle.mos_walks.proofs.Searches.{find_here, find_past, find_end, find_next}
use Rattle.mos_walks.proofs.Meeting.{meets_here, meets_none, meets_as}
use Rattle.mos_walks.proofs.parts.+seek.Goals as goal

pub returns-then-have-n : goal.returns-then-have-n
returns-then-have-n t c = meets_here _ _ (find_here _ _ (sym c.count_of-have.ensures ∙ c.if-have-n.true))

pub returns-then-n-have : goal.returns-then-n-have
returns-then-n-have t c = meets_none _ (find_past _ _ (omega arith))

pub child_of-child-requires : goal.child_of-child-requires
child_of-child-requires t c = (c.requires, sym c.has_child.ensures ∙ c.if-has_child.true)

pub seek-requires : goal.seek-requires
seek-requires t c =
    let child = child_at c.child_of-child.ensures in
    (subst (λ (j : ℕ). steps_of c.child_of-child.result < j) c.decreases (child_falls child), child_keeps_pattern child c.requires)

pub returns-then-has_child : goal.returns-then-has_child
returns-then-has_child t c = meets_as c.seek.ensures (find_next _ _ _ (omega arith) c.child_of-child.ensures)

pub returns : goal.returns
returns t c = meets_none _ (find_end _ _ (omega arith) (none_of _ (sym c.has_child.ensures ∙ c.if-has_child.false)))
