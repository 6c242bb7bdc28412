use mathlib.Core.Path.{refl, sym, ◌∙◌}
use native.Mathlib.Omega.{arith}
use Rattle.mos.proofs.Descent.{child_at, child_falls, child_keeps_pattern}
use Rattle.mos.proofs.Sequences.{none_of}
use Rattle.mos_walks.proofs.Searches.{find_here, find_past, find_end, find_next}
use Rattle.mos_walks.proofs.search.first_with.Goals as goal

pub loop-pattern-init : goal.loop-pattern-init
loop-pattern-init c = (c.requires, refl)

pub returns-then-n-count_of : goal.returns-then-n-count_of
returns-then-n-count_of c = find_past _ _ (omega arith) ∙ c.loop-pattern.invariant.1

pub returns-then-not-has_child : goal.returns-then-not-has_child
returns-then-not-has_child c =
    find_end _ _ (omega arith) (none_of _ (sym c.has_child.ensures ∙ c.if-not-has_child.true))
    ∙ c.loop-pattern.invariant.1

pub child_of-requires : goal.child_of-requires
child_of-requires c = (c.loop-pattern.invariant.0, sym c.has_child.ensures ∙ c.if-not-has_child.false)

pub loop-pattern-smaller : goal.loop-pattern-smaller
loop-pattern-smaller c = child_falls (child_at c.child_of.ensures)

pub loop-pattern-preserved : goal.loop-pattern-preserved
loop-pattern-preserved c = (
  child_keeps_pattern (child_at c.child_of.ensures) c.loop-pattern.invariant.0,
  find_next _ _ _ (omega arith) c.child_of.ensures ∙ c.loop-pattern.invariant.1,
)

pub returns : goal.returns
returns c = find_here _ _ (omega arith) ∙ c.loop-pattern.invariant.1
