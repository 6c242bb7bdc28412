-- A run, one pattern more, and the walk from what comes next.
use Prim.Native.Nat.{ℕ, ◌<◌}
use mathlib.Core.Path.{sym, ◌∙◌, subst}
use native.Mathlib.Omega.{arith}
use Rattle.mos.specs.Patterns.{steps_of}
use Rattle.mos.specs.Walks.{children}
use Rattle.mos.proofs.Descent.{child_at, child_falls}
use Rattle.mos.proofs.Sequences.{children_follow, none_of}
use Rattle.mos_listings.proofs.Runs.{listing_room, listing_more, listing_end, listing_rest, listing_whole}
use Rattle.mos_listings.proofs.parts.+list_children.Goals as goal

pub put_pattern-after-requires : goal.put_pattern-after-requires
put_pattern-after-requires t c =
    listing_room children (λ m. m) children_follow _ _ c.list_child_run-run.ensures c.requires.1

pub list_children-requires : goal.list_children-requires
list_children-requires t c =
    let run = c.list_child_run-run.ensures in
    let there = c.child_of.ensures in
    let more = listing_more children (λ m. m) children_follow _ _ run _ there c.put_pattern-after.ensures in (
      subst (λ (j : ℕ). steps_of c.child_of.result < j) c.decreases (omega (arith, run.falls, child_falls (child_at there))),
      (
        more.pattern,
        listing_rest children (λ m. m) children_follow _ _ more c.requires.1,
      ),
    )

pub returns-then-has_child : goal.returns-then-has_child
returns-then-has_child t c =
    listing_whole children (λ m. m) children_follow _ _
    (listing_more children (λ m. m) children_follow _ _ c.list_child_run-run.ensures _ c.child_of.ensures c.put_pattern-after.ensures)
    c.list_children.ensures

pub returns : goal.returns
returns t c =
    listing_end children (λ m. m) children_follow _ _ c.list_child_run-run.ensures (none_of _ (sym c.has_child.ensures ∙ c.if-has_child.false))
    c.put_pattern-after.ensures
