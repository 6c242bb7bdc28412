-- A run, one pattern more, and the walk from what comes next.
use Prim.Native.Nat.{ℕ, ◌<◌}
use mathlib.Core.Path.{sym, ap, ◌∙◌, subst}
use native.Mathlib.Omega.{arith}
use Rattle.text.proofs.Writing.{wrote_as}
use Rattle.mos.specs.Patterns.{steps_of, dual_of}
use Rattle.mos.specs.Walks.{fields}
use Rattle.mos.proofs.Descent.{child_at, child_falls}
use Rattle.mos.proofs.Sequences.{none_of}
use Rattle.mos_listings.specs.Parts.{dual_parents}
use Rattle.mos_listings.proofs.Runs.{dual_follow, listing_room, listing_more, listing_end, listing_rest, listing_whole}
use Rattle.mos_listings.proofs.parts.+list_dual_parents.Goals as goal

pub put_pattern-after-requires : goal.put_pattern-after-requires
put_pattern-after-requires t c =
    listing_room dual_parents dual_of dual_follow _ _ c.list_parent_run-run.ensures c.requires.1

pub list_dual_parents-requires : goal.list_dual_parents-requires
list_dual_parents-requires t c =
    let run = c.list_parent_run-run.ensures in
    let there = c.child_of.ensures in
    let more = listing_more dual_parents dual_of dual_follow _ _ run _ there (wrote_as (ap fields c.dual_of.ensures) c.put_pattern-after.ensures) in (
      subst (λ (j : ℕ). steps_of c.child_of.result < j) c.decreases (omega (arith, run.falls, child_falls (child_at there))),
      (
        more.pattern,
        listing_rest dual_parents dual_of dual_follow _ _ more c.requires.1,
      ),
    )

pub returns-then-has_child : goal.returns-then-has_child
returns-then-has_child t c =
    listing_whole dual_parents dual_of dual_follow _ _
    (listing_more dual_parents dual_of dual_follow _ _ c.list_parent_run-run.ensures _ c.child_of.ensures (wrote_as (ap fields c.dual_of.ensures) c.put_pattern-after.ensures))
    c.list_dual_parents.ensures

pub returns : goal.returns
returns t c =
    listing_end dual_parents dual_of dual_follow _ _ c.list_parent_run-run.ensures (none_of _ (sym c.has_child.ensures ∙ c.if-has_child.false))
    (wrote_as (ap fields c.dual_of.ensures) c.put_pattern-after.ensures)
