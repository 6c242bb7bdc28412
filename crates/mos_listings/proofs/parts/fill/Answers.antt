-- Question 10, then the listing at the front.
use Prim.Native.Nat.{ℕ}
use mathlib.Core.Path.{sym, ap, ◌∙◌}
use lib.Dec.{leb}
use lib.ListN.{length}
use Rattle.mos_listings.proofs.Leaping.{walk_long}
use Rattle.mos_listings.proofs.Listings.{listing_no_room, listing_fits, listing_given}
use Rattle.mos_listings.proofs.parts.fill.Goals as goal

pub returns-then-not-children_fit : goal.returns-then-not-children_fit
returns-then-not-children_fit c =
    listing_no_room _ _ (c.children_fit.ensures ∙ sym (ap (λ (n : ℕ). leb n (length c.args.out.now)) (walk_long c.args.walk c.args.first.mos)))
    c.if-not-children_fit.true

pub list-requires : goal.list-requires
list-requires c =
    listing_fits _ _ (c.children_fit.ensures ∙ sym (ap (λ (n : ℕ). leb n (length c.args.out.now)) (walk_long c.args.walk c.args.first.mos)))
    c.if-not-children_fit.false

pub returns : goal.returns
returns c =
    listing_given _ _ (c.children_fit.ensures ∙ sym (ap (λ (n : ℕ). leb n (length c.args.out.now)) (walk_long c.args.walk c.args.first.mos)))
    c.if-not-children_fit.false c.list.ensures
