-- Question 7, then the listing at the front, where it fits.
use mathlib.Core.Path.{sym, ap}
use Rattle.mos.specs.Walks.{children}
use Rattle.mos_listings.proofs.Listings.{listing_passed, listing_of}
use Rattle.mos_listings.proofs.children.Goals as goal

pub returns-in_err-pattern : goal.returns-in_err-pattern
returns-in_err-pattern c = listing_passed _ _ _ _ c.from_residual.ensures c.in_err-pattern.ensures

pub returns : goal.returns
returns c =
    let same = c.in_ok-pattern.ensures in
    listing_of _ _ _ same c.in_ok-pattern.pattern.fits (rw (sym (ap children same)) c.fill.ensures)
