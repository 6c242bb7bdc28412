-- Which step is meant, whether the other is 0, and then one comparison.
use Rattle.mos_listings.proofs.Shortening.{without_secondary, without_primary, primary_longer, secondary_longer}
use Rattle.mos_listings.proofs.parts.shortens.Goals as goal

pub returns-then-m-eq0 : goal.returns-then-m-eq0
returns-then-m-eq0 c = simp c.if-of_primary.true (without_secondary _ c.if-m-eq0.true)

pub returns-then-of_primary : goal.returns-then-of_primary
returns-then-of_primary c = simp c.if-of_primary.true (primary_longer _ c.if-m-eq0.false)

pub returns-then-m-eq0-2 : goal.returns-then-m-eq0-2
returns-then-m-eq0-2 c = simp c.if-of_primary.false (without_primary _ c.if-m-eq0-2.true)

pub returns : goal.returns
returns c = simp c.if-of_primary.false (secondary_longer _ c.if-m-eq0-2.false)
