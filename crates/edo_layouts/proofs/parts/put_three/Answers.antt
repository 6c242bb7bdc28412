-- Three stores, one after the other.
use native.Mathlib.Omega.{arith}
use mathlib.Core.Path.{◌∙◌}
use lib.ListN.{length-set}
use Rattle.edo_layouts.proofs.Listing.{three_stored, as_one}
use Rattle.edo_layouts.proofs.parts.put_three.Goals as goal

pub bounds-out-at-2 : goal.bounds-out-at-2
bounds-out-at-2 c = simp length-set (omega arith)

pub bounds-out-at-3 : goal.bounds-out-at-3
bounds-out-at-3 c = simp length-set (omega arith)

pub returns : goal.returns
returns c = three_stored _ _ c.args.found _ (c.from.ensures ∙ as_one _)
