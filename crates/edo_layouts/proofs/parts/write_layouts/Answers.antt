-- At most 18 numbers are made; then comes question 10.
use mathlib.Core.Path.{refl, sym, ap}
use lib.Seq.{length-take-le}
use Rattle.answer.specs.Lent.{held_in}
use Rattle.layout.proofs.Calls.{filled_as}
use Rattle.edo_layouts.proofs.Listing.{all_there}
use Rattle.edo_layouts.proofs.parts.write_layouts.Goals as goal

pub slice_bounds-numbers-end : goal.slice_bounds-numbers-end
slice_bounds-numbers-end c = (all_there _ _ refl c.put_chains-count.ensures).0

pub slice_bounds-fill-end : goal.slice_bounds-fill-end
slice_bounds-fill-end c = sym (length-take-le _ _ (all_there _ _ refl c.put_chains-count.ensures).0)

pub returns : goal.returns
returns c =
    filled_as
    (ap (held_in _) (all_there _ _ refl c.put_chains-count.ensures).1)
    c.fill.ensures
