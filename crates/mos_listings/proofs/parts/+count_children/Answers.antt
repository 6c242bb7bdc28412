-- As many patterns more than the walk from there as the leap has turns.
use mathlib.Core.Path.{sym, ap}
use native.Mathlib.Omega.{arith}
use lib.ListN.{length}
use Rattle.mos.proofs.Sequences.{children_end, children_few}
use Rattle.mos_listings.proofs.parts.+count_children.Goals as goal

pub overflow_add-result : goal.overflow_add-result
overflow_add-result t c =
    omega (arith, c.in-Some.ensures.counted, c.count_children.ensures, c.from.ensures, children_few c.args.m.mos)

pub returns-in-None : goal.returns-in-None
returns-in-None t c = sym (ap length (children_end _ c.in-None.ensures))
