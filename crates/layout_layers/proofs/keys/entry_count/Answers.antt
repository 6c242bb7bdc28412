-- Two octaves where both steps are equal.
use mathlib.Core.Path.{sym, ◌∙◌}
use native.Mathlib.Omega.{arith}
use Rattle.layout_layers.proofs.PreparedPlans.{entries_double, entries_single}
use Rattle.layout_layers.proofs.keys.entry_count.Goals as goal

pub returns-then-is_equalized : goal.returns-then-is_equalized
returns-then-is_equalized c =
    (entries_double c.args.octave c.args.pattern (sym c.is_equalized.ensures ∙ c.if-is_equalized.true), omega arith)

pub returns : goal.returns
returns c =
    (entries_single c.args.octave c.args.pattern (sym c.is_equalized.ensures ∙ c.if-is_equalized.false), omega arith)
