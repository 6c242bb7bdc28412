-- A run of empty layers has none that count.
use mathlib.Core.Path.{sym, ap, ◌∙◌}
use native.Mathlib.Omega.{arith}
use lib.ListN.{length, length-replicate}
use Rattle.mos_layers.proofs.Sizes.{drop_none, drop_all}
use Rattle.mos_layers.proofs.parts.count_run.Goals as goal

pub returns-then-size-eq0 : goal.returns-then-size-eq0
returns-then-size-eq0 c = (sym (ap length (drop_none c.args.times c.args.size c.if-size-eq0.true)), omega arith)

pub returns : goal.returns
returns c = (sym (ap length (drop_all c.args.times c.args.size c.if-size-eq0.false) ∙ length-replicate c.args.times c.args.size), omega arith)
