-- A run of empty layers has none that count.
use mathlib.Core.Path.{sym, ap, ◌∙◌}
use native.Mathlib.Omega.{arith}
use lib.ListN.{length, length-replicate}
use Rattle.mos_layers.proofs.Sizes.{drop_none, drop_all}
use Rattle.layout_layers.proofs.parts.layers_in.Goals as goal

pub returns-then-size-gt0 : goal.returns-then-size-gt0
returns-then-size-gt0 c =
    sym
    (ap length (drop_all c.args.times c.args.size (λ e. omega (arith, c.if-size-gt0.true))) ∙ length-replicate c.args.times c.args.size)

pub returns : goal.returns
returns c =
    sym (ap length (drop_none c.args.times c.args.size (omega (arith, c.if-size-gt0.false))))
