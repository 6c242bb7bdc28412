use mathlib.Core.Path.{◌≡◌, refl, ap}
use native.Mathlib.Omega.{arith}
use Rattle.text.specs.Writing.{joined}
use Rattle.text.proofs.Writing.{wrote_as}
use Rattle.text.proofs.Joined.{joined_start, joined_step}
use Rattle.edo_lines.specs.Parts.{served_line}
use Rattle.edo_lines.proofs.put_chains.Goals as goal

pub loop-genchain-init : goal.loop-genchain-init
loop-genchain-init c = (joined_start _ _ _, omega arith, refl)

pub loop-genchain-preserved : goal.loop-genchain-preserved
loop-genchain-preserved c =
    let w = c.put_chain-place.ensures in (joined_step _ _ c.loop-genchain.invariant.0 w.0, omega (arith, w.1), omega arith)

pub returns : goal.returns
returns c =
    let all : c.loop-genchain.genchain ≡ 6 = omega arith in
    (wrote_as (ap (joined (served_line c.args.n c.args.choices)) all) c.loop-genchain.invariant.0, omega arith)
