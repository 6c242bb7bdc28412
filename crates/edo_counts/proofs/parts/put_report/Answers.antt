use mathlib.Core.Path.{◌≡◌, refl, ap, ◌∙◌}
use native.Mathlib.Omega.{arith}
use Rattle.text.specs.Writing.{joined}
use Rattle.text.proofs.Writing.{wrote_as}
use Rattle.text.proofs.Joined.{joined_start, joined_step}
use Rattle.edo_counts.specs.Counts.{chain_line}
use Rattle.edo_counts.proofs.Lines.{line_is, chain_short, report_is}
use Rattle.edo_counts.proofs.parts.put_report.Goals as goal

pub loop-genchain-init : goal.loop-genchain-init
loop-genchain-init c = (joined_start _ _ _, omega arith, refl)

pub loop-genchain-preserved : goal.loop-genchain-preserved
loop-genchain-preserved c =
    let w = wrote_as (line_is _ _ c.tally_chain-tally.ensures) c.put_line-place.ensures in (
      joined_step _ _ c.loop-genchain.invariant.0 w,
      omega (arith, w.end, chain_short c.loop-genchain.genchain c.loop-genchain-test.true),
      omega arith,
    )

pub returns : goal.returns
returns c =
    let all : c.loop-genchain.genchain ≡ 6 = omega arith in
    wrote_as (ap (joined chain_line) all ∙ report_is) c.loop-genchain.invariant.0
