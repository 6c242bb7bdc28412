use mathlib.Core.Path.{◌≡◌, refl}
use native.Mathlib.Omega.{arith}
use Rattle.text.proofs.Joined.{joined_start, joined_step}
use Rattle.edo_layouts.proofs.Listing.{few_numbers}
use Rattle.edo_layouts.proofs.parts.put_chains.Goals as goal

pub loop-genchain-init : goal.loop-genchain-init
loop-genchain-init c = (joined_start _ _ _, omega arith, refl)

pub loop-genchain-preserved : goal.loop-genchain-preserved
loop-genchain-preserved c =
    let w = c.put_chain-place.ensures in (
      joined_step _ _ c.loop-genchain.invariant.0 w,
      omega (arith, w.end, few_numbers c.args.n c.args.choices c.loop-genchain.genchain),
      omega arith,
    )

pub returns : goal.returns
returns c = let all : c.loop-genchain.genchain ≡ 6 = omega arith in rw all at c.loop-genchain.invariant.0
