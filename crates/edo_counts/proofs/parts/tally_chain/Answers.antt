use Prim.Native.Nat.{ℕ}
use mathlib.Core.Path.{◌≡◌, ap, ◌∙◌}
use native.Mathlib.Omega.{arith}
use Rattle.edo_counts.specs.Counts.{all_layouts, tally_of}
use Rattle.edo_counts.proofs.Counting.{tally_none, tally_more, tally_small}
use Rattle.edo_counts.proofs.parts.tally_chain.Goals as goal

pub loop-before-init : goal.loop-before-init
loop-before-init c = tally_none _

pub with_chain-tally-requires : goal.with_chain-tally-requires
with_chain-tally-requires c = tally_small _ c.requires c.loop-before.before _ c.loop-before.invariant c.loop-before-test.true

pub loop-before-preserved : goal.loop-before-preserved
loop-before-preserved c = tally_more _ c.requires _ _ _ c.loop-before.invariant c.with_chain-tally.ensures

pub returns : goal.returns
returns c =
    let all : c.loop-before.before ≡ 400 = omega arith in
    c.loop-before.invariant ∙ ap (λ (k : ℕ). tally_of c.args.genchain (all_layouts k)) all
