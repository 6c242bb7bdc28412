-- A key of the block is the nearest itself; one outside has the nearer end.
use mathlib.Core.Logic.{inl, inr}
use native.Mathlib.Omega.{arith}
use Rattle.layout_reach.proofs.Blocks.{key_itself, end_is}
use Rattle.layout_reach.proofs.parts.nearest_in.Goals as goal
use Rattle.layout_reach.proofs.parts.nearest_in.Goals.{then-key-base-via-then-key-base, then-key-base-via-else-key-base+then-last-key}

pub returns-then-key-base : goal.returns-then-key-base
returns-then-key-base c =
    end_is _ _ _ _ c.requires.0 c.requires.1 _ (omega (arith, c.requires.0.some))
    (elim c.then-key-base.branch [
      | then-key-base-via-then-key-base w ↦ inl w.if-key-base.true
      | then-key-base-via-else-key-base+then-last-key w ↦ inr (omega (arith, c.requires.0.some, w.if-last-key.true))
    ])
    _ c.nearer_end.ensures

pub returns : goal.returns
returns c = key_itself _ _ _ _ c.requires.0 c.requires.1 c.if-key-base.false (omega (arith, c.requires.0.some, c.if-last-key.false))
