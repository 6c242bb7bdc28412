-- Scale names (document 01, "Step patterns"): the chain's, by the pattern's two steps.
use Rattle.std.specs.Prelude.{ℕ, List, ltb}
use Rattle.answer.specs.Choice.{pick}
use Rattle.mos.specs.declared.Mos.{Mos}
use Rattle.mos.specs.Patterns.{primary, secondary}
use Rattle.genchain.specs.Chains.{chain_of, equalized}

-- The scale name of a pattern; sharpness is the primary less the secondary step.
unfoldable pub scale_name : ℕ → Mos → List ℕ
unfolding chain_of
scale_name code m =
    pick (ltb (secondary m) (primary m)) (chain_of code).scale_above
    (pick (ltb (primary m) (secondary m)) (chain_of code).scale_below equalized)
