-- The two steps of a genesis make up the period.
use native.Mathlib.Nat.{pos_of_ne-zero}
use native.Mathlib.Omega.{arith}
use mathlib.Core.Path.{ap, ◌∙◌}
use Rattle.mos.specs.Patterns.{is_pattern}
use Rattle.mos.proofs.Sizes.{fits_pattern}
use Rattle.mos.proofs.Theorems.{genesis_size}
use Rattle.mos.proofs.pattern.Pattern.genesis.Goals as goal

pub invariant_of-result : goal.invariant_of-result
invariant_of-result c = record {
  fits =
      ap is_pattern c.genesis_of.ensures
      ∙ fits_pattern _ (omega (arith, genesis_size c.args.period c.args.generator (pos_of_ne-zero c.if-period-eq0.false)));
}
