-- Both numbers are divided by what `gcd_u16` found, which is above 0.
use Prim.Native.Nat.{ℕ, ◌/◌}
use mathlib.Core.Path.{ap}
use Rattle.math.specs.declared.Fraction.{Fraction}
use Rattle.math.specs.Gcd.{lowest_terms}
use Rattle.math.proofs.simplify_u16.Goals as goal

abbrev divided : ℕ → ℕ → ℕ → Fraction
divided x y g = record { numer = x / g; denom = y / g }

pub returns : goal.returns
unfolding lowest_terms
returns c = ap (divided c.args.numer c.args.denom) c.gcd_u16-gcd.ensures.is
