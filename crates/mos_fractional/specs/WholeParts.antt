-- Steps that are whole numbers of 65,536ths, and patterns that agree with document 01's.
use Rattle.std.specs.Prelude.{ℕ, ◌*◌, ◌≡◌, true, Float}
use Rattle.std.specs.Float.{nan, inf, fin}
use Rattle.std.specs.Float.Ieee.{up, down}
use Rattle.mos.specs.declared.Mos.{Mos}
use Rattle.mos.specs.Patterns as whole
use Rattle.mos_fractional.specs.declared.FractionalMos.{FractionalMos}
use Rattle.mos_fractional.specs.Fractional.{primaries, secondaries, primary, secondary}

-- "a whole number k of 65,536ths": the step times 65,536 is exactly k. `fin s m e` is the number m × 2ᵉ, below 0 where s is true, and
-- `up e` / `down e` is 2ᵉ. A zero may have either sign.
abbrev pub Parts : Float → ℕ → Type 0
Parts nan k = ⊥
Parts (inf s) k = ⊥
Parts (fin s m e) k = (m * up e * 65536 ≡ k * down e) × (s ≡ true → k ≡ 0)

-- The same counts, and "every step times 65,536 is exactly the whole-number step".
pub record Same (x : FractionalMos) (m : Mos) : Type 0 where
  pub first_count : primaries x ≡ whole.primaries m
  pub second_count : secondaries x ≡ whole.secondaries m
  pub first_step : Parts (primary x) (whole.primary m)
  pub second_step : Parts (secondary x) (whole.secondary m)
