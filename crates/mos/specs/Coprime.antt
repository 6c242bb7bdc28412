-- `coprime` (document 01, "Step patterns").
use Rattle.std.specs.Prelude.{ℕ, zero, suc, ◌+◌, ◌-◌, ◌/◌, max, true, false, leb}
use Rattle.answer.specs.Choice.{pick}
use Rattle.math.specs.Gcd.{gcd_or_one}
use Rattle.mos.specs.declared.Mos.{Mos}
use Rattle.mos.specs.Patterns.{mos, primaries, secondaries, primary, secondary}

-- The difference of two steps, whichever is longer.
abbrev pub distance : ℕ → ℕ → ℕ
distance p s = p - s + (s - p)

-- "the secondary step becomes the primary less (plus, where the primary is shorter) the larger of 1 and their difference div g"
unfoldable pub pass : ℕ → ℕ → ℕ → ℕ
pass g p s = pick (leb s p) (p - max 1 (distance p s / g)) (p + max 1 (distance p s / g))

-- "as long as the steps' greatest common divisor g is above 1". The first number bounds the passes; the theorem says that it is never met.
unfoldable pub passes : ℕ → ℕ → ℕ → ℕ
unfolding pass gcd_or_one
passes zero p s = s
passes (suc more) p s =
    elim (leb (gcd_or_one p s) 1) [ true ↦ s | false ↦ passes more p (pass (gcd_or_one p s) p s) ]

-- The secondary step that `coprime` ends with. The difference falls with each pass; only that of equal steps rises, to 1.
unfoldable pub coprime_step : ℕ → ℕ → ℕ
unfolding passes
coprime_step p s = passes (2 + distance p s) p s

abbrev pub coprime_of : Mos → Mos
coprime_of m = mos (primaries m) (secondaries m) (primary m) (coprime_step (primary m) (secondary m))
