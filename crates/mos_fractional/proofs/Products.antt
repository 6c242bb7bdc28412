-- Each k below 65,536 is the whole number of some generator: k as a double, divided by 65,536. And a step that is k 65,536ths, multiplied
-- by 65,536 as a double, is k as a double.
use mathlib.Core.Path.{◌≡◌, ap, sym, subst, ◌∙◌}
use Prim.Native.Nat.{ℕ, ◌*◌, ◌≤◌, ◌<◌}
use native.Mathlib.Nat.{le_of_lt, le_trans, mul_assoc, mul_comm, mul-one, mul-pos}
use native.Mathlib.Omega.{arith}
use mathlib.Core.Bool.{true, false}
use lib.IntN.{pos}
use lib.Dec.{lit<, lit≤}
use lib.Ieee.{Float, nan, inf, fin, binary64, up, down, mul, div, of_int}
use lib.Ieee.Exact.{HasValue}
use lib.Ieee.Scale.{round_same}
use lib.Ieee.Fits.{down_pos}
use lib.Ieee.Back.{round_whole}
use Rattle.mos_fractional.specs.WholeParts.{Parts}
use Rattle.mos_fractional.specs.Theorems.{scale}
use Rattle.mos_fractional.proofs.Rounding.{round_parts, parts_of}

div_parts : (x : Float) (k : ℕ) → HasValue x false k 1 → k ≤ 65536 → HasValue (div binary64 x scale) false k 65536
unfolding div
div_parts nan k h l = absurd h
div_parts (inf s) k h l = absurd h
div_parts (fin true m e) k h l = absurd (let z : ◌≡◌ {A = ℕ} 0 1 = cc h.0 in omega arith)
div_parts (fin false m e) k h l =
    round_parts false (m * up e * 1) (1 * 65536 * down e) k (mul-pos (lit< {m = 0} {n = 65536} tt) (down_pos e)) l
    (ap (λ (x : ℕ). x * 65536) h.1 ∙ mul_assoc k (down e) 65536 ∙ ap (λ (x : ℕ). k * x) (mul_comm (down e) 65536))

of_int_lem : (k : ℕ) → k ≤ 65536 → HasValue (of_int binary64 (pos k)) false k 1
unfolding of_int
of_int_lem k l = round_whole binary64 false k (le_trans l (lit≤ tt))

pub generator_of_lem : (k : ℕ) → k < 65536 → Parts (div binary64 (of_int binary64 (pos k)) scale) k
generator_of_lem k l =
    parts_of (div binary64 (of_int binary64 (pos k)) scale) false k
    (div_parts (of_int binary64 (pos k)) k (of_int_lem k (le_of_lt l)) (le_of_lt l)) (λ q. absurd (let z : ◌≡◌ {A = ℕ} 0 1 = cc in omega arith))

pub times : (x : Float) (k : ℕ) → HasValue x false k 65536 → mul binary64 x scale ≡ of_int binary64 (pos k)
unfolding mul of_int
times nan k h = absurd h
times (inf s) k h = absurd h
times (fin true m e) k h = absurd (let z : ◌≡◌ {A = ℕ} 0 1 = cc h.0 in omega arith)
times (fin false m e) k h =
    round_same binary64 false (m * up e * (1 * 65536)) (down e * 1) k 1 (subst (λ (n : ℕ). 0 < n) (sym (mul-one (down e))) (down_pos e))
    (lit< tt)
    (mul-one (m * up e * 65536) ∙ h.1 ∙ ap (λ (n : ℕ). k * n) (sym (mul-one (down e))))
