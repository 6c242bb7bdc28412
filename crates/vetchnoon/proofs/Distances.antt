-- Two typed spellings stand less than 2⁶³ places apart: a place is made of less than 2³² signs of at most nine letters.
use Rattle.answer.specs.declared.Refusal.{Refusal}
use Rattle.std.specs.Prelude.{Result, Ok, Err}
use Prim.Native.Nat.{ℕ, ◌+◌, ◌*◌, ◌≤◌, ◌<◌, ◌^◌}
use native.Mathlib.Nat.{mul-le-mul, le_refl}
use native.Mathlib.Omega.{arith}
use mathlib.Core.Path.{◌≡◌, sym, subst}
use mathlib.Core.List.{List}
use lib.IntN.{ℤ, nat_abs, ◌-ℤ◌}
use Rattle.answer.specs.Outcome.{given}
use Rattle.math.proofs.Integers.{Rep, rep_minus, abs_rep}
use Rattle.notes.specs.Names.{signs_in}
use Rattle.pergen.specs.declared.Signs.{Signs}
use Rattle.pergen.specs.declared.Signs.TheVariants.{Sharps, Flats}
use Rattle.pergen.specs.declared.Spelling.{Spelling}
use Rattle.pergen.specs.Spelling.{place}
use Rattle.pergen.proofs.DegreePlaces.{place_sharps, place_flats}
use Rattle.layout.specs.Layouts.{Layout}
use Rattle.layout.specs.Names.{place_in}
use Rattle.layout.specs.declared.IsomorphicLayout.{IsomorphicLayout}
use Rattle.layout.proofs.Finding.{accepted}
use Rattle.layout.proofs.PatternShape.{PatternShape, pattern_shape}
use Rattle.layout_reading.proofs.NothingElse.{nothing_else_is_read}
use Rattle.layout_explaining.specs.Answers.{get_explanation, ShortAnswer}
use Rattle.layout_explaining.specs.declared.Explanation.{Explanation}
use Rattle.layout_explaining.proofs.Holding.{explanations_hold}
use Rattle.vetchnoon_codes.specs.Codes.{SmallCount}

-- a place is a difference of two numbers that are small together
record Near (z : ℤ) : Type 0 where
  above : ℕ
  below : ℕ
  rep : Rep z above below
  small : above + below ≤ 38654705673

place_near : (l : Layout) → PatternShape l → (x : Spelling) → x.index < l.letters → signs_in x.signs < 4294967296 → Near (place_in l x)
unfolding place_in
place_near l s x letter few = by x.signs few
  where
    by : (g : Signs) → signs_in g < 4294967296 → Near (place l.letters l.start (record { index = x.index; signs = g; stars = x.stars }))
    by (Sharps k) h =
        let p : l.letters * k ≤ 9 * k = mul-le-mul s.at_most_nine (le_refl k) in
        record {
          above = x.index + l.letters * k;
          below = l.start;
          rep = place_sharps l.letters l.start x.index k x.stars;
          small = omega (arith, p, h, letter, s.at_most_nine, s.start_below);
        }
    by (Flats k) h =
        let p : l.letters * k ≤ 9 * k = mul-le-mul s.at_most_nine (le_refl k) in
        record {
          above = x.index;
          below = l.letters * k + l.start;
          rep = place_flats l.letters l.start x.index k x.stars;
          small = omega (arith, p, h, letter, s.at_most_nine, s.start_below);
        }

between_near : (u v : ℤ) → Near u → Near v → nat_abs (u -ℤ v) < 2 ^ 63
between_near u v a b = omega (arith, abs_rep (rep_minus a.rep b.rep), a.small, b.small)

pub apart_small : (r : IsomorphicLayout) (first second : List ℕ) (e : Explanation) → get_explanation r first second ≡ given e → e.apart < 2 ^ 63
apart_small r first second e q =
    let x = explanations_hold r first second e q in
    let l = x.layout in
    let s = pattern_shape l (accepted r l x.accepted) in
    let t = nothing_else_is_read r first x.one x.first_read in
    let u = nothing_else_is_read r second x.other x.second_read in
    subst (λ (n : ℕ). n < 2 ^ 63) (sym x.apart_is)
    (between_near _ _
    (place_near l s x.one x.is_one.letter t.2.signs)
    (place_near l s x.other x.is_other.letter u.2.signs))

-- and what is said of them has less than 2⁶³ bytes
pub words_small : (first second : List ℕ) (a : Result ℕ Refusal) → ShortAnswer first second a → SmallCount a
words_small first second (Ok n) h m is =
    let same : m ≡ n = cc in subst (λ (k : ℕ). k < 2 ^ 63) (sym same) h.held
words_small first second (Err q) h m is = cc
