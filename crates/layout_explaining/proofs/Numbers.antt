-- The numbers of an explanation: places that came as differences, and what follows from them.
use Prim.Native.Nat.{ℕ, ◌+◌, ◌-◌, ◌/◌, ◌%◌, ◌≤◌, ◌<◌}
use mathlib.Core.Path.{◌≡◌, refl, sym, ap, ap₂, ◌∙◌}
use mathlib.Core.Bool.{Bool, true, false}
use native.Mathlib.Omega.{arith}
use lib.Dec.{eqb, ltb}
use borrow.Author.Tests.{eq-eqb, ne_eqb, ltb-true, ltb-false}
use Rattle.answer.specs.Choice.{pick}
use lib.IntN.{ℤ, pos, negsuc, nat_abs, ◌-ℤ◌}
use Rattle.math.proofs.Integers.{Rep, rep_pos, rep_minus}
use Rattle.pergen.specs.Pergen.{reduced}
use Rattle.pergen.specs.Spelling.{sounds, sounded_key}
use Rattle.pergen.specs.Parts.{SidesOf}
use Rattle.pergen.specs.declared.Spelling.{Spelling}
use Rattle.pergen.specs.declared.sounding.Sides.{Sides}
use Rattle.layout.specs.Layouts.{Layout, cycles_in, reduced_in}
use Rattle.layout.specs.Names.{place_in, key_of}
use Rattle.pergen.proofs.Inverse.{cycles_positive, reduced_positive}
use Rattle.layout_explaining.specs.Explanations.{standing_of, apart_in, verdict_by, verdict_of, explanation_of}
use Rattle.layout_explaining.specs.Parts.{between_sides}
use Rattle.layout_explaining.specs.declared.Standing.{Standing}
use Rattle.layout_explaining.specs.declared.Verdict.{Verdict}
use Rattle.layout_explaining.specs.declared.Verdict.TheVariants.{OneKey, OneChain, TwoChains}
use Rattle.layout_explaining.specs.declared.Explanation.{Explanation}

-- ---- how far apart

pub abs_above : (z : ℤ) (p q : ℕ) → Rep z p q → q ≤ p → p - q ≡ nat_abs z
abs_above (pos n) p q r h = omega (arith, r.eq)
abs_above (negsuc n) p q r h = omega (arith, r.eq)

pub abs_below : (z : ℤ) (p q : ℕ) → Rep z p q → p < q → q - p ≡ nat_abs z
abs_below (pos n) p q r h = omega (arith, r.eq)
abs_below (negsuc n) p q r h = omega (arith, r.eq)

module _ (s t : Sides) where
  difference : Rep ((pos s.above -ℤ pos s.below) -ℤ (pos t.above -ℤ pos t.below)) (s.above + t.below) (s.below + t.above)
  difference =
      let r = rep_minus (rep_minus (rep_pos s.above) (rep_pos s.below)) (rep_minus (rep_pos t.above) (rep_pos t.below)) in
      record { eq = omega (arith, r.eq) }

  first_below : s.above + t.below < s.below + t.above → s.below + t.above - (s.above + t.below) ≡ between_sides s t
  unfolding between_sides
  first_below h = abs_below _ _ _ difference h

  first_above : s.below + t.above ≤ s.above + t.below → s.above + t.below - (s.below + t.above) ≡ between_sides s t
  unfolding between_sides
  first_above h = abs_above _ _ _ difference h

  pub apart_by : (n : ℕ) → n ≡ (s.above + t.below - (s.below + t.above)) + (s.below + t.above - (s.above + t.below)) → n ≡ between_sides s t
  apart_by n e = by (ltb (s.above + t.below) (s.below + t.above)) refl
    where
      by : (k : Bool) → ltb (s.above + t.below) (s.below + t.above) ≡ k → n ≡ between_sides s t
      by true q =
          let h = ltb-true (s.above + t.below) (s.below + t.above) q in
          (let z : n ≡ s.below + t.above - (s.above + t.below) = omega arith in z) ∙ first_below h
      by false q =
          let h = ltb-false (s.above + t.below) (s.below + t.above) q in
          (let z : n ≡ s.above + t.below - (s.below + t.above) = omega arith in z) ∙ first_above h

-- ---- the verdict

module _ (a b d R : ℕ) where
  abbrev By : Bool → Bool → Verdict
  By t u = pick t (pick u OneKey OneChain) TwoChains

  pub stars_differ : (a ≡ b → ⊥) → TwoChains ≡ verdict_by a b d R
  unfolding verdict_by
  stars_differ h = sym (ap (λ (t : Bool). By t (eqb (d % R) 0)) (ne_eqb a b h))

  pub comes_round : a ≡ b → d % R ≡ 0 → OneKey ≡ verdict_by a b d R
  unfolding verdict_by
  comes_round e r = sym (ap₂ By (eq-eqb a b e) (eq-eqb (d % R) 0 r))

  pub comes_not_round : a ≡ b → (d % R ≡ 0 → ⊥) → OneChain ≡ verdict_by a b d R
  unfolding verdict_by
  comes_not_round e r = sym (ap₂ By (eq-eqb a b e) (ne_eqb (d % R) 0 r))

-- the cycles and the reduced period are above 0
module _ (l : Layout) (h : 0 < l.octave) (n : ℕ) (e : n ≡ cycles_in l) where
  pub cycles_some : 0 < n
  cycles_some = rw e (cycles_positive l.octave l.generator h)

  pub round_some : 0 < l.octave / n
  unfolding reduced
  round_some = rw e (reduced_positive l.octave l.generator h)

-- ---- a standing

pub standing_is : (l : Layout) (x : Spelling) (s : Sides) → SidesOf l.letters l.start x s
    → (z : ℤ) → z ≡ pos s.above -ℤ pos s.below
    → (k : ℕ) → k ≡ sounds l.octave l.generator (pos s.above -ℤ pos s.below) x.stars
    → (let r : Standing = record { place = z; stars = x.stars; key = k } in r) ≡ standing_of l x
unfolding standing_of place_in key_of sounded_key
standing_is l x s d z e k q =
    ap₂ (λ (p : ℤ) (n : ℕ). (let r : Standing = record { place = p; stars = x.stars; key = n } in r))
    (e ∙ sym d.difference)
    (q ∙ ap (λ (p : ℤ). sounds l.octave l.generator p x.stars) (sym d.difference))

-- ---- all of it

module _ (l : Layout) (x y : Spelling) (s t : Sides) (sx : SidesOf l.letters l.start x s) (sy : SidesOf l.letters l.start y t)
    (n : ℕ) (cycles_are : n ≡ cycles_in l)
  where
    reduced_is : l.octave / n ≡ reduced_in l
    unfolding reduced
    reduced_is = ap (λ (m : ℕ). l.octave / m) cycles_are

    apart_is : between_sides s t ≡ apart_in l x y
    unfolding between_sides apart_in place_in
    apart_is = ap₂ (λ (u v : ℤ). nat_abs (u -ℤ v)) (sym sx.difference) (sym sy.difference)

    pub explanation_is : (a b : Standing) (d : ℕ) (v : Verdict) → a ≡ standing_of l x → b ≡ standing_of l y → d ≡ between_sides s t
        → v ≡ verdict_by x.stars y.stars d (l.octave / n)
        → (let r : Explanation = record { first = a; second = b; apart = d; reduced_period = l.octave / n; verdict = v } in r)
        ≡ explanation_of l x y
    unfolding explanation_of verdict_of
    explanation_is a b d v e f g h =
        ap₂ (λ (p q : Standing). (let r : Explanation = record { first = p; second = q; apart = d; reduced_period = l.octave / n; verdict = v } in r)) e f
        ∙ ap (λ (w : Verdict). (let r : Explanation = record { first = standing_of l x; second = standing_of l y; apart = d; reduced_period = l.octave / n; verdict = w } in r)) h
        ∙ ap₂ (λ (m k : ℕ). (let r : Explanation = record { first = standing_of l x; second = standing_of l y; apart = m; reduced_period = k; verdict = verdict_by x.stars y.stars m k } in r))
        (g ∙ apart_is) reduced_is
