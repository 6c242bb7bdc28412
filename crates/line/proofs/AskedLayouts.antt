-- The layout that a line asks for: what is answered, and what an answer tells of it.
use Prim.Native.Nat.{ℕ, ◌≤◌}
use mathlib.Core.Path.{◌≡◌, refl, sym, ap, subst, ◌∙◌}
use mathlib.Core.Bool.{◌&&◌}
use mathlib.Core.List.{List}
use native.Mathlib.Omega.{arith}
use borrow.Author.Tests.{leb-true}
use Rattle.answer.specs.Outcome.{Outcome, given, refused, and_then}
use Rattle.answer.proofs.Asked.{given_same, asked_yes, asked_rest, and_right}
use Rattle.layout.specs.Layouts.{Layout, layout_outcome}
use Rattle.layout.specs.Parts.{Laid}
use Rattle.layout.proofs.Finding.{octave_is}
use Rattle.line.specs.Lines.{is_field, octave_at, tritave_at, is_line, space, line_feed, line_outcome}
use Rattle.line.specs.LineLayouts.{layout_on, line_layout}
use Rattle.line.specs.declared.Line.{Line}

pub line_not_read : (line : List ℕ) (n : ℕ) → refused n ≡ line_outcome line → refused n ≡ line_layout line
unfolding line_layout
line_not_read line n e = ap (λ (o : Outcome Line). and_then o (λ (a : Line). layout_outcome (layout_on a))) e

pub line_read : (line : List ℕ) (a : Line) (o : Outcome Layout) → given a ≡ line_outcome line → o ≡ layout_outcome (layout_on a) → o ≡ line_layout line
unfolding line_layout
line_read line a o e q = q ∙ ap (λ (x : Outcome Line). and_then x (λ (b : Line). layout_outcome (layout_on b))) e

-- a line's layout is accepted, and has 4,096 keys at most
octave_few : (line : List ℕ) (a : Line) → line_outcome line ≡ given a → a.octave ≤ 4096
unfolding line_outcome is_line
octave_few line a e =
    let tests = is_field line 0 space && is_field line (octave_at line) space && is_field line (tritave_at line) line_feed in
    let fits = leb-true _ 4096 (and_right tests _ (asked_yes 14 (is_line line) _ e)) in
    subst (λ (x : Line). x.octave ≤ 4096) (given_same (asked_rest 14 (is_line line) _ e)) fits

pub record LineLaid (l : Layout) : Type 0 where
  pub is_laid : Laid l
  pub few_keys : l.octave ≤ 4096

pub line_laid : (line : List ℕ) (l : Layout) → given l ≡ line_layout line → LineLaid l
unfolding line_layout
line_laid line l e = by (line_outcome line) refl e
  where
    by : (o : Outcome Line) → line_outcome line ≡ o → given l ≡ and_then o (λ (a : Line). layout_outcome (layout_on a)) → LineLaid l
    by (given a) is f =
        record {
          is_laid = record { caller = layout_on a; accepted = sym f };
          few_keys = omega (arith, octave_is (layout_on a) l (sym f), octave_few line a is);
        }
    by (refused n) is f = absurd (let z : ◌≡◌ {A = ℕ} 0 1 = cc in let y : ⊥ = omega (arith, z) in y)
