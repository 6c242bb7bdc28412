-- The output for a line: all chains' lines, or the line of a refusal; and which bytes of the line it goes by.
use Prim.Native.Nat.{ℕ, ◌≤◌}
use native.Mathlib.Omega.{arith}
use mathlib.Core.Bool.{Bool, true, false}
use mathlib.Core.Path.{◌≡◌, refl, sym, ap, ◌∙◌}
use mathlib.Core.List.{List}
use lib.ListN.{length}
use Rattle.answer.specs.Outcome.{Outcome, given, refused, ask, and_then}
use Rattle.answer.proofs.Asked.{asked_yes}
use Rattle.text.specs.Writing.{joined}
use Rattle.text.proofs.Joined.{joined_same}
use Rattle.text.proofs.Digits.{digits_length}
use Rattle.line.specs.Refusals.{refusal_line, output_of}
use Rattle.line.proofs.RefusalLines.{length_refusal}
use Rattle.line.specs.Lines.{number_line}
use Rattle.line.proofs.Enough.{later_bytes_ignored}
use Rattle.edo_tritaves.specs.declared.Choices.{Choices}
use Rattle.edo_tritaves.specs.Tritaves.{is_division, choices_of, tritaves_of}
use Rattle.edo_layouts.specs.declared.EdoLayout.{EdoLayout}
use Rattle.edo_layouts.specs.Layouts.{chain_outcome, given_of, layouts_of, joined_over}
use Rattle.edo_layouts.proofs.Serving.{chain_served_lem}
use Rattle.edo_layouts.proofs.Listing.{joined_over_gathered}
use Rattle.edo_lines.specs.Lines.{layout_line, division_lines, output}
use Rattle.edo_lines.specs.Parts.{served_line}
use Rattle.edo_lines.specs.Theorems.{LaterBytesChangeNothing}

-- ---- a division

module _ (n : ℕ) where
  division_by : (test : Bool) → is_division n ≡ test → ask 15 test (given (joined_over layout_line (layouts_of n))) ≡ division_lines n
  unfolding division_lines
  division_by test e = ap (λ (t : Bool). ask 15 t (given (joined_over layout_line (layouts_of n)))) (sym e)

  -- question 15, by what the choices answer
  refusal : (q : ℕ) → refused q ≡ tritaves_of n → refused q ≡ division_lines n
  unfolding tritaves_of
  refusal q e = by (is_division n) refl e
    where
      by : (test : Bool) → is_division n ≡ test → refused q ≡ ask 15 test (given (choices_of n)) → refused q ≡ division_lines n
      by true d f = absurd (let z : ◌≡◌ {A = ℕ} 0 1 = cc in omega arith)
      by false d f = (let same : q ≡ 15 = cc in ap refused same) ∙ division_by false d

  pub division_refused : (k q : ℕ) → k ≡ q → refused q ≡ tritaves_of n → refusal_line k ≡ output_of (division_lines n)
  division_refused k q i e = ap refusal_line i ∙ ap output_of (refusal q e)

  module _ (t : Choices) (e : given t ≡ tritaves_of n) where
    all_lines : joined (served_line n t) 6 ≡ joined_over layout_line (layouts_of n)
    unfolding layouts_of served_line
    all_lines =
        joined_same (served_line n t) (λ (code : ℕ). joined_over layout_line (given_of (chain_outcome n code))) 6
        (λ code h. ap (λ (o : Outcome EdoLayout). joined_over layout_line (given_of o)) (chain_served_lem n code t e))
        ∙ sym (joined_over_gathered layout_line (λ (code : ℕ). given_of (chain_outcome n code)) 6)

    divided : is_division n ≡ true
    unfolding tritaves_of
    divided = asked_yes 15 (is_division n) _ (sym e)

    pub division_given : joined (served_line n t) 6 ≡ output_of (division_lines n)
    division_given = all_lines ∙ ap output_of (division_by true divided)

-- ---- a line

module _ (line : List ℕ) where
  pub output_refused : (k q : ℕ) → k ≡ q → refused q ≡ number_line line → refusal_line k ≡ output line
  unfolding output
  output_refused k q i e = ap refusal_line i ∙ ap (λ (o : Outcome ℕ). output_of (and_then o division_lines)) e

  pub output_given : (n : ℕ) → given n ≡ number_line line → output_of (division_lines n) ≡ output line
  unfolding output
  output_given n e = ap (λ (o : Outcome ℕ). output_of (and_then o division_lines)) e

pub refusal_short : (k : ℕ) → k ≤ 65535 → length (refusal_line k) ≤ 14
refusal_short k h = omega (arith, length_refusal k, (digits_length k (omega (arith, h))).few)

-- ---- which bytes it goes by

output_by : (x y : List ℕ) → number_line x ≡ number_line y → output x ≡ output y
unfolding output
output_by x y e = ap (λ (o : Outcome ℕ). output_of (and_then o division_lines)) e

pub later_bytes_change_nothing : LaterBytesChangeNothing
later_bytes_change_nothing =
    record {
      line_feed_lem = λ line after. output_by _ _ (later_bytes_ignored.number_line_feed line after);
      eighteen = λ line. output_by _ _ (later_bytes_ignored.number_eighteen line);
    }
