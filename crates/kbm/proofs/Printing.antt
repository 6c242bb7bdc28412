-- The output for what is kept of a line is the output for the line: a refusal, or a mapping.
use Prim.Native.Nat.{ℕ, ◌≤◌}
use native.Mathlib.Omega.{arith}
use mathlib.Core.Path.{◌≡◌, refl, sym, ap, ◌∙◌, subst}
use mathlib.Core.List.{List}
use lib.ListN.{length, replicate, length-replicate}
use Rattle.answer.specs.Outcome.{Outcome, given, refused, and_then}
use Rattle.line.specs.declared.Line.{Line}
use Rattle.line.specs.Lines.{line_outcome}
use Rattle.line.proofs.Enough.{later_bytes_ignored}
use Rattle.streams.specs.declared.output.Output.{Output}
use Rattle.streams.specs.Streams.{Handed}
use Rattle.streams.specs.Reading.{LineIsEnough}
use Rattle.streams.proofs.Enough.{first_line_is_enough}
use Rattle.layout.specs.Layouts.{Layout, layout_outcome}
use Rattle.line.specs.LineLayouts.{layout_on, line_layout}
use Rattle.line.specs.Refusals.{refusal_line, output_of}
use Rattle.kbm_text.proofs.LineByLine.{mappings_fit}
use Rattle.layout.specs.Parts.{layout_of, layout_in}
use Rattle.layout.specs.declared.parts.Found.{Found}
use Rattle.layout.specs.declared.prepared.Prepared.{Prepared}
use Rattle.layout_kbm.specs.Mappings.{natural, mapping_in, get_kbm}
use Rattle.kbm.specs.Printing.{kbm_output}

-- ---- the output, by what the line asks for

output_by : (x y : List ℕ) → line_outcome x ≡ line_outcome y → kbm_output x ≡ kbm_output y
unfolding kbm_output
output_by x y e = ap (λ (o : Outcome Line). output_of (and_then o (λ (a : Line). get_kbm (layout_on a)))) e

pub line_is_enough : LineIsEnough kbm_output
line_is_enough =
    record {
      eighteen = λ (line : List ℕ). output_by _ _ (later_bytes_ignored.eighteen line);
      one_line = first_line_is_enough kbm_output (λ line after. output_by _ _ (later_bytes_ignored.line_feed_lem line after));
    }

by_layout : (o : Outcome Line)
    → and_then o (λ (a : Line). get_kbm (layout_on a))
    ≡ and_then (and_then o (λ (a : Line). layout_outcome (layout_on a))) (λ (l : Layout). given (mapping_in l))
unfolding get_kbm
by_layout (given a) = refl
by_layout (refused n) = refl

module _ (line : List ℕ) where
  output_is : output_of (and_then (line_layout line) (λ (l : Layout). given (mapping_in l))) ≡ kbm_output line
  unfolding kbm_output line_layout
  output_is = ap output_of (sym (by_layout (line_outcome line)))

  output_refused : (n : ℕ) → refused n ≡ line_layout line → refusal_line n ≡ kbm_output line
  output_refused n e =
      ap (λ (o : Outcome Layout). output_of (and_then o (λ (l : Layout). given (mapping_in l)))) e ∙ output_is

  output_given : (l : Layout) → given l ≡ line_layout line → mapping_in l ≡ kbm_output line
  output_given l e = ap (λ (o : Outcome Layout). output_of (and_then o (λ (x : Layout). given (mapping_in x)))) e ∙ output_is

-- ---- what was handed over, for a refusal or for a mapping

module _ (line : List ℕ) (done : Output) where
  pub refusal_handed : (n : ℕ) → refused n ≡ line_layout line → Handed (refusal_line n) done → Handed (kbm_output line) done
  refusal_handed n e = subst (λ (text : List ℕ). Handed text done) (output_refused line n e)

  pub mapping_handed : (l : Layout) → given l ≡ line_layout line → Handed (mapping_in l) done → Handed (kbm_output line) done
  mapping_handed l e = subst (λ (text : List ℕ). Handed text done) (output_given line l e)

-- the layout of a line, made ready
pub same_layout : (f : Found) (line : List ℕ) → given (layout_of f) ≡ line_layout line → (p : Prepared) → p.found ≡ f
    → given (layout_in p) ≡ line_layout line
same_layout f line e p is = ap (λ (x : Found). given (layout_of x)) is ∙ e

-- ---- the buffer holds a mapping

pub buffer_room : (l : Layout) → l.octave ≤ 4096 → length (mapping_in l) ≤ length (replicate {A = ℕ} 24611 0)
unfolding mapping_in
buffer_room l h = omega (arith, mappings_fit l.octave (natural l) (omega arith), length-replicate {A = ℕ} 24611 0)
