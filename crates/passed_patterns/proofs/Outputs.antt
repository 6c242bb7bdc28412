-- The output, question by question; the output for what is kept of a line is the output for the line.
use Prim.Native.Nat.{ℕ, ◌≤◌}
use mathlib.Core.Bool.{true}
use mathlib.Core.Path.{◌≡◌, sym, ap, subst}
use mathlib.Core.List.{List}
use lib.ListN.{length, take}
use lib.Dec.{leb}
use borrow.Author.Tests.{leb-true}
use Rattle.answer.specs.Outcome.{Outcome, given, refused, and_then}
use Rattle.answer.proofs.Asked.{given_same, asked_yes, asked_rest}
use Rattle.line.specs.declared.Line.{Line}
use Rattle.line.specs.Lines.{line_outcome}
use Rattle.line.proofs.Enough.{later_bytes_ignored}
use Rattle.genchain.specs.Chains.{chain_of}
use Rattle.genchain.specs.Answers.{generator_outcome}
use Rattle.mos.specs.declared.Mos.{Mos}
use Rattle.mos.specs.Patterns.{is_pattern, genesis}
use Rattle.mos.specs.Answers.{genesis_outcome}
use Rattle.mos.proofs.Theorems.{made_patterns}
use Rattle.line.specs.Refusals.{refusal_line, output_of}
use Rattle.streams.specs.declared.lines.KeptLine.{KeptLine}
use Rattle.streams.specs.declared.output.Output.{Output}
use Rattle.streams.specs.Streams.{Handed}
use Rattle.streams.specs.Reading.{LineIsEnough}
use Rattle.streams.specs.Printing.{Printed}
use Rattle.streams.proofs.Enough.{first_line_is_enough, printed}
use Rattle.passed_patterns.specs.Printing.{shown, shown_from, shown_for, output}

pub genesis_is_pattern : (P G : ℕ) → P ≤ 65535 → (m : Mos) → given m ≡ genesis_outcome P G → is_pattern m ≡ true
unfolding genesis_outcome
genesis_is_pattern P G l m e =
    subst (λ (x : Mos). is_pattern x ≡ true) (given_same (asked_rest 2 (leb 1 P) (given (genesis P G)) (sym e)))
    (made_patterns.of_genesis P G (leb-true 1 P (asked_yes 2 (leb 1 P) (given (genesis P G)) (sym e))) l)

-- ---- what was handed over, for an answer or for a refusal

module _ {A : Type 0} (o : Outcome A) (next : A → Outcome (List ℕ)) (done : Output) where
  after_refused : (n : ℕ) → refused n ≡ o → Handed (refusal_line n) done → Handed (output_of (and_then o next)) done
  after_refused n e =
      subst (λ (l : List ℕ). Handed l done) (ap (λ (x : Outcome A). output_of (and_then x next)) e)

  after_given : (a : A) → given a ≡ o → Handed (output_of (next a)) done → Handed (output_of (and_then o next)) done
  after_given a e = subst (λ (l : List ℕ). Handed l done) (ap (λ (x : Outcome A). output_of (and_then x next)) e)

module _ (a : Line) (done : Output) where
  pub from_refused : (g n : ℕ) → refused n ≡ genesis_outcome a.octave g → Handed (refusal_line n) done
      → Handed (output_of (shown_from a g)) done
  unfolding shown_from
  from_refused g n e = after_refused (genesis_outcome a.octave g) _ done n e

  pub from_given : (g : ℕ) (m : Mos) → given m ≡ genesis_outcome a.octave g → (n : ℕ) → n ≡ length (chain_of a.genchain).letters
      → Handed (shown n m) done → Handed (output_of (shown_from a g)) done
  unfolding shown_from
  from_given g m e n i h =
      after_given (genesis_outcome a.octave g) _ done m e (subst (λ (k : ℕ). Handed (shown k m) done) i h)

  pub for_refused : (n : ℕ) → refused n ≡ generator_outcome a.genchain a.octave a.tritave → Handed (refusal_line n) done
      → Handed (output_of (shown_for a)) done
  unfolding shown_for
  for_refused n e = after_refused (generator_outcome a.genchain a.octave a.tritave) _ done n e

  pub for_given : (g : ℕ) → given g ≡ generator_outcome a.genchain a.octave a.tritave → Handed (output_of (shown_from a g)) done
      → Handed (output_of (shown_for a)) done
  unfolding shown_for
  for_given g e = after_given (generator_outcome a.genchain a.octave a.tritave) _ done g e

-- ---- what is kept of a line

output_by : (x y : List ℕ) → line_outcome x ≡ line_outcome y → output x ≡ output y
unfolding output
output_by x y e = ap (λ (o : Outcome Line). output_of (and_then o shown_for)) e

pub line_is_enough : LineIsEnough output
line_is_enough =
    record {
      eighteen = λ (line : List ℕ). output_by _ _ (later_bytes_ignored.eighteen line);
      one_line = first_line_is_enough output (λ line after. output_by _ _ (later_bytes_ignored.line_feed_lem line after));
    }

module _ (line : KeptLine) (kept : List ℕ) (is : kept ≡ take line.input.kept line.buffer) (done : Output) where
  opened : Handed (output_of (and_then (line_outcome kept) shown_for)) done → Printed output line done
  unfolding output
  opened h = printed output line_is_enough line kept is done (λ taken. h)

  pub printed_refused : (n : ℕ) → refused n ≡ line_outcome kept → Handed (refusal_line n) done → Printed output line done
  printed_refused n e h = opened (after_refused (line_outcome kept) shown_for done n e h)

  pub printed_given : (a : Line) → given a ≡ line_outcome kept → Handed (output_of (shown_for a)) done → Printed output line done
  printed_given a e h = opened (after_given (line_outcome kept) shown_for done a e h)
