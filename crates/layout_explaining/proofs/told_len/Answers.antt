-- The explanation, then how long its sentences are.
use Rattle.answer.proofs.Passing.{passed_on}
use Rattle.answer.specs.Refusals.{outcome_of}
use Prim.Native.Nat.{◌≤◌}
use mathlib.Core.Path.{sym, ap, ◌∙◌}
use Rattle.answer.specs.Lent.{counted}
use Rattle.layout.proofs.Kept.{found_laid}
use Rattle.layout_explaining.proofs.Calls.{telling, told_refused, told_length}
use borrow.Author.Rules.{rules}
use Rattle.layout_explaining.proofs.told_len.Goals as goal

pub text_len-requires : goal.text_len-requires
text_len-requires c =
    let small : c.args.reader.found.octave ≤ 65535 = search rules in
    telling _ (found_laid c.args.reader.found) small _ _ _ (sym (ap outcome_of c.in_ok-e.was) ∙ c.explained.ensures)

pub returns-in_err-e : goal.returns-in_err-e
returns-in_err-e c =
    rw (passed_on _ _ c.from_residual.ensures)
    ((ap counted (told_refused _ _ _ _ (sym (ap outcome_of c.in_err-e.was) ∙ c.explained.ensures)), tt))

pub returns : goal.returns
returns c = (
  told_length _ _ _ _ (sym (ap outcome_of c.in_ok-e.was) ∙ c.explained.ensures) _ c.counting_in.ensures _ c.text_len.ensures.0,
  c.text_len.ensures.1,
)
