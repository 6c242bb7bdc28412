-- The explanation, then its sentences.
use Rattle.answer.proofs.Passing.{passed_on}
use Rattle.answer.specs.Refusals.{outcome_of}
use Prim.Native.Nat.{◌≤◌}
use mathlib.Core.Path.{refl, sym, ap, ◌∙◌}
use Rattle.answer.proofs.Lent.{filled_refused}
use Rattle.layout.proofs.Calls.{refused_in_room}
use Rattle.layout.proofs.Kept.{found_laid}
use Rattle.layout_explaining.proofs.Calls.{telling, told_refused, told_held}
use borrow.Author.Rules.{rules}
use Rattle.layout_explaining.proofs.tell.Goals as goal

pub write-requires : goal.write-requires
write-requires c =
    let small : c.args.reader.found.octave ≤ 65535 = search rules in
    telling _ (found_laid c.args.reader.found) small _ _ _ (sym (ap outcome_of c.in_ok-e.was) ∙ c.explained.ensures)

pub returns-in_err-e : goal.returns-in_err-e
returns-in_err-e c =
    rw (passed_on _ _ c.from_residual.ensures)
    (filled_refused _ _ (refused_in_room _ _ _ (told_refused _ _ _ _ (sym (ap outcome_of c.in_err-e.was) ∙ c.explained.ensures))) refl)

pub returns : goal.returns
returns c =
    told_held _ _ _ _ (sym (ap outcome_of c.in_ok-e.was) ∙ c.explained.ensures) _ c.counting_in.ensures c.write.ensures
