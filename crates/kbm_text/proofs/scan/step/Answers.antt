-- A line that is skipped changes nothing; any other is one line more.
use borrow.Author.Rules.{rules}
use mathlib.Core.Bool.{◌&&◌}
use mathlib.Core.Path.{◌≡◌, sym, ◌∙◌}
use Rattle.kbm_text.specs.Reading.{fits_at, agrees_at}
use Rattle.kbm_text.proofs.StepLaws.{next_comment, next_with_line}
use Rattle.kbm_text.proofs.scan.step.Goals as goal
use Rattle.kbm_text.proofs.scan.step.Goals.{then-s, else-s, then-s-2, else-s-2}

pub returns-then-is_comment : goal.returns-then-is_comment
returns-then-is_comment c = (next_comment _ _ _ (sym c.is_comment.ensures ∙ c.if-is_comment.true), search rules, search rules)

pub returns : goal.returns
returns c =
    let fits : c.if-s.fits ≡ (c.args.s.fits && fits_at c.args.s.line c.args.kind) =
    elim c.if-s.branch [ then-s w ↦ simp (w.fits-is, w.if-s.true, c.fits_at-fitting.ensures) | else-s w ↦ simp (w.fits-is, w.if-s.false) ]
    in
    let agrees : c.if-s-2.agrees ≡ (c.args.s.agrees && agrees_at c.args.octave c.args.s.line c.args.kind) =
    elim c.if-s-2.branch [
      | then-s-2 w ↦ simp (w.agrees-is, w.if-s-2.true, c.agrees_at-agreeing.ensures)
      | else-s-2 w ↦ simp (w.agrees-is, w.if-s-2.false)
    ]
    in
    (next_with_line _ _ _ (sym c.is_comment.ensures ∙ c.if-is_comment.false) _ _ _ fits agrees c.key_count.ensures.0, search rules, search rules)
