-- A line that is skipped, one without a key, one with its key.
use mathlib.Core.Path.{sym, ◌∙◌}
use Rattle.kbm_text.proofs.StepLaws.{put_comment, put_none, put_one, key_line_lem}
use Rattle.kbm_text.proofs.scan.put_key.Goals as goal

pub returns-then-is_comment : goal.returns-then-is_comment
returns-then-is_comment c = put_comment _ _ _ (sym c.is_comment.ensures ∙ c.if-is_comment.true)

pub returns-then-key_count-eq0 : goal.returns-then-key_count-eq0
returns-then-key_count-eq0 c =
    put_none _ _ _ (sym c.is_comment.ensures ∙ c.if-is_comment.false) (sym c.key_count.ensures.0 ∙ c.if-key_count-eq0.true)

pub overflow_sub-out : goal.overflow_sub-out
overflow_sub-out c = let a = c.args in key_line_lem a.spot.line a.kind (λ e. c.if-key_count-eq0.false (c.key_count.ensures.0 ∙ e))

pub returns : goal.returns
returns c =
    put_one _ _ _ (sym c.is_comment.ensures ∙ c.if-is_comment.false) (λ e. c.if-key_count-eq0.false (c.key_count.ensures.0 ∙ e))
