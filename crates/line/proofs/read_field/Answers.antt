-- No number, the end of the line, another byte, and the number with its byte.
use mathlib.Core.Path.{sym, ap, ◌∙◌}
use Rattle.std.proofs.Common.{is_some, ltb-true, ltb-false}
use Rattle.std.proofs.lemmas.Grind.{get_or_default_zero}
use Rattle.std.proofs.lemmas.Option.{MatchOption-at_some}
use Rattle.line.proofs.Fields.{nothing_read, line_ends, other_byte, field_read}
use Rattle.line.proofs.read_field.Goals as goal

pub returns-in_err-value : goal.returns-in_err-value
returns-in_err-value c =
    c.from_residual.ensures ∙ nothing_read _ _ _ (sym c.in_err-value.was ∙ c.read_number.ensures)

pub returns-in_err-get : goal.returns-in_err-get
returns-in_err-get c =
    c.from_residual-in_err-get.ensures
    ∙ line_ends _ _ _ _ _ (sym c.in_ok-value.was ∙ c.read_number.ensures) c.requires
    (ltb-false _ _ (sym c.get.ensures.lookup.0 ∙ ap is_some c.in_err-get.was))

pub returns-then-branch-behind : goal.returns-then-branch-behind
returns-then-branch-behind c =
    let is = c.in_ok-get.was in
    let inside = ltb-true _ _ (sym c.get.ensures.lookup.0 ∙ ap is_some is) in
    let byte = MatchOption-at_some _ _ _ is c.get.ensures.lookup.1 ∙ get_or_default_zero _ _ _ inside in
    other_byte _ _ _ _ _ (sym c.in_ok-value.was ∙ c.read_number.ensures) (λ e. c.if-branch-behind.true (byte ∙ e))

pub returns : goal.returns
returns c =
    let is = c.in_ok-get.was in
    let inside = ltb-true _ _ (sym c.get.ensures.lookup.0 ∙ ap is_some is) in
    let byte = MatchOption-at_some _ _ _ is c.get.ensures.lookup.1 ∙ get_or_default_zero _ _ _ inside in
    field_read _ _ _ _ _ (sym c.in_ok-value.was ∙ c.read_number.ensures) (sym byte ∙ c.if-branch-behind.false)
