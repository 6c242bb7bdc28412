-- No byte, the byte's two ways not to be a digit, and the digit.
use mathlib.Core.Path.{sym, ap, ◌∙◌}
use native.Mathlib.Omega.{arith}
use Rattle.std.proofs.Common.{is_some, Some, ltb-true, ltb-false}
use Rattle.std.proofs.lemmas.Grind.{get_or_default_zero}
use Rattle.std.proofs.lemmas.Option.{MatchOption-at_some}
use Rattle.text.proofs.Numbers.{none_past, low_byte, high_byte, digit_here}
use Rattle.text.proofs.decimal.digit_at.Goals as goal

pub returns-in_err-byte : goal.returns-in_err-byte
returns-in_err-byte c =
    c.from_residual.ensures ∙ sym (none_past _ _ (ltb-false _ _ (sym c.get.ensures.lookup.0 ∙ ap is_some c.in_err-byte.was))).is_none

pub returns-in-48-to-57 : goal.returns-in-48-to-57
returns-in-48-to-57 c =
    let is = c.in_ok-byte.was in
    let inside = ltb-true _ _ (sym c.get.ensures.lookup.0 ∙ ap is_some is) in
    let byte = MatchOption-at_some _ _ _ is c.get.ensures.lookup.1 ∙ get_or_default_zero _ _ _ inside in
    let digit = digit_here c.args.text.now c.args.at inside (omega (arith, byte)) (omega (arith, byte)) in
    ap Some (omega (arith, byte, c.from.ensures)) ∙ sym digit.is_digit_lem

pub returns-in_default : goal.returns-in_default
returns-in_default c =
    let inside = ltb-true _ _ (sym c.get.ensures.lookup.0 ∙ ap is_some c.in_ok-byte.was) in
    let byte = MatchOption-at_some _ _ _ c.in_ok-byte.was c.get.ensures.lookup.1 ∙ get_or_default_zero _ _ _ inside in
    sym (low_byte c.args.text.now c.args.at inside (omega (arith, byte))).is_none

pub returns-in_default-2 : goal.returns-in_default-2
returns-in_default-2 c =
    let inside = ltb-true _ _ (sym c.get.ensures.lookup.0 ∙ ap is_some c.in_ok-byte.was) in
    let byte = MatchOption-at_some _ _ _ c.in_ok-byte.was c.get.ensures.lookup.1 ∙ get_or_default_zero _ _ _ inside in
    sym (high_byte c.args.text.now c.args.at inside (omega (arith, byte))).is_none
