-- A line with one number, from what was read at its front.
use Prim.Native.Nat.{ℕ}
use mathlib.Core.Bool.{Bool, true, false}
use mathlib.Core.Path.{◌≡◌, refl, sym, ap, ◌∙◌}
use mathlib.Core.List.{List}
use Rattle.answer.specs.Outcome.{given, refused, ask}
use Rattle.text.specs.Decimal.{value_at}
use Rattle.std.specs.Prelude.{Option, Some, None}
use Rattle.text.specs.Decimal.{numeral}
use Rattle.line.specs.Lines.{is_field, field_at, line_feed, number_line}
use Rattle.line.proofs.WholeLine.{field_is, nothing_is}

module _ (line : List ℕ) where
  by_test : (test : Bool) → is_field line 0 line_feed ≡ test → ask 14 test (given (value_at line 0)) ≡ number_line line
  unfolding number_line
  by_test test e = ap (λ (t : Bool). ask 14 t (given (value_at line 0))) (sym e)

  pub no_number_line : None ≡ field_at line 0 line_feed → refused 14 ≡ number_line line
  no_number_line e = by_test false (nothing_is line 0 line_feed e)

  pub number_line_lem : (number next : ℕ) → numeral number next ≡ field_at line 0 line_feed → given number ≡ number_line line
  number_line_lem number next e =
      let is = field_is line 0 line_feed number next e in
      ap given is.is_value ∙ by_test true is.yes

-- two lines at whose front the same is read
pub same_number_line : (line other : List ℕ) → field_at line 0 line_feed ≡ field_at other 0 line_feed → number_line line ≡ number_line other
same_number_line line other e = by (field_at line 0 line_feed) refl
  where
    by : (r : Option (ℕ × ℕ)) → r ≡ field_at line 0 line_feed → number_line line ≡ number_line other
    by None f = sym (no_number_line line f) ∙ no_number_line other (f ∙ e)
    by (Some (number, next)) f = sym (number_line_lem line number next f) ∙ number_line_lem other number next (f ∙ e)
