-- One number of a line and the byte behind it, from the number that was read.
use Prim.Native.Nat.{ℕ, ◌+◌, ◌≤◌, ◌<◌}
use native.Mathlib.Omega.{arith}
use mathlib.Core.Bool.{Bool, true, false, ◌&&◌}
use mathlib.Core.Path.{◌≡◌, refl, sym, ap, ◌∙◌}
use mathlib.Core.List.{List}
use lib.ListN.{length, get_or, get_or-eq_default}
use lib.Dec.{eqb}
use borrow.Author.Tests.{eq-eqb, ne_eqb}
use Rattle.answer.specs.Choice.{pick}
use Rattle.answer.specs.declared.Refusal.{Refusal}
use Rattle.text.specs.Decimal.{value_at, end_at, is_number, number_at}
use Rattle.text.specs.Decimal.{numeral}
use Rattle.std.specs.Prelude.{Option, Some, None, ok_or, Result, Ok, Err}
use Rattle.text.proofs.Numbers.{Picked, picked, picked_none}
use Rattle.line.specs.Lines.{is_field, field_at}

module _ (line : List ℕ) (at behind : ℕ) where
  both_tests : is_field line at behind ≡ (is_number line at && eqb (get_or line (end_at line at) 0) behind)
  unfolding is_field
  both_tests = refl

  no_field : is_field line at behind ≡ false → None ≡ field_at line at behind
  unfolding field_at
  no_field e = sym (ap (λ (test : Bool). pick test (numeral (value_at line at) (end_at line at + 1)) None) e)

  -- a number, and the byte
  pub is_field_lem : is_number line at ≡ true → get_or line (end_at line at) 0 ≡ behind → is_field line at behind ≡ true
  is_field_lem e b = both_tests ∙ simp (e, eq-eqb (get_or line (end_at line at) 0) behind b)

  pub a_field : is_field line at behind ≡ true → numeral (value_at line at) (end_at line at + 1) ≡ field_at line at behind
  unfolding field_at
  a_field e = sym (ap (λ (test : Bool). pick test (numeral (value_at line at) (end_at line at + 1)) None) e)

  pub no_number : is_number line at ≡ false → None ≡ field_at line at behind
  no_number e = no_field (both_tests ∙ simp e)

  pub nothing_read : None ≡ number_at line at → None ≡ field_at line at behind
  unfolding number_at
  nothing_read e = no_number (picked_none (is_number line at) (value_at line at) (end_at line at) e)

  module _ (number next : ℕ) (read : numeral number next ≡ number_at line at) where
    read_is : Picked (is_number line at) (value_at line at) (end_at line at) number next
    unfolding number_at
    read_is = picked (is_number line at) (value_at line at) (end_at line at) number next read

    byte_is : get_or line next 0 ≡ get_or line (end_at line at) 0
    byte_is = ap (λ (n : ℕ). get_or line n 0) read_is.is_next

    pub other_byte : (get_or line next 0 ≡ behind → ⊥) → None ≡ field_at line at behind
    other_byte h =
        no_field
        (both_tests
        ∙ simp (read_is.yes, ne_eqb (get_or line (end_at line at) 0) behind (λ e. h (byte_is ∙ e))))

    pub line_ends : 0 < behind → length line ≤ next → None ≡ field_at line at behind
    line_ends some h = other_byte (λ e. omega (arith, e, get_or-eq_default line 0 h))

    pub field_read : get_or line next 0 ≡ behind → numeral number (next + 1) ≡ field_at line at behind
    field_read e =
        ap (λ (n : ℕ). numeral n (next + 1)) read_is.is_value
        ∙ ap (λ (n : ℕ). numeral (value_at line at) (n + 1)) read_is.is_next
        ∙ a_field (is_field_lem read_is.yes (sym byte_is ∙ e))

-- ---- what `ok_or` and `?` tell of an `Option`

module _ {A : Type 0} where
  pub found : (o : Option A) (q : Refusal) (r : Result A Refusal) (a : A) → r ≡ ok_or o q → r ≡ Ok a → Some a ≡ o
  found None q r a e f = absurd (let z : ⊥ = cc in z)
  found (Some x) q r a e f = cc

  pub missing : (o : Option A) (q : Refusal) (r : Result A Refusal) (d : Refusal) → r ≡ ok_or o q → r ≡ Err d
      → (None ≡ o) × (d ≡ q)
  missing None q r d e f = (refl, cc)
  missing (Some x) q r d e f = absurd (let z : ⊥ = cc in z)
