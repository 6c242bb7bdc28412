-- A written line is read back: each number is read where it stands, with the byte behind it.
use Prim.Native.Nat.{ℕ, ◌+◌, ◌≤◌}
use native.Mathlib.Omega.{arith}
use mathlib.Core.Bool.{false}
use mathlib.Core.Path.{◌≡◌, refl, sym, ap, ◌∙◌}
use mathlib.Core.List.{List, [], ◌∷◌, ◌++◌, append_assoc}
use lib.ListN.{length, get_or, length-append}
use lib.Seq.{get_or-append-add, get_or-append_seam}
use Rattle.answer.specs.Outcome.{given}
use Rattle.text.specs.Decimal.{is_digit, digits, value_at, end_at}
use Rattle.line.specs.Lines.{field_at, space, line_feed, line_text, line_outcome}
use Rattle.line.specs.Theorems.{LinesReadBack}
use Rattle.text.specs.Decimal.{numeral}
use Rattle.text.proofs.ReadBack.{value_stands, end_stands, number_stands}
use Rattle.line.proofs.Fields.{is_field_lem, a_field}
use Rattle.line.proofs.WholeLine.{line_given}

-- ---- a number that stands on a line

module _ (line before rest : List ℕ) (at n behind : ℕ) (where-is : length before ≡ at) (stands : line ≡ before ++ (digits n ++ behind ∷ rest)) (other : is_digit behind ≡ false) where
  value_is : value_at line at ≡ n
  value_is = value_stands line before rest at n behind where-is stands other

  end_is : end_at line at ≡ at + length (digits n)
  end_is = end_stands line before rest at n behind where-is stands other

  byte_behind : get_or line (end_at line at) 0 ≡ behind
  byte_behind =
      ap (λ (k : ℕ). get_or line k 0) (end_is ∙ ap (λ (k : ℕ). k + length (digits n)) (sym where-is))
      ∙ ap (λ (l : List ℕ). get_or l (length before + length (digits n)) 0) stands
      ∙ get_or-append-add before (digits n ++ behind ∷ rest) (length (digits n)) 0
      ∙ get_or-append_seam (digits n) behind rest 0

  field_stands : n ≤ 65535 → numeral n (at + length (digits n) + 1) ≡ field_at line at behind
  field_stands h =
      ap (λ (k : ℕ). numeral k (at + length (digits n) + 1)) (sym value_is)
      ∙ ap (λ (k : ℕ). numeral (value_at line at) (k + 1)) (sym end_is)
      ∙ a_field line at behind (is_field_lem line at behind (number_stands line before rest at n behind where-is stands other (omega arith)) byte_behind)

-- ---- the three numbers of a line

module _ (a b c : ℕ) (after : List ℕ) where
  line : List ℕ
  line = line_text a b c ++ after

  first_stands : line ≡ [] ++ (digits a ++ space ∷ (digits b ++ space ∷ (digits c ++ line_feed ∷ after)))
  unfolding line line_text
  first_stands = simp append_assoc

  second_stands : line ≡ (digits a ++ space ∷ []) ++ (digits b ++ space ∷ (digits c ++ line_feed ∷ after))
  unfolding line line_text
  second_stands = simp append_assoc

  third_stands : line ≡ (digits a ++ space ∷ (digits b ++ space ∷ [])) ++ (digits c ++ line_feed ∷ after)
  unfolding line line_text
  third_stands = simp append_assoc

  reads_back : a ≤ 65535 → b ≤ 4096 → c ≤ 65535 → line_outcome line ≡ given (record { genchain = a; octave = b; tritave = c })
  reads_back ha hb hc =
      let second = 0 + length (digits a) + 1 in
      let third = second + length (digits b) + 1 in
      let two : length (digits a ++ space ∷ []) ≡ second = simp length-append (omega arith) in
      let three : length (digits a ++ space ∷ (digits b ++ space ∷ [])) ≡ third = simp length-append (omega arith) in
      sym
      (line_given line a second
      (field_stands line [] (digits b ++ space ∷ (digits c ++ line_feed ∷ after)) 0 a space refl first_stands refl ha)
      b
      third
      (field_stands line (digits a ++ space ∷ []) (digits c ++ line_feed ∷ after) second b space two second_stands refl (omega arith))
      c
      (third + length (digits c) + 1)
      (field_stands line (digits a ++ space ∷ (digits b ++ space ∷ [])) after third c line_feed three third_stands refl hc)
      hb)

pub lines_read_back : LinesReadBack
unfolding line
lines_read_back a b c after = reads_back a b c after
