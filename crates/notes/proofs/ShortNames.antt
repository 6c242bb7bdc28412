-- How long a name is: at least one letter; at most two letters of two bytes, a slash, two parentheses, and the signs and stars.
use Rattle.std.specs.Prelude.{None, Option, Some}
use Prim.Native.Nat.{ℕ, ◌+◌, ◌≤◌}
use native.Mathlib.Omega.{arith}
use mathlib.Core.Path.{◌≡◌}
use mathlib.Core.Bool.{Bool}
use mathlib.Core.List.{List, [], ◌∷◌, ◌++◌}
use lib.ListN.{length, replicate, length-append, length-replicate}
use Rattle.genchain.specs.Chains.{chain_of}
use Rattle.pergen.specs.Spelling.{stars_of}
use Rattle.pergen.specs.declared.Accidentals.{Accidentals}
use Rattle.pergen.specs.declared.Signs.{Signs}
use Rattle.pergen.specs.declared.Signs.TheVariants.{Sharps, Flats}
use Rattle.pergen.specs.declared.Spelling.{Spelling}
use Rattle.notes.specs.Names.{signs_in, signs_text, sharp_sign, flat_sign, letter_text, letter_at, spelling_text, printed, in_parentheses, spellings_text, name_text}
use Rattle.notes.specs.Answers.{chain_name}
use Rattle.notes.specs.Theorems.{NamesAreShort, NamesAreNotEmpty}
use Rattle.notes.proofs.Utf8.{length_letter, letter_not_empty}
use Rattle.notes.proofs.Printing.{Printed, one, two, printed_view, signs_of_lem}

length_signs : (sf : Bool) (s : Signs) → length (signs_text sf s) ≡ signs_in s
length_signs sf (Sharps k) = length-replicate k (sharp_sign sf)
length_signs sf (Flats k) = length-replicate k (flat_sign sf)

module _ (letters : List ℕ) (sf : Bool) where
  length_spelling : (s : Spelling) → length (spelling_text letters sf s) ≤ 2 + signs_in s.signs
  unfolding spelling_text
  length_spelling s =
      omega (
        arith,
        length-append (letter_text (letter_at letters s.index)) (signs_text sf s.signs),
        length_letter (letter_at letters s.index),
        length_signs sf s.signs,
      )

  length_pair : (s t : Spelling) → length (spelling_text letters sf s ++ (47 ∷ []) ++ spelling_text letters sf t) ≤ 5 + (signs_in s.signs + signs_in t.signs)
  length_pair s t = simp length-append (omega (arith, length_spelling s, length_spelling t))

  length_parentheses : (c : Option ℕ) (text : List ℕ) → length (in_parentheses c text) ≤ length text + 2
  length_parentheses None text = omega arith
  length_parentheses (Some n) text = simp length-append (omega arith)

  length_spellings : (a : Accidentals) (c : Option ℕ) (l : List Spelling) → Printed a l
      → length (spellings_text letters sf c l) ≤ 7 + (a.sharp_count + a.flat_count)
  length_spellings a c l (one s o) = omega (arith, length_spelling s, signs_of_lem a s o)
  length_spellings a c l (two s t o p n) =
      omega (arith, n, length_pair s t, length_parentheses c (spelling_text letters sf s ++ (47 ∷ []) ++ spelling_text letters sf t))

pub names_are_short : NamesAreShort
unfolding name_text
names_are_short letters sf a =
    omega (
      arith,
      length-append (spellings_text letters sf a.cycle (printed sf a)) (replicate (stars_of a.cycle) 42),
      length-replicate {A = ℕ} (stars_of a.cycle) 42,
      length_spellings letters sf a a.cycle (printed sf a) (printed_view sf a),
    )

-- of a chain
pub chain_names_are_short : (code : ℕ) (sf : Bool) (a : Accidentals)
    → length (chain_name code sf a) ≤ 7 + (a.sharp_count + a.flat_count) + stars_of a.cycle
unfolding chain_name
chain_names_are_short code sf a = names_are_short (chain_of code).letters sf a

-- ---- at least one letter

module _ (letters : List ℕ) (sf : Bool) where
  spelling_not_empty : (s : Spelling) → 1 ≤ length (spelling_text letters sf s)
  unfolding spelling_text
  spelling_not_empty s = simp length-append (omega (arith, letter_not_empty (letter_at letters s.index)))

  parentheses_keep : (c : Option ℕ) (text : List ℕ) → length text ≤ length (in_parentheses c text)
  parentheses_keep None text = omega arith
  parentheses_keep (Some n) text = simp length-append (omega arith)

  spellings_not_empty : (a : Accidentals) (c : Option ℕ) (l : List Spelling) → Printed a l → 1 ≤ length (spellings_text letters sf c l)
  spellings_not_empty a c l (one s o) = spelling_not_empty s
  spellings_not_empty a c l (two s t o p n) =
      let pair = spelling_text letters sf s ++ (47 ∷ []) ++ spelling_text letters sf t in
      let some : 1 ≤ length pair = simp length-append (omega arith) in
      omega (arith, some, parentheses_keep c pair)

pub names_are_not_empty : NamesAreNotEmpty
unfolding name_text
names_are_not_empty letters sf a =
    simp length-append (omega (arith, spellings_not_empty letters sf a a.cycle (printed sf a) (printed_view sf a)))

pub chain_names_are_not_empty : (code : ℕ) (sf : Bool) (a : Accidentals) → 1 ≤ length (chain_name code sf a)
unfolding chain_name
chain_names_are_not_empty code sf a = names_are_not_empty (chain_of code).letters sf a
