-- The letters are copied over the front.
use Prim.Native.Nat.{ℕ, ◌≤◌}
use mathlib.Core.List.{List, ◌++◌}
use mathlib.Core.Path.{◌≡◌, sym, ap, ◌∙◌}
use native.Mathlib.Nat.{zero-add}
use lib.ListN.{length, drop}
use Rattle.text.specs.Writing.{Wrote}
use Rattle.genchain.specs.Chains.{letters_in}
use native.Mathlib.Omega.{arith}
use lib.Seq.{length-take-le, sets-eq}
use Rattle.genchain.proofs.TableRows.{row_length, row_count_small, length_letters_in}
use Rattle.genchain.proofs.rows.put_letters.Goals as goal

-- a text that is put before what lies past it is written at the front
put_front : (xs text : List ℕ) (n : ℕ) → n ≡ length text → n ≤ length xs → Wrote xs 0 text (text ++ drop n xs) n
put_front xs text n e h =
    record {
      content = sym (sets-eq text xs 0 (omega (arith, e)) ∙ ap (λ (k : ℕ). text ++ drop k xs) (zero-add (length text) ∙ sym e));
      end = e ∙ sym (zero-add (length text));
    }

pub slice_bounds-copy_from_slice-end : goal.slice_bounds-copy_from_slice-end
slice_bounds-copy_from_slice-end c = omega (arith, length_letters_in _ c.requires.0)

pub slice_bounds-copy_from_slice-end-2 : goal.slice_bounds-copy_from_slice-end-2
slice_bounds-copy_from_slice-end-2 c = sym (length-take-le _ _ (omega (arith, length_letters_in _ c.requires.0)))

pub slice_bounds-letters-end : goal.slice_bounds-letters-end
slice_bounds-letters-end c = omega (arith, row_length _ c.requires.0, row_count_small _ c.requires.0)

pub slice_bounds-copy_from_slice-end-3 : goal.slice_bounds-copy_from_slice-end-3
slice_bounds-copy_from_slice-end-3 c = sym (length-take-le _ _ (omega (arith, row_length _ c.requires.0, row_count_small _ c.requires.0)))

pub copy_from_slice-requires : goal.copy_from_slice-requires
copy_from_slice-requires c =
    length-take-le _ _ (omega (arith, length_letters_in _ c.requires.0))
    ∙ sym (length-take-le _ _ (omega (arith, row_length _ c.requires.0, row_count_small _ c.requires.0)))

pub returns : goal.returns
unfolding letters_in
returns c =
    rw c.copy_from_slice.ensures.after
    (put_front _ _ _ (sym (length_letters_in _ c.requires.0)) (omega (arith, length_letters_in _ c.requires.0)))
