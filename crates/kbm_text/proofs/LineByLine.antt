-- A written mapping as lines that are counted through from the head to the last entry; and how long it can be.
use Prim.Native.Nat.{ℕ, zero, suc, ◌+◌, ◌-◌, ◌*◌, ◌<◌, ◌≤◌}
use native.Mathlib.Omega.{arith}
use mathlib.Core.Bool.{Bool, true, false, ◌&&◌, not}
use mathlib.Core.Path.{◌≡◌, refl, sym, ap, ap₂, ◌∙◌}
use mathlib.Core.List.{List, ◌++◌}
use lib.ListN.{length, length-append}
use lib.Dec.{eqb, leb}
use borrow.Author.Tests.{ne_eqb, le-leb}
use Rattle.answer.specs.Choice.{pick}
use Rattle.text.specs.Writing.{joined}
use Rattle.text.proofs.Joined.{joined_add, joined_same}
use Rattle.text.specs.Decimal.{digits}
use Rattle.text.proofs.Digits.{digits_length}
use Rattle.kbm_text.specs.Kinds.{mark, frequency}
use Rattle.kbm_text.specs.Reading.{due}
use Rattle.kbm_text.specs.Written.{line, head_text, entry_line, kbm_text}
use Rattle.kbm_text.specs.Theorems.{MappingsFit}
use Rattle.kbm_text.proofs.StepLaws.{due_entry}
use Rattle.kbm_text.proofs.WriteLaws.{head_length, number_length, mark_length}

-- line k is the mark: the entry of a key that is not mapped
unfoldable pub is_mark : (ℕ → Bool) → ℕ → Bool
is_mark mapped k = leb 7 k && not (mapped (k - 7))

-- what stands on line k
unfoldable pub line_text : ℕ → (ℕ → Bool) → ℕ → List ℕ
unfolding due is_mark
line_text octave mapped k = pick (eqb k 5) frequency (pick (is_mark mapped k) mark (digits (due octave k)))

module _ (octave : ℕ) (mapped : ℕ → Bool) where
  abbrev pub line_at : ℕ → List ℕ
  line_at k = line (line_text octave mapped k)

  head_lines : joined line_at 7 ≡ head_text octave
  unfolding joined line_text head_text
  head_lines = refl

  entry_by : (c : ℕ) (b : Bool) → line (pick (not b) mark (digits c)) ≡ entry_line c b
  unfolding entry_line
  entry_by c true = refl
  entry_by c false = refl

  entry_line_lem : (c : ℕ) → line_at (7 + c) ≡ entry_line c (mapped c)
  unfolding line_text is_mark
  entry_line_lem c =
      let back : 7 + c - 7 ≡ c = omega arith in
      ap (λ (t : Bool). line (pick t frequency (pick (is_mark mapped (7 + c)) mark (digits (due octave (7 + c)))))) (ne_eqb (7 + c) 5 (λ e. omega arith))
      ∙ ap (λ (t : Bool). line (pick (t && not (mapped (7 + c - 7))) mark (digits (due octave (7 + c))))) (le-leb 7 (7 + c) (omega arith))
      ∙ ap₂ (λ (m n : ℕ). line (pick (not (mapped m)) mark (digits n))) back (due_entry octave (7 + c) (omega arith) ∙ back)
      ∙ entry_by c (mapped c)

  pub kbm_lines : kbm_text octave mapped ≡ joined line_at (7 + octave)
  unfolding kbm_text
  kbm_lines =
      sym
      (joined_add line_at 7 octave
      ∙ ap₂ (λ (s t : List ℕ). s ++ t) head_lines (joined_same (λ c. line_at (7 + c)) (λ c. entry_line c (mapped c)) octave (λ c h. entry_line_lem c)))

pub due_small : (octave k : ℕ) → octave ≤ 65535 → k < 7 + octave → due octave k ≤ 65535
unfolding due
due_small octave zero h l = h
due_small octave (suc zero) h l = omega arith
due_small octave (suc (suc zero)) h l = omega arith
due_small octave (suc (suc (suc zero))) h l = omega arith
due_small octave (suc (suc (suc (suc zero)))) h l = omega arith
due_small octave (suc (suc (suc (suc (suc zero))))) h l = omega arith
due_small octave (suc (suc (suc (suc (suc (suc zero)))))) h l = h
due_small octave (suc (suc (suc (suc (suc (suc (suc k))))))) h l = omega arith

-- ---- how long it can be

entry_short : (key : ℕ) (b : Bool) → key ≤ 65535 → length (entry_line key b) ≤ 6
entry_short key true h = let d = number_length key true refl _ (digits_length key (omega arith)) in omega (arith, d.is, d.few)
entry_short key false h = let d = mark_length key false refl in omega (arith, d.is, d.few)

entries_short : (f : ℕ → List ℕ) (n : ℕ) → ((k : ℕ) → k < n → length (f k) ≤ 6) → length (joined f n) ≤ 6 * n
unfolding joined
entries_short f zero h = omega arith
entries_short f (suc n) h =
    omega (arith, length-append (joined f n) (f n), entries_short f n (λ k l. h k (omega arith)), h n (omega arith))

pub mappings_fit : MappingsFit
unfolding kbm_text
mappings_fit octave mapped small =
    let head = head_length octave _ (digits_length octave (omega arith)) in
    let entries = joined (λ key. entry_line key (mapped key)) octave in
    omega (
      arith,
      length-append (head_text octave) entries,
      head.is,
      head.few,
      entries_short (λ key. entry_line key (mapped key)) octave (λ k l. entry_short k (mapped k) (omega arith)),
    )
