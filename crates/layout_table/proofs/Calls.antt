-- From what was asked to what the calls answer: one law for each way in which a call ends.
use Prim.Native.Nat.{ℕ}
use mathlib.Core.Path.{◌≡◌, refl, sym, ap, ◌∙◌}
use mathlib.Core.List.{List}
use native.Mathlib.Nat.{zero-add}
use lib.ListN.{length}
use Rattle.answer.specs.Outcome.{Outcome, given, refused, and_then}
use Rattle.answer.specs.Lent.{held_in, in_room, counted}
use Rattle.text.specs.Writing.{joined}
use Rattle.text.proofs.Joined.{joined_same}
use Rattle.layout.specs.declared.IsomorphicLayout.{IsomorphicLayout}
use Rattle.layout.specs.Layouts.{Layout, layout_outcome}
use Rattle.layout.specs.Names.{listed_name}
use Rattle.layout.proofs.Calls.{of_refused, of_given}
use Rattle.layout_lamps.specs.Lamps.{lamp_in}
use Rattle.line.specs.Lines.{line_outcome}
use Rattle.line.specs.declared.Line.{Line}
use Rattle.layout_table.specs.Tables.{key_line, line_in, table_in, get_table, line_table, output}
use Rattle.line.specs.LineLayouts.{layout_on, line_layout}
use Rattle.line.specs.Refusals.{refusal_line, output_of}
use Rattle.layout_table.specs.Parts.{line_from}

-- ---- a table of a layout

pub line_parts : (l : Layout) (key : ℕ) → key_line key (listed_name l key) (lamp_in l key) ≡ line_in l key
unfolding line_in
line_parts l key = refl

pub table_lines : (l : Layout) → joined (line_in l) l.octave ≡ table_in l
unfolding table_in
table_lines l = refl

-- ---- what is asked of a layout

pub table_refused : (r : IsomorphicLayout) (n : ℕ) → refused n ≡ layout_outcome r → refused n ≡ get_table r
unfolding get_table
table_refused r n e = of_refused r _ n e

module _ (r : IsomorphicLayout) (l : Layout) (e : given l ≡ layout_outcome r) where
  pub table_given : given (table_in l) ≡ get_table r
  unfolding get_table
  table_given = of_given r _ l e

  pub table_counted : (n : ℕ) → n ≡ length (table_in l) → given n ≡ counted (get_table r)
  table_counted n q = ap given q ∙ ap counted table_given

  pub table_in_room : (room : ℕ) → held_in room (table_in l) ≡ in_room room (get_table r)
  table_in_room room = ap (λ (o : Outcome (List ℕ)). and_then o (held_in room)) table_given

-- ---- what is printed for a line

-- the output, by the layout that the line asks for
by_layout : (o : Outcome Line) → and_then o (λ (a : Line). get_table (layout_on a)) ≡ and_then (and_then o (λ (a : Line). layout_outcome (layout_on a))) (λ (l : Layout). given (table_in l))
unfolding get_table
by_layout (given a) = refl
by_layout (refused n) = refl

module _ (line : List ℕ) where
  output_by : output_of (and_then (line_layout line) (λ (l : Layout). given (table_in l))) ≡ output line
  unfolding output line_table line_layout
  output_by = ap output_of (sym (by_layout (line_outcome line)))

  pub output_refused : (k n : ℕ) → k ≡ n → refused n ≡ line_layout line → refusal_line k ≡ output line
  output_refused k n i e =
      ap refusal_line i ∙ ap (λ (o : Outcome Layout). output_of (and_then o (λ (l : Layout). given (table_in l)))) e ∙ output_by

  pub output_given : (l : Layout) → given l ≡ line_layout line → table_in l ≡ output line
  output_given l e = ap (λ (o : Outcome Layout). output_of (and_then o (λ (x : Layout). given (table_in x)))) e ∙ output_by

-- all lines, from the first on
pub whole_table : (l : Layout) → joined (line_from l 0) l.octave ≡ table_in l
whole_table l = joined_same (line_from l 0) (line_in l) l.octave (λ k h. ap (line_in l) (zero-add k)) ∙ table_lines l
