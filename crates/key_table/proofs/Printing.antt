-- The output for a line, as a refusal or as a table; its parts, one after the other, are all of it.
use Prim.Native.Nat.{ℕ, ◌+◌, ◌≤◌}
use native.Mathlib.Omega.{arith}
use mathlib.Core.Path.{◌≡◌, refl, sym, ap, ◌∙◌, subst}
use mathlib.Core.List.{List, []}
use lib.ListN.{length, replicate, length-replicate}
use Rattle.text.specs.Writing.{joined}
use Rattle.text.proofs.Joined.{joined_none, joined_add}
use Rattle.layout.specs.Layouts.{Layout}
use Rattle.layout.specs.Parts.{layout_of, layout_in, Ready}
use Rattle.layout.specs.declared.parts.Found.{Found}
use Rattle.layout.specs.declared.prepared.Prepared.{Prepared}
use Rattle.layout_book.proofs.Rounds.{short_texts}
use Rattle.layout_table.specs.Tables.{line_in, table_in, output}
use Rattle.line.specs.LineLayouts.{line_layout}
use Rattle.line.specs.Refusals.{refusal_line}
use Rattle.layout_table.specs.Parts.{line_from}
use Rattle.layout_table.proofs.Calls.{output_refused, output_given, table_lines}
use Rattle.line.proofs.AskedLayouts.{line_laid}
use Rattle.layout_table.proofs.Fitting.{tables_fit, line_room_few}
use Rattle.answer.specs.Outcome.{given, refused}
use Rattle.streams.specs.Streams.{Handed, Written}
use Rattle.streams.specs.declared.output.Output.{Output}
use Rattle.key_table.specs.Printing.{Short, Lines}

-- ---- what was handed over, for a refusal or for a table

module _ (line : List ℕ) (done : Output) where
  pub refusal_handed : (n : ℕ) → refused n ≡ line_layout line → Handed (refusal_line n) done → Handed (output line) done
  refusal_handed n e = subst (λ (text : List ℕ). Handed text done) (output_refused line n n refl e)

  pub table_handed : (l : Layout) → given l ≡ line_layout line → Handed (table_in l) done → Handed (output line) done
  table_handed l e = subst (λ (text : List ℕ). Handed text done) (output_given line l e)

-- the layout of a line, made ready: its lines are short
pub same_layout : (f : Found) (line : List ℕ) → given (layout_of f) ≡ line_layout line → (p : Prepared) → p.found ≡ f
    → given (layout_in p) ≡ line_layout line
same_layout f line e p is = ap (λ (x : Found). given (layout_of x)) is ∙ e

pub short_lines : (line : List ℕ) (p : Prepared) → given (layout_in p) ≡ line_layout line → Ready p → Short (layout_in p)
short_lines line p e ready key h =
    let few = (line_laid line (layout_in p) e).few_keys in
    let laid = ready.laid in
    omega (
      arith,
      tables_fit.line laid.caller (layout_in p) laid.accepted (omega (arith, few)) key h,
      line_room_few p.found.octave few,
    )

-- ---- a table, part after part

pub part_room : (p : Prepared) (from count : ℕ) → Lines p from count → length (joined (line_from (layout_in p) from) count) ≤ 65536
part_room p from count l =
    omega (arith, short_texts 840 (line_from (layout_in p) from) count (λ k h. l.short (from + k) (omega (arith, h, l.inside))), l.few)

pub lines_start : (l : Layout) (done : Output) → Handed [] done → Handed (joined (line_in l) 0) done
lines_start l done = subst (λ (t : List ℕ). Handed t done) (sym (joined_none (line_in l)))

pub lines_onward : (l : Layout) (from count : ℕ) (past done : Output) → Handed (joined (line_in l) from) past
    → Written past (joined (line_from l from) count) done → Handed (joined (line_in l) (from + count)) done
lines_onward l from count past done h w =
    subst (λ (t : List ℕ). Handed t done) (sym (joined_add (line_in l) from count)) (w.next (joined (line_in l) from) h)

pub whole_table : (l : Layout) (done : Output) → Handed (joined (line_in l) l.octave) done → Handed (table_in l) done
whole_table l done = subst (λ (t : List ℕ). Handed t done) (table_lines l)

-- a buffer of n zeros has room for n bytes
pub zeros_hold : (n k : ℕ) → k ≤ n → k ≤ length (replicate {A = ℕ} n 0)
zeros_hold n k h = omega (arith, length-replicate {A = ℕ} n 0)
