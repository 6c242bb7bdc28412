use Prim.Native.Nat.{ℕ}
use mathlib.Core.Bool.{false≢true}
use mathlib.Core.Path.{refl, sym, ◌∙◌, subst}
use native.Mathlib.Nat.{le_antisymm}
use native.Mathlib.Omega.{arith}
use Rattle.text.specs.Writing.{joined}
use Rattle.layout.specs.Parts.{layout_in}
use Rattle.layout_table.specs.Tables.{line_in}
use Rattle.streams.specs.Streams.{Handed}
use Rattle.key_table.proofs.Printing.{lines_start, lines_onward, whole_table}
use borrow.Author.Rules.{rules}
use Rattle.key_table.proofs.print_table.Goals as goal

pub loop-from-init : goal.loop-from-init
loop-from-init c = (lines_start (layout_in c.args.prepared) _ c.begin-done.ensures.none, omega arith, refl)

pub print_lines-done-requires : goal.print_lines-done-requires
print_lines-done-requires c =
    let loop = c.loop-from in
    let once = c.at_once-count.ensures in (
      record { ready = c.requires.ready; short = c.requires.short; inside = omega (arith, once.0); few = once.1 },
      omega (arith, c.requires.room, loop.invariant.2),
    )

pub returns-then-not-taken : goal.returns-then-not-taken
returns-then-not-taken c =
    λ taken. absurd (false≢true (sym c.if-not-taken.true ∙ c.taken.ensures ∙ taken))

pub loop-from-smaller : goal.loop-from-smaller
loop-from-smaller c =
    let once = c.at_once-count.ensures in
    omega (arith, once.0, once.2 (omega arith))

pub loop-from-preserved : goal.loop-from-preserved
loop-from-preserved c =
    let loop = c.loop-from in
    let once = c.at_once-count.ensures in (
      lines_onward _ _ _ _ _ loop.invariant.0 c.print_lines-done.ensures,
      omega (arith, once.0),
      search rules,
    )

pub returns : goal.returns
returns c =
    let loop = c.loop-from in
    let p = c.args.prepared in
    λ taken.
    whole_table (layout_in p) _
    (subst (λ (k : ℕ). Handed (joined (line_in (layout_in p)) k) loop.done) (le_antisymm loop.invariant.1 c.loop-from-test.false) loop.invariant.0)
