-- Inside the chain the row's letter, past it a question mark.
use native.Mathlib.Omega.{arith}
use Rattle.genchain.proofs.TableRows.{row_count_small}
use Rattle.notes.proofs.RowLetters.{letter_inside, letter_past, letter_small}
use Rattle.notes.proofs.plans.letter_at.Goals as goal

pub bounds-row-index : goal.bounds-row-index
bounds-row-index c = omega (arith, row_count_small _ c.requires)

pub returns-then-index-row : goal.returns-then-index-row
returns-then-index-row c = (
  letter_inside _ c.requires _ c.if-index-row.true,
  letter_small _ c.requires _ c.if-index-row.true,
)

pub returns-else-index-row : goal.returns-else-index-row
returns-else-index-row c = (letter_past _ c.requires _ c.if-index-row.false, omega arith)
