-- Questions 1 to 4 and 18, then 10, and four stores.
use Rattle.answer.proofs.Passing.{passed_on}
use mathlib.Core.Path.{sym, ap, ◌∙◌, subst}
use lib.IntN.{ℤ}
use borrow.Author.Rules.{rules}
use Rattle.mos_moves.specs.Moves.{Table, SmallTable}
use Rattle.mos_moves.proofs.Theorems.{own_small}
use Rattle.layout.specs.Parts.{found_outcome}
use Rattle.layout.proofs.Calls.{parts_of}
use Rattle.layout_moves.proofs.Theorems.{on_walk, numbers_refused, numbers_short, numbers_given}
use Rattle.layout_moves.proofs.write_moves.Goals as goal

pub returns-then-out-lt4 : goal.returns-then-out-lt4
returns-then-out-lt4 c = numbers_short _ _ _ (sym (ap found_outcome c.in_ok-found.was) ∙ c.ask.ensures) c.if-out-lt4.true

pub pattern_moves-moves-requires : goal.pattern_moves-moves-requires
pattern_moves-moves-requires c =
    let parts = parts_of _ _ (sym (ap found_outcome c.in_ok-found.was) ∙ c.ask.ensures) in
    (parts.positive, on_walk _ parts)

pub put_moves-requires : goal.put_moves-requires
put_moves-requires c =
    let found = c.in_ok-found.found in
    let parts = parts_of _ _ (sym (ap found_outcome c.in_ok-found.was) ∙ c.ask.ensures) in (
      c.if-out-lt4.false,
      subst (λ (t : Table ℤ). SmallTable t) (sym c.pattern_moves-moves.ensures)
          (own_small found.octave found.generator parts.positive (search rules) (search rules) found.pattern (on_walk _ parts)),
    )

pub returns-in_err-found : goal.returns-in_err-found
returns-in_err-found c =
    rw (passed_on _ _ c.from_residual.ensures)
    (numbers_refused _ _ _ (sym (ap found_outcome c.in_err-found.was) ∙ c.ask.ensures))

pub returns : goal.returns
returns c =
    numbers_given _ _ _ (sym (ap found_outcome c.in_ok-found.was) ∙ c.ask.ensures) c.if-out-lt4.false _ c.pattern_moves-moves.ensures c.put_moves.ensures
