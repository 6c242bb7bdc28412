-- Question 22, then question 10, by the longest walk or by the count: one law for each end.
use Rattle.answer.specs.Refusals.{outcome_of}
use mathlib.Core.Path.{sym, ap, ◌∙◌}
use native.Mathlib.Omega.{arith}
use Rattle.mos_fractional.proofs.Walking.{growing_told, from_length}
use Rattle.mos_fractional.proofs.Storing.{begins_refused, begins_short, begins_whole, begins_counted}
use Rattle.mos_fractional.proofs.walks.first.Goals as goal

pub returns-then-room-gt65534 : goal.returns-then-room-gt65534
returns-then-room-gt65534 c =
    let start = c.args in
    begins_whole start.generator start.room _
    (sym (ap outcome_of c.in-Ok.is) ∙ c.new_genesis.ensures)
    (omega (arith, from_length start.generator, c.if-room-gt65534.true))

pub count_from-count-requires : goal.count_from-count-requires
count_from-count-requires c =
    growing_told c.args.generator
    (sym (ap outcome_of c.in-Ok.is) ∙ c.new_genesis.ensures)

pub returns-then-room-count : goal.returns-then-room-count
returns-then-room-count c =
    let start = c.args in
    begins_short start.generator start.room _
    (sym (ap outcome_of c.in-Ok.is)
    ∙ c.new_genesis.ensures)
    (omega (arith, c.count_from-count.ensures, c.if-room-count.true))

pub returns-in_default : goal.returns-in_default
returns-in_default c =
    begins_refused c.args.generator c.args.room (sym (ap outcome_of c.in_default.is) ∙ c.new_genesis.ensures)

pub returns : goal.returns
returns c =
    let start = c.args in
    begins_counted start.generator start.room _
    (sym (ap outcome_of c.in-Ok.is)
    ∙ c.new_genesis.ensures)
    (omega (arith, c.count_from-count.ensures, c.if-room-count.false))
