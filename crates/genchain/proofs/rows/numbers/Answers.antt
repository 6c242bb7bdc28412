-- The two numbers of the table's row at each place: the table is `map row_of chains`, as in `row`. Past it there is no chain.
use Prim.Native.Nat.{◌≤◌}
use mathlib.Core.Path.{refl, ap}
use native.Mathlib.Omega.{arith}
use Rattle.genchain.specs.declared.rows.ChainRow.{ChainRow}
use Rattle.genchain.specs.Chains.{chains, no_chain, row_of}
use Rattle.genchain.proofs.TableRows.{row_at, numbers_at}
use Rattle.genchain.proofs.Calls.{row_of_none}
use Rattle.genchain.proofs.rows.numbers.Goals as goal

pub returns-in-0 : goal.returns-in-0
unfolding chains row_of
returns-in-0 c = numbers_at c.in-0.is (row_at refl 0 (row_of no_chain) (omega arith)) c.numbers_in.ensures

pub returns-in-1 : goal.returns-in-1
unfolding chains row_of
returns-in-1 c = numbers_at c.in-1.is (row_at refl 1 (row_of no_chain) (omega arith)) c.numbers_in-in-1.ensures

pub returns-in-2 : goal.returns-in-2
unfolding chains row_of
returns-in-2 c = numbers_at c.in-2.is (row_at refl 2 (row_of no_chain) (omega arith)) c.numbers_in-in-2.ensures

pub returns-in-3 : goal.returns-in-3
unfolding chains row_of
returns-in-3 c = numbers_at c.in-3.is (row_at refl 3 (row_of no_chain) (omega arith)) c.numbers_in-in-3.ensures

pub returns-in-4 : goal.returns-in-4
unfolding chains row_of
returns-in-4 c = numbers_at c.in-4.is (row_at refl 4 (row_of no_chain) (omega arith)) c.numbers_in-in-4.ensures

pub returns-in-5 : goal.returns-in-5
unfolding chains row_of
returns-in-5 c = numbers_at c.in-5.is (row_at refl 5 (row_of no_chain) (omega arith)) c.numbers_in-in-5.ensures

pub returns-in_default : goal.returns-in_default
unfolding row_of
returns-in_default c =
    let no = c.in_default.in_default-own.rest in
    let past : 6 ≤ c.args.code = omega (arith, no.0.0.0.0.0.1, no.0.0.0.0.1, no.0.0.0.1, no.0.0.1, no.0.1, no.1) in
    let is = row_of_none _ past in
    (ap (λ (w : ChainRow). w.num_letters) is, ap (λ (w : ChainRow). w.start) is)
