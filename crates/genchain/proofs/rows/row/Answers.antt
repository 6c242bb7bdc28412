-- The table is `map row_of chains`, computed once; so its entry at a code is the row of the code's chain. Past it there is no chain.
use mathlib.Core.Path.{refl}
use Rattle.genchain.specs.Chains.{chains, row_of}
use Rattle.genchain.proofs.TableRows.{row_at}
use Rattle.genchain.proofs.Calls.{is_chain, is_none, row_of_none}
use Rattle.genchain.proofs.rows.row.Goals as goal

pub bounds-code-code : goal.bounds-code-code
bounds-code-code c = is_chain _ c.is_chain.ensures c.if-is_chain.true

pub returns-then-is_chain : goal.returns-then-is_chain
unfolding chains row_of
returns-then-is_chain c = row_at refl c.args.code _ (is_chain _ c.is_chain.ensures c.if-is_chain.true)

pub returns : goal.returns
unfolding row_of
returns c = row_of_none _ (is_none _ c.is_chain.ensures c.if-is_chain.false)
