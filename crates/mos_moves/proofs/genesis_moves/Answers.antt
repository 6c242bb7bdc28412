-- Question 2, then the genesis and its moves.
use native.Mathlib.Omega.{arith}
use Rattle.mos_moves.proofs.Answering.{genesis_passed, genesis_tabled}
use Rattle.mos_moves.proofs.genesis_moves.Goals as goal

pub returns-in_err-genesis : goal.returns-in_err-genesis
returns-in_err-genesis c = genesis_passed _ _ _ _ c.from_residual.ensures c.in_err-genesis.ensures

pub start-requires : goal.start-requires
start-requires c = c.in_ok-genesis.ensures.0

pub returns : goal.returns
returns c =
    let asked = c.in_ok-genesis.ensures in
    genesis_tabled _ _ (λ e. omega (arith, asked.0)) _ _ _ asked.1 c.start.ensures
