-- Questions 2 and 10, then the listing at the front.
use native.Mathlib.Omega.{arith}
use Rattle.mos_moves.proofs.Answering.{walk_passed, walk_room, walk_short, walk_listed}
use Rattle.mos_moves.proofs.walk_moves.Goals as goal

pub returns-in_err-genesis : goal.returns-in_err-genesis
returns-in_err-genesis c = walk_passed _ _ _ _ c.from_residual.ensures c.in_err-genesis.ensures

pub returns-then-not-children_fit : goal.returns-then-not-children_fit
returns-then-not-children_fit c =
    let asked = c.in_ok-genesis.ensures in
    walk_short _ _ (λ e. omega (arith, asked.0)) _ asked.1 c.children_fit.ensures c.if-not-children_fit.true

pub list_moves-requires : goal.list_moves-requires
list_moves-requires c =
    let asked = c.in_ok-genesis.ensures in (
      asked.0,
      asked.1,
      walk_room _ _ (λ e. omega (arith, asked.0)) c.args.out.now asked.1 c.children_fit.ensures c.if-not-children_fit.false,
    )

pub returns : goal.returns
returns c =
    let asked = c.in_ok-genesis.ensures in
    walk_listed _ _ (λ e. omega (arith, asked.0)) _ asked.1 c.children_fit.ensures c.if-not-children_fit.false c.list_moves.ensures
