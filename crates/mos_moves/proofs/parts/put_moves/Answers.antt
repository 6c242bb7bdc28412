-- Four stores in a row, each of a small number.
use native.Mathlib.Omega.{arith}
use lib.ListN.{length-set}
use Rattle.mos_moves.proofs.SignedRows.{numbers_read}
use Rattle.mos_moves.proofs.Listing.{stored_four}
use Rattle.mos_moves.proofs.parts.put_moves.Goals as goal

pub bounds-out-at-2 : goal.bounds-out-at-2
bounds-out-at-2 c = simp length-set (omega arith)

pub bounds-out-at-3 : goal.bounds-out-at-3
bounds-out-at-3 c = simp length-set (omega arith)

pub bounds-out-at-4 : goal.bounds-out-at-4
bounds-out-at-4 c = simp length-set (omega arith)

pub returns : goal.returns
returns c =
    stored_four _ _ _ _ _ _ (numbers_read c.args.moves c.requires.1)
