-- The text of the row at the place.
use mathlib.Core.Path.{sym, ap}
use native.Mathlib.Omega.{arith}
use lib.ListN.{length}
use lib.Seq.{length-take-le}
use Rattle.text.proofs.Writing.{wrote_as}
use Rattle.genchain.proofs.TextTable.{row_small, row_size, row_text}
use Rattle.genchain.proofs.names.put.Goals as goal

pub slice_bounds-text-end : goal.slice_bounds-text-end
slice_bounds-text-end c =
    let r = c.row-found.ensures in
    let h = c.requires.0 in
    omega (arith, row_size _ h _ r, row_small _ h _ r)

pub slice_bounds-put_text-end : goal.slice_bounds-put_text-end
slice_bounds-put_text-end c =
    let r = c.row-found.ensures in
    let h = c.requires.0 in
    sym (length-take-le _ c.row-found.result.text (omega (arith, row_size _ h _ r, row_small _ h _ r)))

pub put_text-requires : goal.put_text-requires
put_text-requires c =
    let r = c.row-found.ensures in
    let h = c.requires.0 in
    omega (arith, ap length (row_text _ h _ r))

pub returns : goal.returns
returns c =
    let r = c.row-found.ensures in
    let h = c.requires.0 in
    wrote_as (row_text _ h _ r) c.put_text.ensures
