-- A number and a line feed, or the mark's line.
use native.Mathlib.Omega.{arith}
use mathlib.Core.Path.{sym, ap}
use mathlib.Core.List.{◌∷◌, []}
use lib.ListN.{length, length-append}
use Rattle.text.specs.Decimal.{digits}
use Rattle.text.proofs.Writing.{then, wrote_as, room_next}
use Rattle.kbm_text.proofs.WriteLaws.{entry_number, entry_mark, room_as}
use Rattle.kbm_text.proofs.writer.put_entry.Goals as goal

pub put_number-number-requires : goal.put_number-number-requires
put_number-number-requires c =
    let a = c.args in
    omega (arith, ap length (entry_number a.key a.mapped c.if-mapped.true), length-append (digits a.key) (10 ∷ []))

pub put_byte-requires : goal.put_byte-requires
put_byte-requires c =
    room_next (10 ∷ []) c.put_number-number.ensures (room_as c.args.out.now c.args.at (entry_number _ _ c.if-mapped.true) c.requires)

pub returns-then-mapped : goal.returns-then-mapped
returns-then-mapped c =
    wrote_as (sym (entry_number _ _ c.if-mapped.true)) (then c.put_number-number.ensures c.put_byte.ensures)

pub put_text-requires : goal.put_text-requires
put_text-requires c =
    room_as c.args.out.now c.args.at (entry_mark _ _ c.if-mapped.false) c.requires

pub returns : goal.returns
returns c =
    wrote_as (sym (entry_mark _ _ c.if-mapped.false)) c.put_text.ensures
