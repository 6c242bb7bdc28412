-- The digits, then the byte.
use mathlib.Core.List.{[], ◌∷◌}
use Rattle.text.specs.Decimal.{digits}
use Rattle.text.proofs.Writing.{then, room_first, room_next}
use Rattle.text.proofs.decimal.put_number_then.Goals as goal

pub put_number-next-requires : goal.put_number-next-requires
put_number-next-requires c =
    room_first c.args.out.now c.args.at (digits c.args.n) (c.args.behind ∷ []) c.requires

pub put_byte-requires : goal.put_byte-requires
put_byte-requires c = room_next _ c.put_number-next.ensures c.requires

pub returns : goal.returns
returns c = then c.put_number-next.ensures c.put_byte.ensures
