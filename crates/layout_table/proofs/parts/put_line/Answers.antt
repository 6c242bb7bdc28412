-- Six texts, one after the other.
use Rattle.notes.specs.Parts.{plan_text}
use Rattle.layout_table.specs.Tables.{key_line}
use native.Mathlib.Omega.{arith}
use Rattle.text.proofs.Writing.{then, room_next}
use Rattle.layout_table.proofs.Lines.{length_line}
use Rattle.layout_table.proofs.parts.put_line.Goals as goal

pub put_number-number-requires : goal.put_number-number-requires
put_number-number-requires c = omega (arith, length_line c.args.key (plan_text c.args.name) c.args.lamp)

pub put_byte-first-requires : goal.put_byte-first-requires
put_byte-first-requires c = omega (arith, length_line c.args.key (plan_text c.args.name) c.args.lamp)

pub put_name-named-requires : goal.put_name-named-requires
put_name-named-requires c = (c.requires.0, omega (arith, length_line c.args.key (plan_text c.args.name) c.args.lamp))

pub put_byte-second-requires : goal.put_byte-second-requires
put_byte-second-requires c = omega (arith, length_line c.args.key (plan_text c.args.name) c.args.lamp)

pub put_number-code-requires : goal.put_number-code-requires
put_number-code-requires c = omega (arith, length_line c.args.key (plan_text c.args.name) c.args.lamp)

pub put_byte-requires : goal.put_byte-requires
unfolding key_line
put_byte-requires c =
    room_next _
    (then (then (then (then c.put_number-number.ensures c.put_byte-first.ensures) c.put_name-named.ensures) c.put_byte-second.ensures) c.put_number-code.ensures)
    c.requires.1

pub returns : goal.returns
unfolding key_line
returns c =
    then (then (then (then (then c.put_number-number.ensures c.put_byte-first.ensures) c.put_name-named.ensures) c.put_byte-second.ensures) c.put_number-code.ensures)
    c.put_byte.ensures
