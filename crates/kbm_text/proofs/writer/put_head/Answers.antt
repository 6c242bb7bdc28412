-- Four texts, one after the other.
use native.Mathlib.Omega.{arith}
use mathlib.Core.Path.{sym}
use Rattle.text.proofs.Writing.{then, wrote_as}
use Rattle.kbm_text.proofs.WriteLaws.{head_is, length_head}
use Rattle.kbm_text.proofs.writer.put_head.Goals as goal

pub put_number-size-requires : goal.put_number-size-requires
put_number-size-requires c = omega (arith, length_head c.args.octave)

pub put_text-notes-requires : goal.put_text-notes-requires
put_text-notes-requires c = omega (arith, length_head c.args.octave)

pub put_number-degree-requires : goal.put_number-degree-requires
put_number-degree-requires c = omega (arith, length_head c.args.octave)

pub put_byte-requires : goal.put_byte-requires
put_byte-requires c = omega (arith, length_head c.args.octave)

pub returns : goal.returns
returns c =
    wrote_as (sym (head_is _)) (then (then (then c.put_number-size.ensures c.put_text-notes.ensures) c.put_number-degree.ensures) c.put_byte.ensures)
