-- Range by range.
use Rattle.std.proofs.Common.{arith}
use Rattle.lamp_codes.proofs.Ranges.{old_plain, old_even, old_odd, old_last}
use Rattle.lamp_codes.proofs.U16Code.partner.Goals as goal

pub returns-in-0-to-1 : goal.returns-in-0-to-1
returns-in-0-to-1 c = old_plain _ (grind arith)

pub returns-in-2-to-201 : goal.returns-in-2-to-201
returns-in-2-to-201 c = old_even _ (grind arith) (grind arith) (grind arith)

pub returns-in-2-to-201-2 : goal.returns-in-2-to-201-2
returns-in-2-to-201-2 c = old_odd _ (grind arith) (grind arith) (grind arith)

pub returns-in_default : goal.returns-in_default
returns-in_default c = old_last _ (grind arith)
