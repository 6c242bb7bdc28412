-- Range by range.
use Rattle.std.proofs.Common.{arith}
use Rattle.lamp_codes.proofs.Ranges.{wide_plain, wide_sharp, wide_flat, wide_last}
use Rattle.lamp_codes.proofs.U8Code.partner.Goals as goal

pub returns-in-0-to-1 : goal.returns-in-0-to-1
returns-in-0-to-1 c = wide_plain _ (grind arith)

pub returns-in-2-to-101 : goal.returns-in-2-to-101
returns-in-2-to-101 c = wide_sharp _ (grind arith) (grind arith)

pub returns-in-102-to-201 : goal.returns-in-102-to-201
returns-in-102-to-201 c = wide_flat _ (grind arith) (grind arith)

pub returns-in_default : goal.returns-in_default
returns-in_default c = wide_last _ (grind arith)
