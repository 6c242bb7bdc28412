-- Three texts, one after the other.
use native.Mathlib.Omega.{arith}
use Rattle.text.proofs.Writing.{then}
use Rattle.line.specs.Refusals.{refusal_line}
use Rattle.line.proofs.RefusalLines.{length_refusal}
use Rattle.line.proofs.refusals.put_refusal.Goals as goal

pub put_text-word-requires : goal.put_text-word-requires
put_text-word-requires c = omega (arith, length_refusal c.args.number)

pub put_number-digits-requires : goal.put_number-digits-requires
put_number-digits-requires c = omega (arith, length_refusal c.args.number)

pub put_byte-requires : goal.put_byte-requires
put_byte-requires c = omega (arith, length_refusal c.args.number)

pub returns : goal.returns
unfolding refusal_line
returns c =
    then (then c.put_text-word.ensures c.put_number-digits.ensures) c.put_byte.ensures
