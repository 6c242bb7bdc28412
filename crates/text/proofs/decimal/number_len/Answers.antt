-- One law for each number of digits.
use native.Mathlib.Omega.{arith}
use Rattle.text.proofs.Digits.{length_one, length_two, length_three, length_four, length_five, of_length}
use Rattle.text.proofs.decimal.number_len.Goals as goal

pub returns-in-0-to-9 : goal.returns-in-0-to-9
returns-in-0-to-9 c = of_length _ 1 (length_one _ (omega arith)) (omega arith) (omega arith)

pub returns-in-10-to-99 : goal.returns-in-10-to-99
returns-in-10-to-99 c = of_length _ 2 (length_two _ (omega arith) (omega arith)) (omega arith) (omega arith)

pub returns-in-100-to-999 : goal.returns-in-100-to-999
returns-in-100-to-999 c = of_length _ 3 (length_three _ (omega arith) (omega arith)) (omega arith) (omega arith)

pub returns-in-1000-to-9999 : goal.returns-in-1000-to-9999
returns-in-1000-to-9999 c = of_length _ 4 (length_four _ (omega arith) (omega arith)) (omega arith) (omega arith)

pub returns-in_default : goal.returns-in_default
returns-in_default c = of_length _ 5 (length_five _ (omega arith) (omega arith)) (omega arith) (omega arith)
