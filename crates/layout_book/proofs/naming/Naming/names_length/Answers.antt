-- The bare names in each cycle, and their stars.
use native.Mathlib.Omega.{arith}
use Rattle.layout_book.proofs.ReadyNumbers.{made_numbers}
use Rattle.layout_book.proofs.NamesLength.{names_measured, few_stars, names_parts}
use Rattle.layout_book.proofs.naming.Naming.names_length.Goals as goal

pub overflow_mul-result : goal.overflow_mul-result
overflow_mul-result c = omega (arith, names_parts _ (made_numbers c.args.self.prepared (omega arith)) _ c.bare_length.ensures)

pub overflow_sub-result : goal.overflow_sub-result
overflow_sub-result c = (made_numbers c.args.self.prepared (omega arith)).walkable.some_cycles

pub overflow_mul-result-2 : goal.overflow_mul-result-2
overflow_mul-result-2 c = omega (arith, few_stars _ (made_numbers c.args.self.prepared (omega arith)))

pub overflow_mul-result-3 : goal.overflow_mul-result-3
overflow_mul-result-3 c = omega (arith, names_parts _ (made_numbers c.args.self.prepared (omega arith)) _ c.bare_length.ensures)

pub overflow_add-result : goal.overflow_add-result
overflow_add-result c = omega (arith, names_parts _ (made_numbers c.args.self.prepared (omega arith)) _ c.bare_length.ensures)

pub returns : goal.returns
returns c = names_measured _ (made_numbers c.args.self.prepared (omega arith)) _ c.bare_length.ensures
