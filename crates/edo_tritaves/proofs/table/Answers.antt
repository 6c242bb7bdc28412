-- The constant is the table.
use mathlib.Core.Path.{refl}
use Rattle.edo_tritaves.specs.Table.{tritave_table}
use Rattle.edo_tritaves.proofs.table.Goals as goal

pub returns : goal.returns
unfolding tritave_table
returns c = refl
