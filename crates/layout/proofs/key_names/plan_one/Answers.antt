-- The plan of the key's spellings, by the letters of the row.
use lib.IntN.{pos}
use Rattle.genchain.proofs.TableRows.{table_row}
use Rattle.layout.specs.Parts.{layout_of}
use Rattle.layout.proofs.Kept.{parts_found}
use Rattle.layout.proofs.Readiness.{planned_by_row}
use Rattle.layout.proofs.key_names.plan_one.Goals as goal

pub spelled_in-spelled-requires : goal.spelled_in-spelled-requires
spelled_in-spelled-requires c = c.args.key.below

pub plan_name-requires : goal.plan_name-requires
plan_name-requires c = table_row _ _ (parts_found c.args.key.found).chain c.args.key.row_is

pub returns : goal.returns
returns c =
    let key = c.args.key in
    planned_by_row (layout_of key.found) (parts_found key.found) _ key.row_is (pos key.number) _ c.spelled_in-spelled.ensures _ c.plan_name.ensures
