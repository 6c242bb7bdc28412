-- The plan of the key's spellings, by the letters of the row.
use Rattle.layout.proofs.Kept.{parts_found, made_ready}
use Rattle.genchain.proofs.TableRows.{table_row}
use Rattle.layout.proofs.Readiness.{planned_name}
use Rattle.layout.proofs.key_names.plan_name.Goals as goal

pub plan_name-requires : goal.plan_name-requires
plan_name-requires c =
    table_row _ _ (parts_found c.args.prepared.found).chain c.requires.0

pub returns : goal.returns
returns c =
    planned_name _ (made_ready c.args.prepared) _ c.requires.0 c.args.key _ c.spellings-spelled.ensures _ c.plan_name.ensures
