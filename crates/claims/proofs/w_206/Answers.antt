use Rattle.layout_lamps.proofs.Theorems.{home_changes_one_entry, one_home, home_keys}
use Rattle.claims.proofs.w_206.Goals as goal

pub returns : goal.returns
returns c = (home_changes_one_entry, one_home, home_keys)
