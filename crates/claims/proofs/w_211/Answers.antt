use Rattle.layout.proofs.FewestSigns.{names_have_fewest_signs}
use Rattle.claims.proofs.w_211.Goals as goal

pub returns : goal.returns
returns c = names_have_fewest_signs
