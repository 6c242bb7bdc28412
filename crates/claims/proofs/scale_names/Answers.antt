use Rattle.layout_scale_names.proofs.BySharpness.{scale_names_go_by_sharpness}
use Rattle.claims.proofs.scale_names.Goals as goal

pub returns : goal.returns
returns c = scale_names_go_by_sharpness
