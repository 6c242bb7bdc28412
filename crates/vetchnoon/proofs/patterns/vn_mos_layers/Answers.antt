-- The library filled the slice; the code is its count.
use mathlib.Core.Path.{subst}
use mir.Syntax.{w64}
use mir.Val.{to_z, of_z}
use Rattle.mos.specs.declared.Mos.{Mos}
use Rattle.mos.specs.Answers.{of_pattern}
use Rattle.mos_layers.specs.Layers.{layers_of}
use Rattle.vetchnoon_codes.specs.Codes.{Fills}
use Rattle.vetchnoon_codes.proofs.Coding.{coded, fills_filled}
use Rattle.vetchnoon.proofs.Outputs.{layers_in_room}
use Rattle.vetchnoon.proofs.patterns.vn_mos_layers.Goals as goal

pub returns : goal.returns
returns c =
    subst (λ (m : Mos). Fills (of_pattern m (layers_of m)) (to_z w64 (of_z w64 c.count.result)) c.args.out.now c.get_layers.new.out) c.mos_of-mos.ensures
    (fills_filled (layers_in_room _ _) c.get_layers.ensures (coded c.count.type_inv c.count.ensures))
