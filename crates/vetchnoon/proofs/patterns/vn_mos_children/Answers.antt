-- The library filled the slice; the code is its count.
use mathlib.Core.Path.{subst}
use mir.Syntax.{w64}
use mir.Val.{to_z, of_z}
use Rattle.mos.specs.declared.Mos.{Mos}
use Rattle.mos.specs.Answers.{of_pattern}
use Rattle.mos.specs.Walks.{children, listed}
use Rattle.vetchnoon_codes.specs.Codes.{Fills}
use Rattle.vetchnoon_codes.proofs.Coding.{coded, fills_filled}
use Rattle.vetchnoon.proofs.Outputs.{listing_in_room}
use Rattle.vetchnoon.proofs.patterns.vn_mos_children.Goals as goal

pub returns : goal.returns
returns c =
    subst (λ (m : Mos). Fills (of_pattern m (listed (children m))) (to_z w64 (of_z w64 c.count.result)) c.args.out.now c.children.new.out) c.mos_of-mos.ensures
    (fills_filled (listing_in_room _ _ _) c.children.ensures (coded c.count.type_inv c.count.ensures))
