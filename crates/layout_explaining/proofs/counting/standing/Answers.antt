-- The place and the key, from its sides.
use mathlib.Core.Path.{◌∙◌}
use mir.Syntax.{w64}
use mir.ValLaws.{to_z-of_z}
use Rattle.layout.proofs.Kept.{parts_found}
use Rattle.layout_explaining.proofs.Numbers.{standing_is}
use Rattle.layout_explaining.proofs.counting.standing.Goals as goal

pub sounded-requires : goal.sounded-requires
sounded-requires c = (parts_found c.args.found).positive

pub returns : goal.returns
returns c =
    let p = c.place_of in
    standing_is _ _ _ c.requires _ (to_z-of_z w64 p.result (record { sfits = p.type_inv }) ∙ p.ensures) _ c.sounded.ensures
