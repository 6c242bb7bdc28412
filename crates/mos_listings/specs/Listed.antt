-- The two walks by what they go along: the children of a pattern, and for the parents the children of its dual.
use Rattle.std.specs.Prelude.{List}
use Rattle.mos.specs.declared.Mos.{Mos}
use Rattle.mos.specs.Walks.{children}
use Rattle.mos_listings.specs.declared.Walk.{Walk}
use Rattle.mos_listings.specs.declared.Walk.TheVariants.{Children, Parents}
use Rattle.mos_listings.specs.Parts.{dual_parents}

-- The patterns of a walk.
abbrev pub walk_of : Walk → Mos → List Mos
walk_of Children m = children m
walk_of Parents m = dual_parents m
