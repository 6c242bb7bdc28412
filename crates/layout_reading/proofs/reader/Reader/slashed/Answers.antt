-- The two parts beside the slash.
use mathlib.Core.Path.{sym, ◌∙◌}
use lib.Seq.{length-take-le}
use native.Mathlib.Omega.{arith}
use Rattle.layout_reading.proofs.Texts.{place_found, place_missing}
use Rattle.layout_reading.proofs.Calls.{no_slash, slash}
use Rattle.layout_reading.proofs.reader.Reader.slashed.Goals as goal

pub returns-in_default : goal.returns-in_default
returns-in_default c = no_slash _ _ _ _ (place_missing _ _ (sym c.in_default.is ∙ c.place_of.ensures)) (omega arith)

pub slice_bounds-both-end : goal.slice_bounds-both-end
slice_bounds-both-end c = let at = place_found _ _ _ (sym c.in-Some.is ∙ c.place_of.ensures) in sym (length-take-le _ _ at.0.inside)

pub returns : goal.returns
returns c = let at = place_found _ _ _ (sym c.in-Some.is ∙ c.place_of.ensures) in slash _ _ _ _ at.0 at.1 _ c.both.ensures
