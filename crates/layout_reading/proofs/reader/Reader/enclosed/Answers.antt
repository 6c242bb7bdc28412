-- The parentheses, the stars, then what stands between.
use mathlib.Core.Path.{sym, ◌∙◌}
use native.Mathlib.Omega.{arith}
use Rattle.layout_reading.proofs.Texts.{place_found, place_missing}
use Rattle.layout_reading.proofs.Calls.{unclosed, unopened, not_all_stars, opened}
use Rattle.layout_reading.proofs.reader.Reader.enclosed.Goals as goal

pub returns-in_default : goal.returns-in_default
returns-in_default c = unclosed _ _ _ (place_missing _ _ (sym c.in_default.is ∙ c.place_of.ensures)) (omega arith)

pub returns-then-text-ne40 : goal.returns-then-text-ne40
returns-then-text-ne40 c =
    let at = place_found _ _ _ (sym c.in-Some.is ∙ c.place_of.ensures) in unopened _ _ _ at.0 at.1 c.if-text-ne40.true

pub returns-then-end-stars : goal.returns-then-end-stars
returns-then-end-stars c =
    let at = place_found _ _ _ (sym c.in-Some.is ∙ c.place_of.ensures) in
    not_all_stars _ _ _ at.0 at.1 _ c.run-stars.ensures c.if-end-stars.true

pub returns : goal.returns
returns c =
    let at = place_found _ _ _ (sym c.in-Some.is ∙ c.place_of.ensures) in
    opened _ _ _ at.0 at.1 _ c.run-stars.ensures c.if-text-ne40.false c.if-end-stars.false _ c.slashed.ensures
