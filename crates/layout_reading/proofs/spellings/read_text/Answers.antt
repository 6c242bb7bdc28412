-- The letter, the marks, and whether a byte is left over.
use mathlib.Core.Path.{refl}
use mathlib.Core.Logic.{inl, inr}
use Rattle.layout_reading.proofs.WholeTexts.{no_letter, left_over, too_many, read_signed}
use Rattle.layout_reading.proofs.spellings.read_text.Goals as goal

pub returns-in_default : goal.returns-in_default
returns-in_default c = no_letter _ _ _ c.in_default.ensures

pub marks_from-marks-requires : goal.marks_from-marks-requires
marks_from-marks-requires c = c.in-Some.ensures.inside

pub returns-then-at-sharps : goal.returns-then-at-sharps
returns-then-at-sharps c = left_over _ _ _ _ c.in-Some.ensures _ c.marks_from-marks.ensures c.if-at-sharps.true

pub returns-then-sharps-flats : goal.returns-then-sharps-flats
returns-then-sharps-flats c = too_many _ _ _ _ c.in-Some.ensures _ c.marks_from-marks.ensures c.if-sharps-flats.true

pub returns-then-flats-eq0 : goal.returns-then-flats-eq0
returns-then-flats-eq0 c =
    read_signed _ _ _ _ c.in-Some.ensures _ c.marks_from-marks.ensures c.if-at-sharps.false c.if-sharps-flats.false _
    (inl (c.if-flats-eq0.true, refl))

pub returns-else-flats-eq0 : goal.returns-else-flats-eq0
returns-else-flats-eq0 c =
    read_signed _ _ _ _ c.in-Some.ensures _ c.marks_from-marks.ensures c.if-at-sharps.false c.if-sharps-flats.false _
    (inr (c.if-flats-eq0.false, refl))
