-- One of the two runs is empty.
use Rattle.layout_reading.proofs.WholeTexts.{marks_inside, marks_found}
use Rattle.layout_reading.proofs.spellings.marks_from.Goals as goal

pub run-stars-requires : goal.run-stars-requires
run-stars-requires c = marks_inside c.args.sharp_first _ _ _ _ _ _ c.sharp_sign.ensures c.flat_sign.ensures c.run-sharps.ensures c.run-flats.ensures

pub returns : goal.returns
returns c = marks_found c.args.sharp_first _ _ _ _ _ _ c.sharp_sign.ensures c.flat_sign.ensures c.run-sharps.ensures c.run-flats.ensures _ c.run-stars.ensures
