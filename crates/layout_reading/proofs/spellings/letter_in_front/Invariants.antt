-- No letter before the place stands at the front.
use Rattle.genchain.specs.Chains.{letters_in}
use Rattle.layout_reading.proofs.WholeTexts.{Passed}
use Rattle.layout_reading.proofs.spellings.letter_in_front.Given as goal

abbrev pub invariant-loop-place : goal.invariant-loop-place
invariant-loop-place l = Passed (letters_in l.row) l.text l.place
