-- Question 16, then the nearest of the letter's keys.
use mathlib.Core.Path.{subst}
use lib.IntN.{ℤ}
use mir.Syntax.{w32}
use Rattle.math.proofs.Signed.{read_back_lem}
use Rattle.layout.proofs.Kept.{found_laid}
use Rattle.layout_reach.specs.Parts.{NearestFrom}
use Rattle.layout_reach.proofs.Nearest.{no_letter, letter_found}
use Rattle.layout_reach.proofs.parts.nearest_of_letter.Goals as goal

pub returns-then-found-letter : goal.returns-then-found-letter
returns-then-found-letter c = no_letter _ _ _ c.if-found-letter.true

pub returns : goal.returns
returns c =
    letter_found _ c.args.key _ (found_laid c.args.found) c.if-found-letter.false _
    (subst (λ (z : ℤ). NearestFrom c.args.found.octave c.args.found.generator c.args.found.start z c.args.letter c.nearest_from.result)
    (read_back_lem w32 c.args.key c.ranges.key) c.nearest_from.ensures)
