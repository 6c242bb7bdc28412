-- After so many turns the total is the length of the letters before it.
use Rattle.layout_book.proofs.LettersRead.{LettersAdded}
use Rattle.layout_book.proofs.lengths.letters_length.Given as goal

abbrev pub invariant-loop-letter : goal.invariant-loop-letter
invariant-loop-letter l = LettersAdded l.fn.row l.letter-index l.total
