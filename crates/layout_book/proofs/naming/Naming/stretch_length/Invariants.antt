-- At each turn the spellings are those of the place, and the total is the length of the names before it.
use Rattle.layout_book.proofs.PlacesAlong.{Adding}
use Rattle.layout_book.proofs.naming.Naming.stretch_length.Given as goal

abbrev pub invariant-loop : goal.invariant-loop
invariant-loop l = Adding l.self.prepared l.sharps l.end l.counter l.spelled l.total
