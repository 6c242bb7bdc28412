-- After `turn` turns the place is that of the turn, its first name is due at `text`, and the pairs and names before it stand side by side.
use Rattle.layout_book.proofs.Turns.{Entering}
use Rattle.layout_book.proofs.naming.Naming.put_entries.Given as goal

abbrev pub invariant-loop-turn : goal.invariant-loop-turn
invariant-loop-turn l = Entering l.self.prepared l.initial.out l.places.cycle l.out l.pair l.text l.place l.turn
