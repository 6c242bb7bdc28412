-- At the difference of the sides.
use Rattle.layout.proofs.Kept.{parts_found}
use Rattle.layout_reading.proofs.Keys.{key_is}
use Rattle.layout_reading.proofs.reader.Reader.key_of.Goals as goal

pub returns : goal.returns
returns c = key_is _ _ _ _ c.sides_of-sides.ensures.difference c.sounded.ensures

pub sounded-requires : goal.sounded-requires
sounded-requires c = (parts_found c.args.self.found).positive
