-- With the chain's letters and the layout's signs.
use Rattle.layout.specs.Parts.{layout_of}
use Rattle.layout.proofs.Kept.{parts_found}
use Rattle.layout_reading.proofs.Calls.{row_asked, typed_in_lem}
use Rattle.layout_reading.proofs.reader.Reader.typed_spelling.Goals as goal

pub read_text-requires : goal.read_text-requires
read_text-requires c = let r = c.args.self in row_asked r.row (layout_of r.found) r.row_is (parts_found r.found).chain

pub returns : goal.returns
returns c =
    let r = c.args.self in
    typed_in_lem r.row (layout_of r.found) r.row_is (parts_found r.found).chain _ c.sharp_first.ensures _ _ c.read_text.ensures
