-- The letter of key 0 is the layout's.
use mathlib.Core.Path.{refl}
use Rattle.layout.specs.Parts.{layout_of}
use Rattle.layout.proofs.Kept.{parts_found}
use Rattle.layout_reading.proofs.Calls.{row_asked}
use Rattle.layout_explaining.proofs.Calls.{start_letter}
use Rattle.layout_explaining.proofs.counting_in.Goals as goal

pub letter_at-requires : goal.letter_at-requires
letter_at-requires c =
    let r = c.args.reader in row_asked r.row (layout_of r.found) r.row_is (parts_found r.found).chain

pub returns : goal.returns
returns c =
    let r = c.args.reader in
    record {
      letter_is = start_letter r.row (layout_of r.found) r.row_is (parts_found r.found).chain _ c.letter_at.ensures.0;
      generator_is = refl;
      octave_is = refl;
    }
