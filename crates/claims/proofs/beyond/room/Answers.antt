use Rattle.notes.proofs.ShortNames.{names_are_short, names_are_not_empty}
use Rattle.layout_book.proofs.Theorems.{offsets_fit}
use Rattle.layout_table.proofs.Fitting.{tables_fit}
use Rattle.kbm_text.proofs.LineByLine.{mappings_fit}
use Rattle.layout_kbm.proofs.Natural.{files_fit}
use Rattle.claims.proofs.beyond.room.Goals as goal

pub returns : goal.returns
returns c = (names_are_short, names_are_not_empty, offsets_fit, tables_fit, mappings_fit, files_fit)
