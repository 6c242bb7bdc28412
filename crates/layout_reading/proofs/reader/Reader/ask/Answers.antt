-- What holds of an accepted layout, and of its row.
use mathlib.Core.Path.{sym, ap, ◌∙◌}
use Rattle.layout.specs.Parts.{layout_of, found_outcome}
use Rattle.layout.proofs.Calls.{row_found}
use Rattle.layout.proofs.Kept.{parts_found}
use Rattle.layout_reading.proofs.Calls.{cycles_are}
use Rattle.layout_reading.proofs.reader.Reader.ask.Goals as goal

pub invariant_of-result : goal.invariant_of-result
invariant_of-result c =
    let found = sym (ap found_outcome c.in_ok-found.was) ∙ c.ask_with_row.ensures in
    record {
      row_is = row_found _ _ found _ c.row-row.ensures;
      cycles_are =
          cycles_are (layout_of c.in_ok-found.found) (parts_found c.in_ok-found.found).positive _ c.gcd_u16-cycles.ensures.is;
    }
