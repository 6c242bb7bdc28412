-- After i turns the first i records are filled, and the others as they were (`filled_to`); the key at hand is one that the walk goes on from.
use mathlib.Core.Path.{◌≡◌}
use Rattle.layout_sheet.specs.Parts.{OnStrip, filled_to}
use Rattle.layout_sheet.proofs.fill_sheet.Given as goal

abbrev pub invariant-loop-record : goal.invariant-loop-record
invariant-loop-record l =
    record {
      on_strip : OnStrip l.source l.last;
      fills : l.records ≡ filled_to l.source l.record-index l.initial.records;
    }
