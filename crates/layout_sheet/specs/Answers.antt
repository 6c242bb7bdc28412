-- What the call answers: questions 1 to 4 and 18 of the layout, then the filled records, as many as were lent; "an empty list is fine". The
-- list is its own room, so question 10 is not asked.
use Rattle.std.specs.Prelude.{List}
use Rattle.answer.specs.Outcome.{Outcome, given}
use Rattle.layout.specs.declared.IsomorphicLayout.{IsomorphicLayout}
use Rattle.layout.specs.Layouts.{Layout, layout_outcome}
use Rattle.layout.specs.Answers.{of_layout}
use Rattle.layout_sheet.specs.declared.Record.{Record}
use Rattle.layout_sheet.specs.Sheets.{record_in, sheet_in}

unfoldable pub get_sheet : IsomorphicLayout → List Record → Outcome (List Record)
unfolding layout_outcome record_in
get_sheet r records = of_layout r (λ (l : Layout). given (sheet_in l records))
