-- What a sheet comes to: one law for a layout that is refused, one for a layout that is found.
use Prim.Native.Nat.{ℕ}
use mathlib.Core.Path.{◌≡◌, refl, sym, ap, ◌∙◌}
use mathlib.Core.List.{List, [], ◌∷◌, ◌++◌, map}
use native.Mathlib.Omega.{arith}
use lib.ListN.{length, drop, length-map}
use Rattle.answer.specs.Outcome.{Outcome, given, refused, and_then}
use Rattle.answer.specs.Lent.{Filled, in_room, counted, written}
use Rattle.answer.proofs.Lent.{held}
use Rattle.layout.specs.declared.IsomorphicLayout.{IsomorphicLayout}
use Rattle.layout.specs.Layouts.{Layout, layout_outcome}
use Rattle.layout.specs.Parts.{layout_in}
use Rattle.layout.proofs.Calls.{of_refused, of_given}
use Rattle.layout_sheet.specs.declared.Record.{Record}
use Rattle.layout_sheet.specs.declared.source.Source.{Source}
use Rattle.layout_sheet.specs.Sheets.{record_in, sheet_in}
use Rattle.layout_sheet.specs.Answers.{get_sheet}
use Rattle.layout_sheet.specs.Parts.{filled_to}
use Rattle.layout_sheet.proofs.Changed.{changed_all}

pub sheet_refused : (r : IsomorphicLayout) (n : ℕ) → refused n ≡ layout_outcome r → (records : List Record) → refused n ≡ get_sheet r records
unfolding get_sheet
sheet_refused r n e records = of_refused r _ n e

pub sheet_given : (r : IsomorphicLayout) (l : Layout) → given l ≡ layout_outcome r → (records : List Record)
    → given (sheet_in l records) ≡ get_sheet r records
unfolding get_sheet
sheet_given r l e records = of_given r _ l e

-- nothing lies past a sheet, which is as long as its list
none_past : (f : Record → Record) (records : List Record) → map f records ≡ map f records ++ drop (length (map f records)) records
none_past f [] = refl
none_past f (x ∷ records) = ap (λ (l : List Record). f x ∷ l) (none_past f records)

-- a refused layout: no record is filled
pub nothing_filled : (r : IsomorphicLayout) (m : ℕ) → refused m ≡ layout_outcome r → (records : List Record)
    → Filled (get_sheet r records) (refused m) records records
nothing_filled r m e records =
    record {
      answered = ap counted (sheet_refused r m e records);
      content = ap (λ (o : Outcome (List Record)). written o records) (sheet_refused r m e records);
    }

-- an accepted layout: all are
pub all_filled : (r : IsomorphicLayout) (s : Source) → given (layout_in s.prepared) ≡ layout_outcome r → (records filled : List Record) (i n : ℕ)
    → n ≡ length records → i ≡ length records → filled ≡ filled_to s i records → Filled (get_sheet r records) (given n) records filled
all_filled r s e records filled i n long all are =
    let l = layout_in s.prepared in
    record {
      answered = ap given (long ∙ sym (length-map records (record_in l))) ∙ ap counted (sheet_given r l e records);
      content =
          are
          ∙ ap (λ (m : ℕ). filled_to s m records) all
          ∙ changed_all (record_in l) records
          ∙ none_past (record_in l) records
          ∙ ap (λ (o : Outcome (List Record)). written o records) (sheet_given r l e records);
    }

-- a sheet has room in its list
pub sheet_has_room : (r : IsomorphicLayout) (records : List Record) → in_room (length records) (get_sheet r records) ≡ get_sheet r records
unfolding get_sheet
sheet_has_room r records = by (layout_outcome r)
  where
    by : (o : Outcome Layout)
        → in_room (length records) (and_then o (λ (l : Layout). given (sheet_in l records))) ≡ and_then o (λ (l : Layout). given (sheet_in l records))
    by (given l) = held (length records) (sheet_in l records) (omega (arith, length-map records (record_in l)))
    by (refused n) = refl
