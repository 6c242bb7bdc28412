-- The place that is found lies in the book, and the part from its start to its end is the one at the place; a refusal is handed on.
use mathlib.Core.Path.{◌≡◌, ap, ◌∙◌}
use mir.Syntax.{w32}
use mir.Val.{SFits, to_z, of_z}
use mathlib.Core.List.{List}
use Prim.Native.Nat.{ℕ}
use lib.IntN.{ℤ}
use Rattle.answer.specs.Outcome.{Outcome}
use Rattle.answer.proofs.Passing.{passed_on}
use Rattle.math.proofs.Signed.{read_back_lem}
use Rattle.book.specs.declared.Place.{Place}
use Rattle.book.specs.Books.{find_outcome}
use Rattle.book.specs.Lookups.{slice}
use Rattle.book.proofs.Lookup.{place_inside, part_found, lookup_refused}
use Rattle.book.proofs.name.Goals as goal

-- the key that is looked up is the one that was passed
as_passed : {a : Outcome Place} (bytes : List ℕ) (key : ℤ) → SFits w32 key → a ≡ find_outcome bytes (to_z w32 (of_z w32 key)) → a ≡ find_outcome bytes key
as_passed bytes key fits e = e ∙ ap (find_outcome bytes) (read_back_lem w32 key fits)

pub part_between-requires : goal.part_between-requires
part_between-requires c = place_inside _ c.args.key _ (as_passed _ c.args.key c.ranges.key c.in_ok-place.ensures)

pub returns : goal.returns
returns c = part_found (slice c.args.book) c.args.key _ _ (as_passed _ c.args.key c.ranges.key c.in_ok-place.ensures) c.part_between.ensures

pub returns-in_err-place : goal.returns-in_err-place
returns-in_err-place c =
    rw (passed_on _ _ c.from_residual.ensures)
    (lookup_refused (slice c.args.book) c.args.key _ (as_passed _ c.args.key c.ranges.key c.in_err-place.ensures))
