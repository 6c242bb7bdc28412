-- One more record is filled in each turn; at the end all are.
use Prim.Native.Nat.{ℕ, ◌+◌, ◌<◌}
use mathlib.Core.List.{List}
use mathlib.Core.Path.{◌≡◌, sym, ap, ◌∙◌}
use native.Mathlib.Omega.{arith}
use lib.ListN.{length, get_or, set}
use Rattle.answer.proofs.Passing.{passed_on}
use Rattle.layout.specs.Parts.{layout_in}
use Rattle.layout_sheet.specs.declared.Record.{Record}
use Rattle.layout_sheet.specs.declared.source.Source.{Source}
use Rattle.layout_sheet.specs.Parts.{source_outcome, filled_to}
use Rattle.layout_sheet.specs.Sheets.{record_in}
use Rattle.layout_sheet.proofs.Calls.{nothing_filled, all_filled}
use Rattle.layout_sheet.proofs.Changed.{changed_none, changed_next}
use Rattle.layout_sheet.proofs.fill_sheet.Goals as goal

-- one more record is filled
more : (s : Source) (i : ℕ) (xs ys : List Record) (d r : Record) → i < length xs → ys ≡ filled_to s i xs
    → r ≡ record_in (layout_in s.prepared) (get_or ys i d) → set ys i r ≡ filled_to s (i + 1) xs
more s i xs ys d r inside are is =
    ap (set ys i) is
    ∙ ap (λ (zs : List Record). set zs i (record_in (layout_in s.prepared) (get_or zs i d))) are
    ∙ changed_next (record_in (layout_in s.prepared)) i xs d inside

pub returns-in_err-source : goal.returns-in_err-source
returns-in_err-source c =
    rw (passed_on _ _ c.from_residual.ensures)
    (nothing_filled _ _ (sym (ap source_outcome c.in_err-source.was) ∙ c.source_of.ensures) _)

pub loop-record-init : goal.loop-record-init
loop-record-init c =
    record { on_strip = c.first_key-last.ensures; fills = sym (changed_none (record_in (layout_in c.in_ok-source.source.prepared)) c.args.records.now) }

pub key_asked-key-requires : goal.key_asked-key-requires
key_asked-key-requires c = c.loop-record.invariant.on_strip

pub loop-record-preserved : goal.loop-record-preserved
loop-record-preserved c =
    record {
      on_strip = c.key_asked-key.ensures.0;
      fills =
          more c.in_ok-source.source c.loop-record.record-index c.args.records.now _ _ _
          c.loop-record-test.true c.loop-record.invariant.fills c.record_at.ensures;
    }

pub returns : goal.returns
returns c =
    all_filled c.args.layout c.in_ok-source.source (sym (ap source_outcome c.in_ok-source.was) ∙ c.source_of.ensures)
    c.args.records.now _ _ _ (omega (arith, c.loop-record.auto.records))
    (omega (arith, c.loop-record.auto.record-index-end, c.loop-record-test.false)) c.loop-record.invariant.fills
