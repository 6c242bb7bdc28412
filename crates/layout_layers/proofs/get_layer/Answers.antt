-- Questions 1 to 4 and 18, then the layer of the key round the entries.
use Rattle.answer.proofs.Passing.{passed_on}
use mir.Syntax.{w32}
use native.Mathlib.Omega.{arith}
use mathlib.Core.Path.{refl, sym, ap, ◌∙◌}
use Rattle.math.proofs.Answers.{remainder_read}
use Rattle.layout.specs.Parts.{found_outcome}
use Rattle.layout.proofs.Calls.{ready_given}
use Rattle.layout_layers.proofs.Calls.{layer_refused}
use Rattle.layout_layers.proofs.PreparedPlans.{entries_positive, entry_below, entry_found, layer_answered}
use Rattle.layout_layers.proofs.get_layer.Goals as goal

pub rem_u32-entry-requires : goal.rem_u32-entry-requires
rem_u32-entry-requires c =
    entries_positive c.prepare-prepared.result c.prepare-prepared.ensures.0 c.args.key _ _ c.entry_count-count.ensures.0 refl

pub key_at-asked-requires : goal.key_at-asked-requires
key_at-asked-requires c =
    let key = c.args.key in
    entry_found c.prepare-prepared.result c.prepare-prepared.ensures.0 key _ _ c.entry_count-count.ensures.0
    (remainder_read w32 key c.ranges.key _ _ c.rem_u32-entry.ensures)

pub number_of-requires : goal.number_of-requires
number_of-requires c =
    let key = c.args.key in
    let ready = c.prepare-prepared in
    let below = entry_below ready.result ready.ensures.0 key _ _ c.entry_count-count.ensures.0
    (remainder_read w32 key c.ranges.key _ _ c.rem_u32-entry.ensures) in
    (c.key_at-asked.ensures.0, omega (arith, below, c.key_at-asked.ensures.1))

pub returns-in_err-found : goal.returns-in_err-found
returns-in_err-found c =
    rw (passed_on _ _ c.from_residual.ensures)
    (layer_refused _ _ (sym (ap found_outcome c.in_err-found.was) ∙ c.ask.ensures) _)

pub returns : goal.returns
returns c =
    let key = c.args.key in
    let ready = c.prepare-prepared in
    let e = sym (ap found_outcome c.in_ok-found.was) ∙ c.ask.ensures in
    layer_answered ready.result ready.ensures.0 key _ _ c.entry_count-count.ensures.0
    (remainder_read w32 key c.ranges.key _ _ c.rem_u32-entry.ensures)
    _ (ready_given _ _ e ready.result ready.ensures.1) _ _ c.key_at-asked.ensures.1 c.number_of.ensures
