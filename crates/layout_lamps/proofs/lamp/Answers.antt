-- Questions 1 to 4 and 18, then the lamp of the key round the strip.
use Rattle.answer.proofs.Passing.{passed_on}
use mir.Syntax.{w32}
use native.Mathlib.Omega.{arith}
use mathlib.Core.Path.{refl, sym, ap, ◌∙◌}
use Rattle.math.proofs.Answers.{remainder_read}
use Rattle.layout.specs.Parts.{found_outcome}
use Rattle.layout.proofs.Calls.{ready_given}
use Rattle.layout_layers.proofs.PreparedPlans.{entries_positive, entry_below, entry_found}
use Rattle.layout_lamps.proofs.Calls.{lamp_refused, lamp_answered}
use Rattle.layout_lamps.proofs.lamp.Goals as goal

pub rem_u32-place-requires : goal.rem_u32-place-requires
rem_u32-place-requires c =
    let ready = c.prepare-prepared in
    entries_positive ready.result ready.ensures.0 c.args.key _ _ c.entry_count-count.ensures.0 refl

pub key_at-asked-requires : goal.key_at-asked-requires
key_at-asked-requires c =
    let key = c.args.key in
    let ready = c.prepare-prepared in
    entry_found ready.result ready.ensures.0 key _ _ c.entry_count-count.ensures.0
    (remainder_read w32 key c.ranges.key _ _ c.rem_u32-place.ensures)

pub lamp_of-requires : goal.lamp_of-requires
lamp_of-requires c =
    let key = c.args.key in
    let ready = c.prepare-prepared in
    let asked = c.key_at-asked.ensures in
    let below = entry_below ready.result ready.ensures.0 key _ _ c.entry_count-count.ensures.0
    (remainder_read w32 key c.ranges.key _ _ c.rem_u32-place.ensures) in
    (c.total_of-total.ensures, asked.0, omega (arith, below, asked.1))

pub returns-in_err-found : goal.returns-in_err-found
returns-in_err-found c =
    rw (passed_on _ _ c.from_residual.ensures)
    (lamp_refused _ _ (sym (ap found_outcome c.in_err-found.was) ∙ c.ask.ensures) _)

pub returns : goal.returns
returns c =
    let key = c.args.key in
    let ready = c.prepare-prepared in
    let e = sym (ap found_outcome c.in_ok-found.was) ∙ c.ask.ensures in
    lamp_answered _ _ (ready_given _ _ e ready.result ready.ensures.1) key _ _ _ _ c.entry_count-count.ensures.0
    (remainder_read w32 key c.ranges.key _ _ c.rem_u32-place.ensures)
    c.key_at-asked.ensures.1 c.lamp_of.ensures
