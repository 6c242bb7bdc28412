-- The key, brought round the strip.
use mathlib.Core.Path.{refl, ap, ◌∙◌}
use native.Mathlib.Omega.{arith}
use mir.Syntax.{w32}
use Rattle.math.specs.Division.{remainder}
use Rattle.math.proofs.Division.{remainder_below}
use Rattle.math.proofs.Answers.{remainder_read}
use Rattle.layout.proofs.Kept.{made_ready}
use Rattle.layout_layers.proofs.PreparedPlans.{entries_positive, entry_found}
use Rattle.layout_sheet.proofs.parts.key_asked.Goals as goal

pub rem_u32-place-requires : goal.rem_u32-place-requires
rem_u32-place-requires c =
    let p = c.args.source.prepared in entries_positive p (made_ready p) c.args.number _ _ c.entry_count-count.ensures.0 refl

pub key_after-requires : goal.key_after-requires
key_after-requires c =
    let p = c.args.source.prepared in
    let round = remainder_read w32 c.args.number c.ranges.number _ _ c.rem_u32-place.ensures in
    let found = entry_found p (made_ready p) c.args.number _ _ c.entry_count-count.ensures.0 round in
    (found.0, c.requires.0, c.requires.1, found.1)

pub returns : goal.returns
returns c =
    let p = c.args.source.prepared in
    let key = c.args.number in
    let round = remainder_read w32 key c.ranges.number _ _ c.rem_u32-place.ensures in
    let after = c.key_after.ensures in
    let count = c.entry_count-count.ensures in
    let some = entries_positive p (made_ready p) key _ _ count.0 round in
    ((after.0, omega (arith, after.1, round, remainder_below key _ some, count.1)), after.1 ∙ round ∙ ap (remainder key) count.0)
