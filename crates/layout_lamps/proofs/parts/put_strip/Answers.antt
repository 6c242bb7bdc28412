-- The codes, home over the first, and over the one at the octave where there is a second octave.
use Rattle.layout_layers.specs.Parts.{total_of}
use Rattle.layout_layers.proofs.PlanLaws.{counts_entries}
use Rattle.layout_lamps.proofs.StripLaws.{counted_within, strip_coded, first_inside, octave_inside, home_over, homes_over}
use Rattle.layout_lamps.proofs.parts.put_strip.Goals as goal

pub put_entries-requires : goal.put_entries-requires
put_entries-requires c = (counted_within c.args.plan _ c.total_of-total.ensures, c.requires)

pub bounds-out-0 : goal.bounds-out-0
bounds-out-0 c =
    let plan = c.args.plan in
    let codes = strip_coded plan _ c.args.out.now _ c.total_of-total.ensures c.put_entries.ensures in
    first_inside plan (total_of plan) plan.sound c.args.out.now _ codes c.requires

pub returns-then-entries-keys : goal.returns-then-entries-keys
returns-then-entries-keys c =
    let plan = c.args.plan in
    let codes = strip_coded plan _ c.args.out.now _ c.total_of-total.ensures c.put_entries.ensures in
    home_over plan (total_of plan) plan.sound c.args.out.now _ codes _ (counts_entries plan c.entries.ensures) c.if-entries-keys.true

pub bounds-out-keys : goal.bounds-out-keys
bounds-out-keys c =
    let plan = c.args.plan in
    let codes = strip_coded plan _ c.args.out.now _ c.total_of-total.ensures c.put_entries.ensures in
    octave_inside plan (total_of plan) plan.sound c.args.out.now _ codes c.requires _ (counts_entries plan c.entries.ensures) c.if-entries-keys.false

pub returns : goal.returns
returns c =
    let plan = c.args.plan in
    let codes = strip_coded plan _ c.args.out.now _ c.total_of-total.ensures c.put_entries.ensures in
    homes_over plan (total_of plan) plan.sound c.args.out.now _ codes _ (counts_entries plan c.entries.ensures) c.if-entries-keys.false
