use Prim.Native.Nat.{◌+◌, ◌-◌}
use mathlib.Core.Path.{◌≡◌, refl, sym, ap, ◌∙◌}
use native.Mathlib.Omega.{arith}
use lib.ListN.{length}
use Rattle.text.specs.Writing.{joined}
use Rattle.text.proofs.Writing.{wrote_as, wrote_length}
use Rattle.text.proofs.Joined.{joined_start, joined_step, joined_room}
use Rattle.layout.specs.Names.{listed_name}
use Rattle.layout.specs.Parts.{layout_in}
use Rattle.layout.proofs.Kept.{made_ready}
use Rattle.layout.proofs.Readiness.{parts_ready, ready_walkable, found_twice, planned_text}
use Rattle.layout_table.specs.Tables.{line_in}
use Rattle.layout_table.specs.Parts.{line_from}
use Rattle.layout_table.proofs.Lines.{line_is}
use Rattle.layout_table.proofs.parts.put_lines.Goals as goal

pub key_at-key-requires : goal.key_at-key-requires
key_at-key-requires c =
    let ready = made_ready c.args.prepared in
    found_twice _ ready c.args.from (omega (arith, c.requires.0, (parts_ready _ ready).positive))

pub loop-number-init : goal.loop-number-init
loop-number-init c =
    let found = c.key_at-key.ensures in (
      found.0,
      found.1,
      wrote_as (ap (joined _) (let e : 0 ≡ c.args.from - c.args.from = omega arith in e)) (joined_start _ c.args.out.now 0),
      refl,
    )

pub plan_name-name-requires : goal.plan_name-name-requires
plan_name-name-requires c = (c.row-row.ensures, c.loop-number.invariant.0)

pub lamp_of-lamp-requires : goal.lamp_of-lamp-requires
lamp_of-lamp-requires c =
    let w = c.loop-number.invariant in
    let ready = made_ready c.args.prepared in
    (c.total_of-layers.ensures, w.0, omega (arith, w.1, c.loop-number-test.true, c.requires.0, (parts_ready _ ready).positive))

pub put_line-place-requires : goal.put_line-place-requires
put_line-place-requires c =
    let lay = layout_in c.args.prepared in
    let from = c.args.from in
    let w = c.loop-number.invariant in
    let name = planned_text c.args.prepared c.loop-number.key _ c.plan_name-name.ensures ∙ ap (listed_name lay) w.1 in
    let lamp = rw w.1 at c.lamp_of-lamp.ensures in
    let past = c.loop-number.number - from in
    let here : from + past ≡ c.loop-number.number = omega (arith, c.loop-number.auto.number) in
    let e = ap length (line_is lay c.loop-number.number _ _ name lamp ∙ ap (line_in lay) (sym here)) in
    let r = joined_room (line_from lay from) past c.args.count (omega (arith, c.loop-number-test.true, c.loop-number.auto.number)) w.2 c.requires.1 in
    (c.plan_name-name.ensures.short, omega (arith, e, r))

pub next-key-requires : goal.next-key-requires
next-key-requires c =
    let w = c.loop-number.invariant in
    (ready_walkable _ (made_ready c.args.prepared), w.0, omega (arith, w.1, c.loop-number-test.true, c.requires.0))

pub loop-number-preserved : goal.loop-number-preserved
loop-number-preserved c =
    let lay = layout_in c.args.prepared in
    let from = c.args.from in
    let i = c.loop-number.invariant in
    let name = planned_text c.args.prepared c.loop-number.key _ c.plan_name-name.ensures ∙ ap (listed_name lay) i.1 in
    let lamp = rw i.1 at c.lamp_of-lamp.ensures in
    let past = c.loop-number.number - from in
    let here : from + past ≡ c.loop-number.number = omega (arith, c.loop-number.auto.number) in
    let w = wrote_as (line_is lay c.loop-number.number _ _ name lamp ∙ ap (line_in lay) (sym here)) c.put_line-place.ensures in
    let on = c.next-key.ensures in (
      on.0,
      omega (arith, on.1, i.1),
      wrote_as (ap (joined _) (let e : past + 1 ≡ c.loop-number.number + 1 - from = omega (arith, c.loop-number.auto.number) in e))
          (joined_step _ _ i.2 w),
      wrote_length w ∙ i.3,
    )

pub shape_of-out : goal.shape_of-out
shape_of-out c = c.loop-number.invariant.3

pub returns : goal.returns
returns c =
    let all : c.loop-number.number - c.args.from ≡ c.args.count = omega (arith, c.loop-number.auto.number-end, c.loop-number-test.false) in
    wrote_as (ap (joined _) all) c.loop-number.invariant.2
