-- Question 10 of the count, then both runs.
use mir.Syntax.{w32}
use native.Mathlib.Omega.{arith}
use Rattle.math.proofs.Answers.{remainder_read}
use Rattle.text.proofs.Writing.{room_next}
use Rattle.layout_reach.proofs.Distances.{round_below}
use Rattle.layout_reach.proofs.Spans.{span_round, runs_fit, first_fits, reach_no_room, reach_written}
use Rattle.layout_reach.proofs.parts.write_reach.Goals as goal

pub returns-then-out-count : goal.returns-then-out-count
returns-then-out-count c = reach_no_room _ c.requires _ _ _ _ c.reach_count-count.ensures c.if-out-count.true

pub reach_span-span-requires : goal.reach_span-span-requires
reach_span-span-requires c =
    round_below _ c.requires c.args.key _ (remainder_read w32 c.args.key c.ranges.key _ _ c.rem_u16.ensures)

pub put_run-next-requires : goal.put_run-next-requires
put_run-next-requires c =
    let span = span_round _ c.args.key _ _ _ (remainder_read w32 c.args.key c.ranges.key _ _ c.rem_u16.ensures) c.reach_span-span.ensures in
    (first_fits _ c.args.key _ c.requires _ span c.args.out.now _ c.reach_count-count.ensures c.if-out-count.false, omega arith)

pub put_run-requires : goal.put_run-requires
put_run-requires c =
    let span = span_round _ c.args.key _ _ _ (remainder_read w32 c.args.key c.ranges.key _ _ c.rem_u16.ensures) c.reach_span-span.ensures in (
      room_next _ c.put_run-next.ensures
          (runs_fit _ c.args.key _ c.requires _ span c.args.out.now _ c.reach_count-count.ensures c.if-out-count.false),
      span.second,
    )

pub returns : goal.returns
returns c =
    let span = span_round _ c.args.key _ _ _ (remainder_read w32 c.args.key c.ranges.key _ _ c.rem_u16.ensures) c.reach_span-span.ensures in
    reach_written _ c.args.key _ c.requires _ span _ c.reach_count-count.ensures c.if-out-count.false
    c.put_run-next.ensures c.put_run.ensures
