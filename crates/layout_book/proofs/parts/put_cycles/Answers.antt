use Prim.Native.Nat.{ℕ, ◌+◌, ◌-◌}
use native.Mathlib.Omega.{arith}
use mathlib.Core.Path.{◌≡◌, subst}
use Rattle.text.proofs.Joined.{length_joined_more, length_joined_le}
use Rattle.text.proofs.Writing.{wrote_as, wrote_length}
use Rattle.notes.specs.Parts.{starred_text}
use Rattle.layout_book.specs.Parts.{starred_pair}
use Rattle.layout_book.proofs.Due.{length_numbers, length_starred_pairs, numbers_starred}
use Rattle.layout_book.proofs.SideBySide.{beside_start, beside_room, beside_more, beside_length}
use Rattle.layout_book.proofs.parts.put_cycles.Invariants.{Written}
use Rattle.layout_book.proofs.parts.put_cycles.Goals as goal

pub loop-cycle-init : goal.loop-cycle-init
loop-cycle-init c = beside_start _ _ _ _ _

pub put_starred-next-requires : goal.put_starred-next-requires
put_starred-next-requires c = (
  c.requires.0,
  beside_room (starred_pair c.args.plan c.args.text) (starred_text c.args.plan) c.args.out.now c.args.pair c.args.text c.loop-cycle.cycle c.loop-cycle.invariant c.args.cycles c.loop-cycle-test.true c.requires.1.room,
)

-- behind the next name there is still room
pub overflow_cast-behind : goal.overflow_cast-behind
overflow_cast-behind c =
    omega (arith, c.loop-cycle.invariant.second.end, length_joined_le (starred_text c.args.plan) c.loop-cycle.cycle c.args.cycles (omega (arith, c.loop-cycle-test.true)), c.requires.1.small)

pub overflow_sub-next : goal.overflow_sub-next
overflow_sub-next c = omega (arith, c.put_starred-next.ensures.end)

pub overflow_cast-next : goal.overflow_cast-next
overflow_cast-next c =
    omega (
      arith,
      c.put_starred-next.ensures.end,
      length_joined_more (starred_text c.args.plan) c.loop-cycle.cycle,
      length_joined_le (starred_text c.args.plan) (c.loop-cycle.cycle + 1) c.args.cycles (omega (arith, c.loop-cycle-test.true)),
      c.requires.1.small,
    )

pub put_pair-front-requires : goal.put_pair-front-requires
put_pair-front-requires c =
    omega (
      arith,
      length_numbers c.loop-cycle.behind (c.put_starred-next.result - c.loop-cycle.behind),
      c.loop-cycle.invariant.first.end,
      length_starred_pairs c.args.plan c.args.text c.loop-cycle.cycle,
      c.loop-cycle-test.true,
      c.requires.1.apart,
      c.requires.1.room,
      beside_length c.loop-cycle.invariant,
      wrote_length c.put_starred-next.ensures,
    )

pub loop-cycle-preserved : goal.loop-cycle-preserved
loop-cycle-preserved c =
    let w = c.put_starred-next.ensures in
    let plan = c.args.plan in
    let text = c.args.text in
    let more = c.loop-cycle-test.true in
    let v = wrote_as (numbers_starred plan text c.loop-cycle.cycle c.loop-cycle.behind _ c.loop-cycle.invariant.second.end w.end) c.put_pair-front.ensures in
    beside_more (starred_pair plan text) (starred_text plan) _ c.args.pair text c.loop-cycle.cycle c.loop-cycle.invariant w v
    (omega (arith, c.loop-cycle.invariant.first.end, length_joined_more (starred_pair plan text) c.loop-cycle.cycle, length_starred_pairs plan text c.loop-cycle.cycle, length_starred_pairs plan text (c.loop-cycle.cycle + 1), more, c.requires.1.apart))

pub shape_of-out : goal.shape_of-out
shape_of-out c = beside_length c.loop-cycle.invariant

pub returns : goal.returns
returns c =
    let plan = c.args.plan in
    let done : c.loop-cycle.cycle ≡ c.args.cycles = omega (arith, c.loop-cycle.auto.cycle-end, c.loop-cycle-test.false) in
    let all = subst (λ (k : ℕ). Written plan c.args.pair c.args.text c.args.out.now k c.loop-cycle.out c.loop-cycle.front c.loop-cycle.behind) done c.loop-cycle.invariant in
    subst (λ (k : ℕ). Written plan c.args.pair c.args.text c.args.out.now c.args.cycles c.loop-cycle.out k c.loop-cycle.behind)
    (omega (arith, all.first.end, length_starred_pairs plan c.args.text c.args.cycles)) all
