use Prim.Native.Nat.{ℕ}
use mathlib.Core.Path.{◌≡◌, sym, ap, ◌∙◌}
use native.Mathlib.Omega.{arith}
use lib.ListN.{length}
use Rattle.text.specs.Writing.{joined}
use Rattle.text.proofs.Joined.{joined_none, length_joined_more}
use Rattle.layout.specs.Parts.{layout_in}
use Rattle.layout.proofs.Kept.{made_ready}
use Rattle.layout.proofs.Readiness.{ready_walkable}
use Rattle.layout_table.specs.Parts.{numbers_in}
use Rattle.layout_table.proofs.Lines.{length_numbers}
use Rattle.layout_table.proofs.parts.numbers_length.Goals as goal

pub first-key-requires : goal.first-key-requires
first-key-requires c = ready_walkable _ (made_ready c.args.prepared)

pub loop-number-init : goal.loop-number-init
loop-number-init c =
    let first = c.first-key.ensures in
    (first.0, first.1, sym (ap length (joined_none (numbers_in (layout_in c.args.prepared)))), omega arith)

pub lamp_of-lamp-requires : goal.lamp_of-lamp-requires
lamp_of-lamp-requires c =
    let w = c.loop-number.invariant in
    (c.total_of-layers.ensures, w.0, omega (arith, w.1, c.loop-number-test.true))

pub overflow_add-total-in-loop-number-2 : goal.overflow_add-total-in-loop-number-2
overflow_add-total-in-loop-number-2 c =
    omega (arith, c.loop-number.invariant.3, c.loop-number-test.true, c.number_len.ensures.few, c.number_len-in-loop-number.ensures.few)

pub next-key-requires : goal.next-key-requires
next-key-requires c =
    let w = c.loop-number.invariant in
    (ready_walkable _ (made_ready c.args.prepared), w.0, omega (arith, w.1, c.loop-number-test.true))

pub loop-number-preserved : goal.loop-number-preserved
loop-number-preserved c =
    let lay = layout_in c.args.prepared in
    let k = c.loop-number.number in
    let w = c.loop-number.invariant in
    let x = c.number_len.ensures in
    let y = c.number_len-in-loop-number.ensures in
    let on = c.next-key.ensures in
    let lamp = rw w.1 at c.lamp_of-lamp.ensures in (
      on.0,
      omega (arith, on.1, w.1),
      omega (arith, w.2, x.is_length, y.is_length, length_joined_more (numbers_in lay) k, length_numbers lay k _ lamp),
      omega (arith, w.3, x.few, y.few),
    )

pub returns : goal.returns
returns c =
    let f = numbers_in (layout_in c.args.prepared) in
    let w = c.loop-number.invariant in
    let all : c.loop-number.number ≡ c.args.prepared.found.octave
    = omega (arith, c.loop-number.auto.number-end, c.loop-number-test.false) in
    (w.2 ∙ ap (λ (k : ℕ). length (joined f k)) all, omega (arith, w.3, all))
