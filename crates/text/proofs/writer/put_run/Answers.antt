-- Up to a place so many copies stand from `at` on; at the end all.
use Prim.Native.Nat.{ℕ, ◌+◌, ◌-◌}
use mathlib.Core.Path.{◌≡◌, subst}
use native.Mathlib.Omega.{arith}
use lib.ListN.{length-replicate, replicate, set}
use Rattle.text.specs.Writing.{Wrote}
use Rattle.text.proofs.Writing.{wrote_none, run_more}
use Rattle.text.proofs.writer.put_run.Goals as goal

pub overflow_add-end : goal.overflow_add-end
overflow_add-end g c = omega (arith, length-replicate c.args.count c.args.element)

pub loop-place-init : goal.loop-place-init
loop-place-init g c =
    let none : 0 ≡ c.args.at - c.args.at = omega arith in
    subst (λ (n : ℕ). Wrote c.args.out.now c.args.at (replicate n c.args.element) c.args.out.now c.args.at) none (wrote_none _ _)

pub bounds-out-place : goal.bounds-out-place
bounds-out-place g c = omega (arith, length-replicate c.args.count c.args.element, c.loop-place.auto.out)

pub loop-place-preserved : goal.loop-place-preserved
loop-place-preserved g c =
    let loop = c.loop-place in
    let more : loop.place - c.args.at + 1 ≡ loop.place + 1 - c.args.at = omega (arith, loop.auto.place) in
    subst (λ (n : ℕ). Wrote c.args.out.now c.args.at (replicate n c.args.element) (set loop.out loop.place c.args.element) (loop.place + 1)) more
    (run_more (loop.place - c.args.at) c.args.element loop.invariant)

pub returns : goal.returns
returns g c =
    let loop = c.loop-place in
    let at_end : loop.place ≡ c.args.at + c.args.count = omega (arith, loop.auto.place-end, c.loop-place-test.false, loop.auto.place) in
    let all : loop.place - c.args.at ≡ c.args.count = omega arith in
    subst (λ (n : ℕ). Wrote c.args.out.now c.args.at (replicate c.args.count c.args.element) loop.out n) at_end
    (subst (λ (n : ℕ). Wrote c.args.out.now c.args.at (replicate n c.args.element) loop.out loop.place) all loop.invariant)
