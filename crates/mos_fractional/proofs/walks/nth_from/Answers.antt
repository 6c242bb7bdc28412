use Prim.Native.Nat.{suc, ◌+◌, ◌-◌}
use Rattle.std.specs.Prelude.{slice_get}
use mathlib.Core.Path.{◌≡◌, sym, ap, ◌∙◌}
use native.Mathlib.Omega.{arith}
use Rattle.mos_fractional.specs.Walk.{children}
use Rattle.mos_fractional.proofs.Walking.{growing_child, nth_here, nth_end, nth_next}
use Rattle.mos_fractional.proofs.walks.nth_from.Goals as goal

pub loop-init : goal.loop-init
loop-init c = (c.requires, ap (slice_get (children c.args.m)) (let e : c.args.k - 0 ≡ c.args.k = omega arith in e))

pub returns-in_err-here : goal.returns-in_err-here
returns-in_err-here c =
    let at = c.loop in
    let some : c.args.k - at.counter ≡ 0 → ⊥ = (λ e. omega arith) in
    rw c.from_residual.ensures (nth_end at.here at.invariant.0 (c.args.k - at.counter) some (sym c.child.ensures ∙ c.in_err-here.was) ∙ at.invariant.1)

pub loop-preserved : goal.loop-preserved
loop-preserved c =
    let at = c.loop in
    let e = sym c.child.ensures ∙ c.in_ok-here.was in
    let one : c.args.k - at.counter ≡ suc (c.args.k - (at.counter + 1)) = omega arith in
    (growing_child at.here _ at.invariant.0 e, nth_next at.here at.invariant.0 _ (c.args.k - at.counter) _ e one ∙ at.invariant.1)

pub returns : goal.returns
returns c =
    let at = c.loop in
    let none : c.args.k - at.counter ≡ 0 = omega arith in
    nth_here at.here at.invariant.0 (c.args.k - at.counter) none ∙ at.invariant.1
