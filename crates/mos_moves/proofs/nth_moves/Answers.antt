use Prim.Native.Nat.{ℕ, ◌+◌, ◌-◌}
use native.Mathlib.Omega.{arith}
use mathlib.Core.Path.{◌≡◌, sym, ◌∙◌, subst}
use borrow.Author.Rules.{rules}
use Rattle.mos_moves.proofs.Going.{going_pattern, going_small}
use Rattle.mos_moves.proofs.Answering.{Descending, nth_start, nth_next, nth_here, nth_none, nth_passed}
use Rattle.mos_moves.proofs.nth_moves.Goals as goal

pub returns-in_err-genesis : goal.returns-in_err-genesis
returns-in_err-genesis c = nth_passed _ _ _ _ _ c.from_residual.ensures c.in_err-genesis.ensures

pub start-table-requires : goal.start-table-requires
start-table-requires c = c.in_ok-genesis.ensures.0

pub loop-init : goal.loop-init
loop-init c =
    let whole : c.args.k ≡ c.args.k - 0 = omega arith in
    subst (λ (n : ℕ). Descending c.args.period c.args.generator c.args.k c.in_ok-genesis.genesis.mos c.start-table.result n) whole
    (nth_start _ _ _ c.in_ok-genesis.ensures.0 _ _ c.in_ok-genesis.ensures.1 c.start-table.ensures)

pub returns-then-not-has_child : goal.returns-then-not-has_child
returns-then-not-has_child c =
    nth_none c.loop.invariant (let h : c.args.k - c.loop.counter ≡ 0 → ⊥ = (λ e. omega arith) in h)
    (sym c.has_child.ensures ∙ c.if-not-has_child.true) _

pub child_moves-next-requires : goal.child_moves-next-requires
child_moves-next-requires c =
    let d = c.loop.invariant in
    going_small _ _ d.positive (search rules) (search rules) _ _ d.going

pub child_of-pattern-requires : goal.child_of-pattern-requires
child_of-pattern-requires c =
    let d = c.loop.invariant in (
      going_pattern _ _ d.positive (search rules) (search rules) _ _ d.going,
      sym c.has_child.ensures ∙ c.if-not-has_child.false,
    )

pub loop-preserved : goal.loop-preserved
loop-preserved c =
    let less : c.args.k - c.loop.counter - 1 ≡ c.args.k - (c.loop.counter + 1) = omega arith in
    subst (λ (n : ℕ). Descending c.args.period c.args.generator c.args.k c.child_of-pattern.result c.child_moves-next.result n) less
    (nth_next c.loop.invariant (λ e. omega arith) c.child_of-pattern.ensures c.child_moves-next.ensures)

pub returns : goal.returns
returns c = let none : c.args.k - c.loop.counter ≡ 0 = omega arith in nth_here c.loop.invariant none _
