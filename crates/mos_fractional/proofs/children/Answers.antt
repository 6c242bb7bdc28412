-- Nothing of a pattern's fields is used: it is stored whole, and passed whole to `child`.
use Rattle.std.specs.Prelude.{None, Some}
use mathlib.Core.List.{List}
use mathlib.Core.Path.{◌≡◌, sym, ap, subst, ◌∙◌}
use native.Mathlib.Omega.{arith}
use Prim.Native.Nat.{ℕ, ◌+◌, ◌<◌, ◌≤◌, zero-le}
use lib.Ieee.{Float}
use lib.ListN.{length, set}
use Rattle.answer.specs.Lent.{Filled}
use Rattle.answer.specs.Outcome.{Outcome}
use Rattle.mos_fractional.specs.declared.FractionalMos.{FractionalMos}
use Rattle.mos_fractional.specs.Answers.{listing_outcome}
use Rattle.mos_fractional.specs.Parts.{next_turn, Turns, answered_of}
use Rattle.mos_fractional.proofs.Storing.{Turn, nth_turn, nth_turn_none, nth_turn_more, stored, stored_none, stored_more, still_stores, no_more_stored, listed, listed_fits, listing_filled}
use Rattle.mos_fractional.proofs.children.Goals as goal

module _ (g : Float) (xs : List FractionalMos) (first turn : Turn) (begins : Turns first (listed g (length xs))) (i : ℕ)
    (within : i ≤ length (listed g (length xs))) (is : turn ≡ nth_turn i first) where
  -- a turn that stores a pattern comes before the end
  less : (p : FractionalMos) → turn ≡ Some p → i < length (listed g (length xs))
  less p does = still_stores begins i within p (sym is ∙ does)

  -- a turn that stores none is the last
  all : turn ≡ None → i ≡ length (listed g (length xs))
  all ends = no_more_stored begins i within (sym is ∙ ends)

  module _ (ys : List FractionalMos) (are : ys ≡ stored i first xs) where
    -- one more pattern is stored
    more : (p : FractionalMos) → turn ≡ Some p → i < length xs → set ys i p ≡ stored (i + 1) first xs
    more p does inside =
        ap (λ (zs : List FractionalMos). set zs i p) are ∙ stored_more i first xs p (sym is ∙ does) inside

    -- the whole listing is stored, and its answer is told
    whole : turn ≡ None → {o : Outcome ℕ} → o ≡ answered_of g i → Filled (listing_outcome g (length xs)) o xs ys
    whole ends {o} told =
        let m = length (listed g (length xs)) in
        let content : ys ≡ stored m first xs = are ∙ ap (λ (k : ℕ). stored k first xs) (all ends) in
        let answered : o ≡ answered_of g m = told ∙ ap (answered_of g) (all ends) in
        subst (λ (p : Outcome ℕ). Filled (listing_outcome g (length xs)) p xs ys) (sym answered)
        (subst (Filled (listing_outcome g (length xs)) (answered_of g m) xs) (sym content) (listing_filled g xs first begins))

pub loop-turn-init : goal.loop-turn-init
loop-turn-init c =
    record {
      within = zero-le;
      turns = nth_turn_none c.first-turn.result;
      stores = sym (stored_none c.first-turn.result c.args.out.now);
    }

pub bounds-out-i : goal.bounds-out-i
bounds-out-i c =
    let t = c.loop-turn.invariant in
    omega (
      arith,
      less c.args.generator c.args.out.now _ _ c.first-turn.ensures _ t.within t.turns _ c.in-Some.is,
      listed_fits c.args.generator (length c.args.out.now),
    )

pub loop-turn-smaller : goal.loop-turn-smaller
loop-turn-smaller c =
    let t = c.loop-turn.invariant in
    omega (arith, less c.args.generator c.args.out.now _ _ c.first-turn.ensures _ t.within t.turns _ c.in-Some.is)

pub loop-turn-preserved : goal.loop-turn-preserved
loop-turn-preserved c =
    let t = c.loop-turn.invariant in
    let here = less c.args.generator c.args.out.now _ _ c.first-turn.ensures _ t.within t.turns _ c.in-Some.is in
    let inside : c.loop-turn.i < length c.args.out.now = omega (arith, here, listed_fits c.args.generator (length c.args.out.now)) in
    record {
      within = omega (arith, here);
      turns = c.child-turn.ensures ∙ ap next_turn (sym c.in-Some.is ∙ t.turns) ∙ nth_turn_more c.loop-turn.i c.first-turn.result;
      stores = more c.args.generator c.args.out.now _ _ c.first-turn.ensures _ t.within t.turns _ t.stores _ c.in-Some.is inside;
    }

pub returns : goal.returns
returns c =
    let t = c.loop-turn.invariant in
    whole c.args.generator c.args.out.now _ _ c.first-turn.ensures _ t.within t.turns _ t.stores c.in_default.is c.answer.ensures
