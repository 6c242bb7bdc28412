-- The answers of the calls, one law for each way in which they end; and that the calls undo each other.
use Prim.Native.Nat.{ℕ, ◌≤◌, ◌<◌}
use mathlib.Core.Path.{◌≡◌, refl, sym, ap, ◌∙◌}
use mathlib.Core.Bool.{Bool, true, false, ◌&&◌}
use mathlib.Core.List.{List}
use native.Mathlib.Omega.{arith}
use lib.Dec.{leb}
use lib.ListN.{length, take}
use borrow.Author.Tests.{le-leb, lt-leb, leb-true, leb-false}
use Rattle.answer.specs.Outcome.{Outcome, given, refused, ask, and_then}
use Rattle.answer.specs.Lent.{in_room, counted, written, Filled}
use Rattle.answer.proofs.Asked.{given_same, asked_yes, asked_rest, and_left, and_right}
use Rattle.answer.proofs.Lent.{held, not_held, filled_refused}
use Rattle.layout.specs.declared.IsomorphicLayout.{IsomorphicLayout}
use Rattle.layout.specs.Layouts.{Layout, layout_outcome}
use Rattle.layout.specs.Answers.{of_layout}
use Rattle.layout.specs.Parts.{layout_in, Ready}
use Rattle.layout.specs.declared.prepared.Prepared.{Prepared}
use Rattle.layout.proofs.Calls.{of_refused, of_given, filled_as, refused_in_room}
use Rattle.layout.proofs.Finding.{accepted, octave_is}
use Rattle.layout.proofs.Readiness.{parts_ready}
use Rattle.layout_order.specs.Answers.{ordered, get_chain_order, get_key_order}
use Rattle.layout_order.specs.Parts.{other, rearranged, order_of, ordered_in, get_order}
use Rattle.layout_order.specs.declared.parts.ListOrder.{ListOrder}
use Rattle.layout_order.specs.declared.parts.ListOrder.TheVariants.{Chain, Keys}
use Rattle.layout_order.specs.Theorems.{CallsUndoEachOther}
use Rattle.layout_order.proofs.Placing.{order_length, order_front, order_undone}

-- ---- question 10, of either list

pub entries_missing : (P n room : ℕ) → n < P → false ≡ (leb P n && leb P room)
entries_missing P n room h = sym (ap (λ (b : Bool). b && leb P room) (lt-leb P n h))

pub room_decides : (P n room : ℕ) → P ≤ n → leb P room ≡ (leb P n && leb P room)
room_decides P n room h = sym (ap (λ (b : Bool). b && leb P room) (le-leb P n h))

module _ (p : Prepared) (h : Ready p) (order : ListOrder) (entries xs : List ℕ) {test : Bool}
    (e : test ≡ (leb p.found.octave (length entries) && leb p.found.octave (length xs))) where
  abbrev P : ℕ
  P = p.found.octave

  abbrev output : List ℕ
  output = order_of order P p.found.generator entries

  many : length output ≡ P
  many = order_length order P p.found.generator (parts_ready p h).positive entries

  -- either is too short
  pub order_refused : test ≡ false → Filled (in_room (length xs) (ordered_in order entries (layout_in p))) (refused 10) xs xs
  order_refused f = filled_refused 10 xs (by (leb P (length entries)) (leb P (length xs)) (sym e ∙ f) refl) refl
    where
      by : (a b : Bool) → (a && b) ≡ false → leb P (length xs) ≡ b → in_room (length xs) (ask 10 a (given output)) ≡ refused 10
      by false b q d = refl
      by true b q d = not_held (length xs) output (omega (arith, many, leb-false P (length xs) (d ∙ q)))

  module _ (f : test ≡ true) where
    pub order_asks : (P ≤ length entries) × (P ≤ length xs)
    order_asks =
        let a = leb P (length entries) in
        let b = leb P (length xs) in
        (leb-true P (length entries) (and_left a b (sym e ∙ f)), leb-true P (length xs) (and_right a b (sym e ∙ f)))

    -- what the walk leaves is the output at the front
    pub order_given : {ys : List ℕ} → ys ≡ rearranged order P p.found.generator entries P xs
        → Filled (in_room (length xs) (ordered_in order entries (layout_in p))) (given P) xs ys
    order_given is =
        let asked : ordered_in order entries (layout_in p) ≡ given output = simp (le-leb P (length entries) order_asks.0) in
        let whole : in_room (length xs) (ordered_in order entries (layout_in p)) ≡ given output
        = ap (in_room (length xs)) asked ∙ held (length xs) output (omega (arith, many, order_asks.1)) in
        record {
          answered = ap given (sym many) ∙ sym (ap counted whole);
          content = is
              ∙ order_front order P p.found.generator (parts_ready p h).positive entries xs order_asks.1
              ∙ sym (ap (λ (o : Outcome (List ℕ)). written o xs) whole);
        }

-- ---- the calls

get_order_lem : (order : ListOrder) (r : IsomorphicLayout) (entries : List ℕ) → of_layout r (ordered_in order entries) ≡ get_order order r entries
unfolding get_order order_of get_chain_order get_key_order
get_order_lem Chain r entries = refl
get_order_lem Keys r entries = refl

module _ (order : ListOrder) (r : IsomorphicLayout) (entries xs : List ℕ) where
  pub call_refused : (n : ℕ) → refused n ≡ layout_outcome r → Filled (in_room (length xs) (get_order order r entries)) (refused n) xs xs
  call_refused n e =
      filled_refused n xs
      (refused_in_room (length xs) n (get_order order r entries) (of_refused r (ordered_in order entries) n e ∙ get_order_lem order r entries))
      refl

  pub call_given : (l : Layout) → given l ≡ layout_outcome r → {a : Outcome ℕ} {ys : List ℕ}
      → Filled (in_room (length xs) (ordered_in order entries l)) a xs ys → Filled (in_room (length xs) (get_order order r entries)) a xs ys
  call_given l e f = filled_as (ap (in_room (length xs)) (of_given r (ordered_in order entries) l e ∙ get_order_lem order r entries)) f

-- ---- each call undoes the other

-- what a call that gives a list tells of the layout and the list
ordered_tells : (P : ℕ) (entries wanted made : List ℕ) → ordered P entries made ≡ given wanted → (P ≤ length entries) × (made ≡ wanted)
ordered_tells P entries wanted made e = (
  leb-true P (length entries) (asked_yes 10 (leb P (length entries)) (given made) e),
  given_same (asked_rest 10 (leb P (length entries)) (given made) e),
)

call_undone : (order : ListOrder) (r : IsomorphicLayout) (entries output : List ℕ) → get_order order r entries ≡ given output
    → get_order (other order) r output ≡ given (take r.octave entries)
call_undone order r entries output e =
    sym (get_order_lem (other order) r output) ∙ by (layout_outcome r) refl (get_order_lem order r entries ∙ e)
  where
    by : (o : Outcome Layout) → layout_outcome r ≡ o → and_then o (ordered_in order entries) ≡ given output
        → and_then o (ordered_in (other order) output) ≡ given (take r.octave entries)
    by (refused n) q d = absurd (let z : ◌≡◌ {A = ℕ} 0 1 = cc in omega arith)
    by (given l) q d =
        let P = l.octave in
        let G = l.generator in
        let h = (accepted r l q).positive in
        let told = ordered_tells P entries output (order_of order P G entries) d in
        let room : P ≤ length output = omega (arith, order_length order P G h entries, ap length told.1) in
        let first : ordered P output (order_of (other order) P G output) ≡ given (order_of (other order) P G output)
        = simp (le-leb P (length output) room) in
        first
        ∙ ap given
        (ap (order_of (other order) P G) (sym told.1)
        ∙ order_undone order P G h entries told.0
        ∙ ap (λ (n : ℕ). take n entries) (octave_is r l q))

pub calls_undo_each_other : CallsUndoEachOther
unfolding get_order
calls_undo_each_other r entries output =
    record { chain_to_key = call_undone Chain r entries output; key_to_chain = call_undone Keys r entries output }
