-- The answers of the calls, one law for each way in which they end: question 2, the table's moves, the walk to the k-th pattern, question 10.
use Rattle.std.specs.Prelude.{Option, None, Some, slice_get, is_some, Result, IsErr, IsErrAnd}
use Prim.Native.Nat.{ℕ, ◌-◌, ◌≤◌}
use mathlib.Core.Path.{◌≡◌, refl, sym, ap, ◌∙◌, subst}
use mathlib.Core.Bool.{Bool, true, false}
use mathlib.Core.List.{List}
use native.Mathlib.Omega.{arith}
use lib.Dec.{leb}
use lib.IntN.{ℤ}
use lib.ListN.{length}
use borrow.Author.Tests.{leb-true, leb-false}
use Rattle.answer.specs.Outcome.{Outcome, given, refused}
use Rattle.answer.specs.Refusals.{outcome_of}
use Rattle.answer.specs.declared.Refusal.{Refusal}
use Rattle.answer.specs.declared.Refusal.TheVariants.{Period}
use Rattle.answer.proofs.Passing.{refusal_passed}
use Rattle.answer.specs.Lent.{in_room, Filled}
use Rattle.answer.proofs.Lent.{filled_refused, filled_short}
use Rattle.answer.proofs.Questions.{ask_none, ask_some}
use Rattle.text.specs.Writing.{Wrote}
use Rattle.text.proofs.Writing.{filled_whole}
use Rattle.mos.specs.declared.Mos.{Mos}
use Rattle.mos.specs.Answers.{genesis_outcome}
use Rattle.mos.specs.Patterns.{genesis, child_of}
use Rattle.mos.specs.Walks.{children, listed}
use Rattle.mos.proofs.Sequences.{child_here, child_later, child_never}
use Rattle.mos_moves.specs.Moves.{Table, child_moves, genesis_moves, moves_along, walk_moves, listed_moves}
use Rattle.mos_moves.specs.Answers.{table_after, Tabled, genesis_table, nth_outcome, nth_table, get_walk_moves}
use Rattle.mos_moves.proofs.Going.{Going, going_genesis, going_child}
use Rattle.mos_moves.proofs.Walking.{moves_here, moves_later, moves_never, walk_starts, as_long}

-- ---- lent tables

module _ {A : Type 0} {answer outcome : Outcome A} {table : Outcome (Option (Table ℤ))} {before : Table ℤ} where
  -- a refusal, and an answer without moves, with the table untouched
  pub tabled_refused : (n : ℕ) → answer ≡ outcome → table ≡ refused n → Tabled answer outcome table before before
  tabled_refused n e f = record { answered = e; content = sym (ap (λ (o : Outcome (Option (Table ℤ))). table_after o before) f) }

  pub tabled_none : answer ≡ outcome → table ≡ given None → Tabled answer outcome table before before
  tabled_none e f = record { answered = e; content = sym (ap (λ (o : Outcome (Option (Table ℤ))). table_after o before) f) }

  pub tabled_moves : (t : Table ℤ) → answer ≡ outcome → table ≡ given (Some t) → Tabled answer outcome table before t
  tabled_moves t e f = record { answered = e; content = sym (ap (λ (o : Outcome (Option (Table ℤ))). table_after o before) f) }

-- ---- the genesis

pub genesis_refused : (P G : ℕ) → P ≡ 0 → (before : Table ℤ) → Tabled (refused 2) (genesis_outcome P G) (genesis_table P G) before before
unfolding genesis_outcome genesis_table
genesis_refused P G e before = tabled_refused 2 (sym (ask_none 2 P _ e)) (ask_none 2 P _ e)

pub genesis_tabled : (P G : ℕ) → (P ≡ 0 → ⊥) → (m : Mos) (t before : Table ℤ) → m ≡ genesis P G → t ≡ genesis_moves P G
    → Tabled (given m) (genesis_outcome P G) (genesis_table P G) before t
unfolding genesis_outcome genesis_table
genesis_tabled P G h m t before e f =
    tabled_moves t (ap given e ∙ sym (ask_some 2 P _ h)) (ask_some 2 P _ h ∙ ap (λ (u : Table ℤ). given (Some u)) (sym f))

-- ---- the k-th pattern: what is left of the walk from here is what is left of it from the genesis

pub record Descending (P G k : ℕ) (m : Mos) (t : Table ℤ) (left : ℕ) : Type 0 where
  pub positive : 1 ≤ P
  pub going : Going P G m t
  pub pattern_left : slice_get (children m) left ≡ slice_get (children (genesis P G)) k
  pub moves_left : slice_get (moves_along (children m) t) left ≡ slice_get (walk_moves P G) k

pub nth_start : (P G k : ℕ) → 1 ≤ P → (m : Mos) (t : Table ℤ) → m ≡ genesis P G → t ≡ genesis_moves P G → Descending P G k m t k
nth_start P G k h m t e f =
    subst (λ (n : Mos). Descending P G k n t k) (sym e)
    (subst (λ (u : Table ℤ). Descending P G k (genesis P G) u k) (sym f)
    (record {
      positive = h;
      going = going_genesis P G h;
      pattern_left = refl;
      moves_left = ap (λ (l : List (Table ℤ)). slice_get l k) (walk_starts P G);
    }))

pub nth_refused : (P G k : ℕ) → P ≡ 0 → (before : Table ℤ) → Tabled (refused 2) (nth_outcome P G k) (nth_table P G k) before before
unfolding nth_outcome nth_table
nth_refused P G k e before = tabled_refused 2 (sym (ask_none 2 P _ e)) (ask_none 2 P _ e)

module _ {P G k : ℕ} {m : Mos} {t : Table ℤ} {left : ℕ} (d : Descending P G k m t left) where
  pub nth_next : (left ≡ 0 → ⊥) → {c : Mos} → child_of m ≡ Some c → {u : Table ℤ} → u ≡ child_moves m t → Descending P G k c u (left - 1)
  nth_next h {c} e f =
      subst (λ (x : Table ℤ). Descending P G k c x (left - 1)) (sym f)
      (record {
        positive = d.positive;
        going = going_child P G m c t e d.going;
        pattern_left = child_later m left c h e ∙ d.pattern_left;
        moves_left = moves_later m t left c h e ∙ d.moves_left;
      })

  some_period : P ≡ 0 → ⊥
  some_period z = omega (arith, d.positive)

  pattern_asked : (o : Option Mos) → o ≡ slice_get (children m) left → given o ≡ nth_outcome P G k
  unfolding nth_outcome
  pattern_asked o e = ap given (e ∙ d.pattern_left) ∙ sym (ask_some 2 P _ some_period)

  moves_asked : (o : Option (Table ℤ)) → o ≡ slice_get (moves_along (children m) t) left → nth_table P G k ≡ given o
  unfolding nth_table
  moves_asked o e = ask_some 2 P _ some_period ∙ ap given (sym (e ∙ d.moves_left))

  pub nth_here : left ≡ 0 → (before : Table ℤ) → Tabled (given (Some m)) (nth_outcome P G k) (nth_table P G k) before t
  nth_here e before =
      tabled_moves t (pattern_asked (Some m) (child_here m left e)) (moves_asked (Some t) (moves_here m t left e))

  pub nth_none : (left ≡ 0 → ⊥) → is_some (child_of m) ≡ false → (before : Table ℤ)
      → Tabled (given None) (nth_outcome P G k) (nth_table P G k) before before
  nth_none h e before =
      tabled_none (pattern_asked None (child_never m left h e)) (moves_asked None (moves_never m t left h e))

-- ---- the listing

pub walk_refused : (P G : ℕ) → P ≡ 0 → (xs : List ℤ) → Filled (in_room (length xs) (get_walk_moves P G)) (refused 2) xs xs
unfolding get_walk_moves
walk_refused P G e xs = filled_refused 2 xs (ap (in_room (length xs)) (ask_none 2 P _ e)) refl

module _ (P G : ℕ) (h : P ≡ 0 → ⊥) (xs : List ℤ) {m : Mos} (is : m ≡ genesis P G) {fit : Bool} (f : fit ≡ leb (length (listed (children m))) (length xs)) where
  asked : get_walk_moves P G ≡ given (listed_moves (walk_moves P G))
  unfolding get_walk_moves
  asked = ask_some 2 P _ h

  -- as many numbers as for the patterns
  fits : fit ≡ leb (length (listed_moves (walk_moves P G))) (length xs)
  fits =
      f
      ∙ ap (λ (n : Mos). leb (length (listed (children n))) (length xs)) is
      ∙ ap (λ (n : ℕ). leb n (length xs)) (sym (as_long P G))

  pub walk_room : fit ≡ true → length (listed_moves (walk_moves P G)) ≤ length xs
  walk_room e = leb-true (length (listed_moves (walk_moves P G))) (length xs) (sym fits ∙ e)

  pub walk_short : fit ≡ false → Filled (in_room (length xs) (get_walk_moves P G)) (refused 10) xs xs
  walk_short e = filled_short xs (listed_moves (walk_moves P G)) asked (leb-false (length (listed_moves (walk_moves P G))) (length xs) (sym fits ∙ e))

  pub walk_listed : fit ≡ true → {ys : List ℤ} {next : ℕ} → Wrote xs 0 (listed_moves (walk_moves P G)) ys next
      → Filled (in_room (length xs) (get_walk_moves P G)) (given next) xs ys
  walk_listed e w = filled_whole asked (walk_room e) w

-- ---- question 2, where `?` asks it

pub genesis_passed : (P G : ℕ) (before : Table ℤ) {q : Refusal} (r : Result Mos Refusal) → IsErr r × IsErrAnd r (λ (e : Refusal). e ≡ q) → (q ≡ Period) × (P ≡ 0)
    → Tabled (outcome_of r) (genesis_outcome P G) (genesis_table P G) before before
genesis_passed P G before {q} r h e = rw (refusal_passed q r h, e.0) (genesis_refused P G e.1 before)

pub nth_passed : (P G k : ℕ) (before : Table ℤ) {q : Refusal} (r : Result (Option Mos) Refusal) → IsErr r × IsErrAnd r (λ (e : Refusal). e ≡ q) → (q ≡ Period) × (P ≡ 0)
    → Tabled (outcome_of r) (nth_outcome P G k) (nth_table P G k) before before
nth_passed P G k before {q} r h e = rw (refusal_passed q r h, e.0) (nth_refused P G k e.1 before)

pub walk_passed : (P G : ℕ) (xs : List ℤ) {q : Refusal} (r : Result ℕ Refusal) → IsErr r × IsErrAnd r (λ (e : Refusal). e ≡ q) → (q ≡ Period) × (P ≡ 0)
    → Filled (in_room (length xs) (get_walk_moves P G)) (outcome_of r) xs xs
walk_passed P G xs {q} r h e = rw (refusal_passed q r h, e.0) (walk_refused P G e.1 xs)
