-- Patterns stored one after the other at the front of a slice, turn by turn: those of a walk make up the walk, and a turn that stores nothing
-- comes after the last.
use Rattle.std.specs.Prelude.{Option, None, Some}
use mathlib.Core.Path.{◌≡◌, refl, ap, sym, subst, ◌∙◌}
use mathlib.Core.Bool.{Bool, true, false}
use mathlib.Core.List.{List, [], ◌∷◌, ◌++◌}
use Prim.Native.Nat.{ℕ, zero, suc, ◌+◌, ◌≤◌, ◌<◌, zero-le}
use native.Mathlib.Nat.{le_refl}
use native.Mathlib.Omega.{arith}
use lib.Dec.{leb, ltb}
use lib.Ieee.{Float}
use lib.ListN.{length, drop, set}
use borrow.Author.Tests.{leb-true, lt-ltb, le-ltb}
use Rattle.answer.specs.Choice.{pick}
use Rattle.answer.specs.Outcome.{Outcome, given, refused, ask}
use Rattle.answer.specs.Lent.{held_in, Filled}
use Rattle.answer.proofs.Lent.{held, not_held}
use Rattle.mos_fractional.specs.declared.FractionalMos.{FractionalMos}
use Rattle.mos_fractional.specs.Fractional.{is_finite, genesis, child_of}
use Rattle.mos_fractional.specs.Walk.{children, children_from}
use Rattle.mos_fractional.specs.Answers.{genesis_outcome, listing_outcome}
use Rattle.mos_fractional.specs.Parts.{Growing, next_turn, Turns, ended, turned, stored_of, answered_of}
use Rattle.mos_fractional.proofs.Descent.{told_genesis, told_finite, same_refusal}
use Rattle.mos_fractional.proofs.Walking.{left, growing_child, fewer_left, growing_genesis, children_next, children_end, length_some}

-- ---- one turn after the other

abbrev pub Turn : Type 0
Turn = Option FractionalMos

pub nth_turn : ℕ → Turn → Turn
nth_turn zero t = t
nth_turn (suc i) t = nth_turn i (next_turn t)

nth_turn_suc : (i : ℕ) (t : Turn) → next_turn (nth_turn i t) ≡ nth_turn (suc i) t
unfolding nth_turn
nth_turn_suc zero t = refl
nth_turn_suc (suc i) t = nth_turn_suc i (next_turn t)

pub nth_turn_none : (t : Turn) → t ≡ nth_turn 0 t
unfolding nth_turn
nth_turn_none t = refl

pub nth_turn_more : (i : ℕ) (t : Turn) → next_turn (nth_turn i t) ≡ nth_turn (i + 1) t
nth_turn_more i t = nth_turn_suc i t ∙ ap (λ (k : ℕ). nth_turn k t) (let e : suc i ≡ i + 1 = omega arith in e)

-- past the end nothing is stored
none_after : (i : ℕ) → nth_turn i None ≡ None
unfolding nth_turn
none_after zero = refl
none_after (suc i) = none_after i

some_none : {A : Type 0} {p : FractionalMos} → None ≡ Some p → A
some_none e = absurd (let z : ◌≡◌ {A = ℕ} 0 1 = cc in omega arith)

-- a slice after so many turns
pub stored : ℕ → Turn → List FractionalMos → List FractionalMos
stored zero t slice = slice
stored (suc i) t [] = []
stored (suc i) None (x ∷ slice) = x ∷ slice
stored (suc i) (Some m) (x ∷ slice) = m ∷ stored i (child_of m) slice

pub stored_none : (t : Turn) (xs : List FractionalMos) → stored 0 t xs ≡ xs
unfolding stored
stored_none t xs = refl

stored_suc : (i : ℕ) (t : Turn) (xs : List FractionalMos) (p : FractionalMos) → nth_turn i t ≡ Some p → i < length xs → set (stored i t xs) i p ≡ stored (suc i) t xs
unfolding stored nth_turn
stored_suc zero t [] p e h = absurd (let z : ⊥ = omega arith in z)
stored_suc zero None (x ∷ xs) p e h = some_none e
stored_suc zero (Some m) (x ∷ xs) p e h = ap (λ (q : FractionalMos). q ∷ xs) (let same : p ≡ m = cc in same)
stored_suc (suc i) t [] p e h = absurd (let z : ⊥ = omega arith in z)
stored_suc (suc i) None (x ∷ xs) p e h = some_none (sym (none_after i) ∙ e)
stored_suc (suc i) (Some m) (x ∷ xs) p e h = ap (λ (l : List FractionalMos). m ∷ l) (stored_suc i (child_of m) xs p e (omega arith))

pub stored_more : (i : ℕ) (t : Turn) (xs : List FractionalMos) (p : FractionalMos) → nth_turn i t ≡ Some p → i < length xs → set (stored i t xs) i p ≡ stored (i + 1) t xs
stored_more i t xs p e h = stored_suc i t xs p e h ∙ ap (λ (k : ℕ). stored k t xs) (let e : suc i ≡ i + 1 = omega arith in e)

-- ---- the turns that store a list: what the loop's test tells, and what is stored at the end

pub still_stores : {t : Turn} {ms : List FractionalMos} → Turns t ms → (i : ℕ) → i ≤ length ms → (p : FractionalMos) → nth_turn i t ≡ Some p → i < length ms
unfolding nth_turn
still_stores ended zero h p e = some_none e
still_stores ended (suc i) h p e = absurd (let z : ⊥ = omega arith in z)
still_stores (turned m ms t) zero h p e = omega arith
still_stores (turned m ms t) (suc i) h p e = let l : i < length ms = still_stores t i (omega arith) p e in omega (arith, l)

pub no_more_stored : {t : Turn} {ms : List FractionalMos} → Turns t ms → (i : ℕ) → i ≤ length ms → nth_turn i t ≡ None → i ≡ length ms
unfolding nth_turn
no_more_stored ended zero h e = refl
no_more_stored ended (suc i) h e = absurd (let z : ⊥ = omega arith in z)
no_more_stored (turned m ms t) zero h e = some_none (sym e)
no_more_stored (turned m ms t) (suc i) h e = ap suc (no_more_stored t i (omega arith) e)

stored_all : {t : Turn} {ms : List FractionalMos} → Turns t ms → (xs : List FractionalMos) → length ms ≤ length xs
    → stored (length ms) t xs ≡ ms ++ drop (length ms) xs
unfolding stored
stored_all ended xs h = refl
stored_all (turned m ms t) [] h = absurd (let z : ⊥ = omega arith in z)
stored_all (turned m ms t) (x ∷ xs) h = ap (λ (l : List FractionalMos). m ∷ l) (stored_all t xs (omega arith))

-- ---- the turns of a walk

walk_step : (m : FractionalMos) → Growing m → ((c : FractionalMos) → Growing c → left c < left m → Turns (Some c) (children c))
    → (o : Option FractionalMos) → child_of m ≡ o → Turns (Some m) (children m)
walk_step m u ih None e =
    subst (Turns (Some m)) (sym (children_end m u e)) (turned m [] (subst (λ (o : Option FractionalMos). Turns o []) (sym e) ended))
walk_step m u ih (Some c) e =
    subst (Turns (Some m)) (sym (children_next m u c e))
    (turned m (children c) (subst (λ (o : Option FractionalMos). Turns o (children c)) (sym e) (ih c (growing_child m c u e) (fewer_left m c u e))))

walk_within : (k : ℕ) (m : FractionalMos) → Growing m → left m ≤ k → Turns (Some m) (children m)
walk_within zero m u l = walk_step m u (λ c v f. absurd (let z : ⊥ = omega arith in z)) (child_of m) refl
walk_within (suc k) m u l = walk_step m u (λ c v f. walk_within k c v (omega arith)) (child_of m) refl

-- ---- a listing begins, by what the code tests

abbrev pub listed : Float → ℕ → List FractionalMos
listed g room = stored_of (listing_outcome g room)

module _ (g : Float) (room : ℕ) where
  no_turns : (n : ℕ) → listing_outcome g room ≡ refused n → Turns None (listed g room)
  no_turns n e = subst (λ (o : Outcome (List FractionalMos)). Turns None (stored_of o)) (sym e) ended

  -- no number
  pub begins_refused : {n : ℕ} → refused n ≡ genesis_outcome g → Turns None (listed g room)
  begins_refused {n} e = no_turns n (sym (same_refusal g (held_in room (children_from g)) e))

  module _ (m : FractionalMos) (e : given m ≡ genesis_outcome g) where
    same_length : length (children m) ≡ length (children_from g)
    same_length = ap (λ (x : FractionalMos). length (children x)) (told_genesis g e)

    -- too short
    pub begins_short : room < length (children m) → Turns None (listed g room)
    begins_short l =
        let short : held_in room (children_from g) ≡ refused 10 = not_held room (children_from g) (omega (arith, same_length, l)) in
        no_turns 10 (simp (told_finite g e) short)

    -- all of them
    pub begins_whole : length (children_from g) ≤ room → Turns (Some m) (listed g room)
    begins_whole l =
        let o : listing_outcome g room ≡ given (children_from g) = simp (told_finite g e) (held room (children_from g) l) in
        subst (λ (p : Outcome (List FractionalMos)). Turns (Some m) (stored_of p)) (sym o)
        (subst (λ (x : FractionalMos). Turns (Some x) (children_from g)) (sym (told_genesis g e))
        (walk_within (left (genesis g)) (genesis g) (growing_genesis g) (le_refl _)))

    pub begins_counted : length (children m) ≤ room → Turns (Some m) (listed g room)
    begins_counted l = begins_whole (omega (arith, same_length, l))

-- ---- a listing has ended: by the answers to its two questions

abbrev outcome : Bool → Bool → List FractionalMos → Outcome (List FractionalMos)
outcome finite fits ms = ask 22 finite (ask 10 fits (given ms))

fits_by : (room : ℕ) (ms : List FractionalMos) (x y : Bool) → leb (length ms) room ≡ y → length (stored_of (outcome x y ms)) ≤ room
fits_by room ms false y e = zero-le
fits_by room ms true false e = zero-le
fits_by room ms true true e = leb-true (length ms) room e

pub listed_fits : (g : Float) (room : ℕ) → length (listed g room) ≤ room
listed_fits g room = fits_by room (children_from g) (is_finite g) (leb (length (children_from g)) room) refl

filled_by : (ms xs : List FractionalMos) (x y : Bool) → leb (length ms) (length xs) ≡ y → 0 < length ms → (t : Turn)
    → Turns t (stored_of (outcome x y ms))
    → Filled (outcome x y ms)
    (pick (ltb 0 (length (stored_of (outcome x y ms)))) (given (length (stored_of (outcome x y ms)))) (ask 22 x (refused 10))) xs
    (stored (length (stored_of (outcome x y ms))) t xs)
filled_by ms xs false y e p t u = record { answered = refl; content = stored_none t xs }
filled_by ms xs true false e p t u = record { answered = refl; content = stored_none t xs }
filled_by ms xs true true e p t u =
    record { answered = simp (lt-ltb 0 (length ms) p); content = stored_all u xs (leb-true (length ms) (length xs) e) }

pub listing_filled : (g : Float) (xs : List FractionalMos) (t : Turn) → Turns t (listed g (length xs))
    → Filled (listing_outcome g (length xs)) (answered_of g (length (listed g (length xs)))) xs (stored (length (listed g (length xs))) t xs)
listing_filled g xs t u =
    filled_by (children_from g) xs (is_finite g) (leb (length (children_from g)) (length xs)) refl
    (length_some (genesis g) (growing_genesis g)) t u

-- ---- the answer, by what the code tests

module _ (g : Float) where
  pub answered_stored : (count : ℕ) → 0 < count → given count ≡ answered_of g count
  answered_stored count h = sym (simp (lt-ltb 0 count h))

  module _ (count : ℕ) (h : count ≤ 0) where
    pub answered_refused : {n : ℕ} → refused n ≡ genesis_outcome g → refused n ≡ answered_of g count
    answered_refused e = same_refusal g (refused 10) e ∙ sym (simp (le-ltb 0 count h))

    pub answered_short : (m : FractionalMos) → given m ≡ genesis_outcome g → refused 10 ≡ answered_of g count
    answered_short m e = sym (simp (le-ltb 0 count h, told_finite g e))
