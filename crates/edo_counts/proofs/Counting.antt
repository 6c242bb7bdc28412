-- Counting: a layout is counted for its own chain alone, so the layouts of a division count as the one of the chain does.
use Prim.Native.Nat.{ℕ, zero, suc, ◌+◌, ◌≤◌, ◌<◌}
use native.Mathlib.Nat.{add-zero, zero-add, eq-or-lt_of_le}
use native.Mathlib.Numerals.{add-one}
use native.Mathlib.Omega.{arith}
use mathlib.Core.Bool.{Bool, true, false, ◌&&◌}
use mathlib.Core.Logic.{◌⊎◌, inl, inr}
use mathlib.Core.Path.{◌≡◌, refl, sym, ap, ◌∙◌}
use mathlib.Core.List.{List, [], ◌∷◌, ◌++◌}
use borrow.Author.Tests.{eq-eqb, ne_eqb, lt-ltb, le-ltb}
use Rattle.answer.specs.Outcome.{Outcome, given, refused}
use Rattle.mos.specs.declared.Mos.{Mos}
use Rattle.mos.specs.Patterns.{primary, secondary}
use Rattle.edo_layouts.specs.declared.EdoLayout.{EdoLayout}
use Rattle.edo_layouts.specs.Layouts.{chain_outcome, given_of, gathered, layouts_of, one}
use Rattle.edo_layouts.proofs.Serving.{chain_is}
use Rattle.edo_counts.specs.declared.parts.Tally.{Tally}
use Rattle.edo_counts.specs.Counts.{all_layouts, count_passing, is_above, is_below, is_equal, of_chain, tally_of}
use Rattle.edo_counts.specs.Parts.{plus, side, Small}

-- ---- counts of lists

pub count_append : (p : EdoLayout → Bool) (xs ys : List EdoLayout) → count_passing p (xs ++ ys) ≡ count_passing p xs + count_passing p ys
unfolding count_passing
count_append p [] ys = sym (zero-add (count_passing p ys))
count_append p (x ∷ xs) ys = omega (arith, count_append p xs ys)

pub count_none : (p : EdoLayout → Bool) → count_passing p [] ≡ 0
unfolding count_passing
count_none p = refl

count_one : (p : EdoLayout → Bool) (c : EdoLayout) → count_passing p (c ∷ []) ≡ one (p c)
unfolding count_passing
count_one p c = add-zero (one (p c))

one_small : (b : Bool) → one b ≤ 1
one_small true = omega arith
one_small false = omega arith

pub count_given : (p : EdoLayout → Bool) (o : Outcome EdoLayout) → count_passing p (given_of o) ≤ 1
count_given p (given c) = omega (arith, count_one p c, one_small (p c))
count_given p (refused q) = omega (arith, count_none p)

-- ---- of what is gathered, one list counts

pub gathered_next : (f : ℕ → List EdoLayout) (k : ℕ) → gathered f (suc k) ≡ gathered f k ++ f k
unfolding gathered
gathered_next f k = refl

pub gathered_none : (f : ℕ → List EdoLayout) → gathered f 0 ≡ []
unfolding gathered
gathered_none f = refl

module _ (p : EdoLayout → Bool) (f : ℕ → List EdoLayout) (code : ℕ) (others : (k : ℕ) → (k ≡ code → ⊥) → count_passing p (f k) ≡ 0) where
  before_it : (m : ℕ) → m ≤ code → count_passing p (gathered f m) ≡ 0
  before_it zero h = ap (count_passing p) (gathered_none f) ∙ count_none p
  before_it (suc m) h =
      omega (
        arith,
        ap (count_passing p) (gathered_next f m),
        count_append p (gathered f m) (f m),
        before_it m (omega arith),
        others m (λ e. omega arith),
      )

  split : (m : ℕ) → count_passing p (gathered f (suc m)) ≡ count_passing p (gathered f m) + count_passing p (f m)
  split m = ap (count_passing p) (gathered_next f m) ∙ count_append p (gathered f m) (f m)

  at_or_past : (m : ℕ) → (code ≡ m) ⊎ (code < m) → (code < m → count_passing p (gathered f m) ≡ count_passing p (f code))
      → count_passing p (gathered f (suc m)) ≡ count_passing p (f code)
  at_or_past m (inl e) past = omega (arith, split m, before_it m (omega arith), ap (λ (k : ℕ). count_passing p (f k)) e)
  at_or_past m (inr l) past = omega (arith, split m, past l, others m (λ e. omega arith))

  pub only_it : (m : ℕ) → code < m → count_passing p (gathered f m) ≡ count_passing p (f code)
  only_it zero h = absurd (let z : ⊥ = omega arith in z)
  only_it (suc m) h = at_or_past m (eq-or-lt_of_le (let z : code ≤ m = omega arith in z)) (λ l. only_it m l)

-- ---- a chain's layouts count for that chain

module _ (n : ℕ) where
  not_its : (code k : ℕ) (side : Mos → Bool) → (k ≡ code → ⊥) → (o : Outcome EdoLayout) → o ≡ chain_outcome n k → count_passing (of_chain code side) (given_of o) ≡ 0
  not_its code k side h (refused q) e = count_none (of_chain code side)
  not_its code k side h (given c) e =
      count_one (of_chain code side) c
      ∙ ap (λ (b : Bool). one (b && side c.pattern)) (ne_eqb c.layout.genchain code (λ f. h (sym (chain_is n k c e) ∙ f)))

  pub division_counts : (code : ℕ) (side : Mos → Bool) → code < 6
      → count_passing (of_chain code side) (layouts_of n) ≡ count_passing (of_chain code side) (given_of (chain_outcome n code))
  unfolding layouts_of
  division_counts code side h =
      only_it (of_chain code side) (λ (k : ℕ). given_of (chain_outcome n k)) code
      (λ k e. not_its code k side e (chain_outcome n k) refl) 6 h

  pub its : (code : ℕ) (side : Mos → Bool) (c : EdoLayout) → given c ≡ chain_outcome n code → count_passing (of_chain code side) (c ∷ []) ≡ one (side c.pattern)
  its code side c e =
      count_one (of_chain code side) c
      ∙ ap (λ (b : Bool). one (b && side c.pattern)) (eq-eqb c.layout.genchain code (chain_is n code c e))

-- ---- tallies

abbrev pub none : Tally
none = record { above = 0; below = 0; equal = 0 }

abbrev pub made : ℕ → ℕ → ℕ → Tally
made a b e = record { above = a; below = b; equal = e }

same : {a b e x y z : ℕ} → a ≡ x → b ≡ y → e ≡ z → made a b e ≡ made x y z
same {a} {b} {e} {x} {y} {z} p q r =
    ap (λ (k : ℕ). made k b e) p ∙ ap (λ (k : ℕ). made x k e) q ∙ ap (λ (k : ℕ). made x y k) r

module _ (code n : ℕ) where
  abbrev got : Tally
  got = tally_of code (given_of (chain_outcome n code))

  -- no layout
  pub counts_none : (past : Tally) (q : ℕ) → refused q ≡ chain_outcome n code → past ≡ plus past got
  unfolding tally_of
  counts_none past q e =
      same
      (nothing (of_chain code is_above) past.above)
      (nothing (of_chain code is_below) past.below)
      (nothing (of_chain code is_equal) past.equal)
    where
      nothing : (p : EdoLayout → Bool) (k : ℕ) → k ≡ k + count_passing p (given_of (chain_outcome n code))
      nothing p k =
          omega (arith, ap (λ (o : Outcome EdoLayout). count_passing p (given_of o)) e, count_none p)

  -- one
  pub counts_one : (past r : Tally) (c : EdoLayout) → given c ≡ chain_outcome n code → r ≡ plus past (side c.pattern) → r ≡ plus past got
  unfolding tally_of
  counts_one past r c e q = q ∙ same (seen is_above past.above) (seen is_below past.below) (seen is_equal past.equal)
    where
      seen : (test : Mos → Bool) (k : ℕ) → k + one (test c.pattern) ≡ k + count_passing (of_chain code test) (given_of (chain_outcome n code))
      seen test k =
          ap (λ (x : ℕ). k + x)
          (sym (its n code test c e) ∙ ap (λ (o : Outcome EdoLayout). count_passing (of_chain code test) (given_of o)) e)

-- ---- the three sides

module _ (past : Tally) (m : Mos) where
  by_tests : (a b e : Bool) → is_above m ≡ a → is_below m ≡ b → is_equal m ≡ e
      → made (past.above + one a) (past.below + one b) (past.equal + one e) ≡ plus past (side m)
  by_tests a b e p q r =
      same (ap (λ (x : Bool). past.above + one x) (sym p)) (ap (λ (x : Bool). past.below + one x) (sym q)) (ap (λ (x : Bool). past.equal + one x) (sym r))

  pub side_above : secondary m < primary m → made (past.above + 1) past.below past.equal ≡ plus past (side m)
  side_above h =
      same refl (sym (add-zero past.below)) (sym (add-zero past.equal))
      ∙ by_tests true false false (lt-ltb _ _ h) (le-ltb _ _ (let z : secondary m ≤ primary m = omega arith in z)) (ne_eqb (primary m) (secondary m) (λ (e : primary m ≡ secondary m). omega arith))

  pub side_below : primary m < secondary m → made past.above (past.below + 1) past.equal ≡ plus past (side m)
  side_below h =
      same (sym (add-zero past.above)) refl (sym (add-zero past.equal))
      ∙ by_tests false true false (le-ltb _ _ (let z : primary m ≤ secondary m = omega arith in z)) (lt-ltb _ _ h) (ne_eqb (primary m) (secondary m) (λ (e : primary m ≡ secondary m). omega arith))

  pub side_equal : primary m ≤ secondary m → secondary m ≤ primary m → made past.above past.below (past.equal + 1) ≡ plus past (side m)
  side_equal h k =
      same (sym (add-zero past.above)) (sym (add-zero past.below)) refl
      ∙ by_tests false false true (le-ltb _ _ h) (le-ltb _ _ k) (eq-eqb _ _ (let z : primary m ≡ secondary m = omega arith in z))

-- ---- over the divisions

all_none : all_layouts 0 ≡ []
unfolding all_layouts
all_none = gathered_none (λ (before : ℕ). layouts_of (before + 1))

all_more : (before : ℕ) → all_layouts (before + 1) ≡ all_layouts before ++ layouts_of (before + 1)
unfolding all_layouts
all_more before = ap (gathered (λ (k : ℕ). layouts_of (k + 1))) (add-one before) ∙ gathered_next (λ (k : ℕ). layouts_of (k + 1)) before

pub count_more : (p : EdoLayout → Bool) (before : ℕ) → count_passing p (all_layouts (before + 1)) ≡ count_passing p (all_layouts before) + count_passing p (layouts_of (before + 1))
count_more p before = ap (count_passing p) (all_more before) ∙ count_append p (all_layouts before) (layouts_of (before + 1))

pub count_all_none : (p : EdoLayout → Bool) → count_passing p (all_layouts 0) ≡ 0
count_all_none p = ap (count_passing p) all_none ∙ count_none p

pub tally_none : (code : ℕ) → none ≡ tally_of code (all_layouts 0)
unfolding tally_of
tally_none code =
    same
    (sym (count_all_none (of_chain code is_above)))
    (sym (count_all_none (of_chain code is_below)))
    (sym (count_all_none (of_chain code is_equal)))

module _ (code : ℕ) (h : code < 6) where
  -- one division more: its layouts count as the chain's one does
  one_more : (test : Mos → Bool) (before : ℕ)
      → count_passing (of_chain code test) (all_layouts before) + count_passing (of_chain code test) (given_of (chain_outcome (before + 1) code))
      ≡ count_passing (of_chain code test) (all_layouts (before + 1))
  one_more test before =
      ap (λ (k : ℕ). count_passing (of_chain code test) (all_layouts before) + k) (sym (division_counts (before + 1) code test h))
      ∙ sym (count_more (of_chain code test) before)

  pub tally_more : (before : ℕ) (past r : Tally) → past ≡ tally_of code (all_layouts before)
      → r ≡ plus past (tally_of code (given_of (chain_outcome (before + 1) code))) → r ≡ tally_of code (all_layouts (before + 1))
  unfolding tally_of
  tally_more before past r e q =
      q
      ∙ ap (λ (t : Tally). plus t (tally_of code (given_of (chain_outcome (before + 1) code)))) e
      ∙ same (one_more is_above before) (one_more is_below before) (one_more is_equal before)

  -- at most one of each division
  few : (test : Mos → Bool) (before : ℕ) → count_passing (of_chain code test) (all_layouts before) ≤ before
  few test zero = omega (arith, count_all_none (of_chain code test))
  few test (suc before) =
      rw (← (add-one before))
      (omega (
        arith,
        one_more test before,
        few test before,
        count_given (of_chain code test) (chain_outcome (before + 1) code),
      ))

  pub tally_few : (before : ℕ) (t : Tally) → t ≡ tally_of code (all_layouts before) → (t.above ≤ before) × (t.below ≤ before) × (t.equal ≤ before)
  unfolding tally_of
  tally_few before t e = (
    omega (arith, ap (λ (x : Tally). x.above) e, few is_above before),
    omega (arith, ap (λ (x : Tally). x.below) e, few is_below before),
    omega (arith, ap (λ (x : Tally). x.equal) e, few is_equal before),
  )

  pub tally_small : (before : ℕ) (t : Tally) → t ≡ tally_of code (all_layouts before) → before < 400 → Small t
  tally_small before t e l =
      let f = tally_few before t e in
      record { above = omega (arith, f.0); below = omega (arith, f.1); equal = omega (arith, f.2) }
