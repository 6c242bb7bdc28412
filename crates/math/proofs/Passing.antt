-- Laws of the numbers that pass a test: runs of them, which they are, that they rise; of the first of them; and of all below a bound.
use Prim.Native.Nat.{ℕ, zero, suc, ◌+◌, ◌-◌, ◌≤◌, ◌<◌}
use mathlib.Core.Path.{◌≡◌, refl, sym, ap, ap₂, ◌∙◌, subst}
use mathlib.Core.Bool.{Bool, true, false, and-false, false≢true}
use mathlib.Core.Logic.{◌⊎◌, inl, inr, ⊎_elim, ◌↔◌}
use mathlib.Core.List.Memᴰ
use mathlib.Core.List.{List, [], ◌∷◌, ◌++◌, Memᴰ}
use lib.ListN.{length}
use native.Mathlib.Nat.{add-zero, zero-add, suc-add, add-suc, eq-or-lt_of_le, le_of_suc-le-suc, add-sub_of_le}
use native.Mathlib.Numerals.{add-one}
use native.Mathlib.Omega.{arith}
use Rattle.answer.proofs.Asked.{and_left, and_right}
use Rattle.math.specs.Passing.{run, passing, first, all_below, RisingFrom}

-- ---- runs

pub length_run : (from count : ℕ) → length (run from count) ≡ count
unfolding run
length_run from zero = refl
length_run from (suc count) = ap suc (length_run (suc from) count)

-- one more, at the end
pub run_more : (from count : ℕ) → run from (count + 1) ≡ run from count ++ ((from + count) ∷ [])
unfolding run
run_more from zero = ap (λ (n : ℕ). n ∷ []) (sym (add-zero from))
run_more from (suc count) =
    rw (suc-add count 1)
    (ap (λ (ks : List ℕ). from ∷ ks)
    (run_more (suc from) count ∙ ap (λ (n : ℕ). run (suc from) count ++ (n ∷ [])) (suc-add from count ∙ sym (add-suc from count))))

module _ (test : ℕ → Bool) where
  one_more : (count from : ℕ) (b : Bool) → test from ≡ b
      → passing test (suc count) from ≡ elim b [ true ↦ from ∷ passing test count (suc from) | false ↦ passing test count (suc from) ]
  unfolding passing
  one_more count from b e = ap (λ (x : Bool). elim x [ true ↦ from ∷ passing test count (suc from) | false ↦ passing test count (suc from) ]) e

  -- all of the next `a` numbers pass, or none of them
  kept : (a b from : ℕ) → ((j : ℕ) → from ≤ j → j < from + a → test j ≡ true) → passing test (a + b) from ≡ run from a ++ passing test b (from + a)
  unfolding run
  kept zero b from h = ap₂ (λ (m n : ℕ). passing test m n) (zero-add b) (sym (add-zero from))
  kept (suc a) b from h =
      ap (λ (n : ℕ). passing test n from) (suc-add a b)
      ∙ one_more (a + b) from true (h from (omega arith) (omega arith))
      ∙ ap (λ (ks : List ℕ). from ∷ ks)
      (kept a b (suc from) (λ j l m. h j (omega arith) (omega arith))
      ∙ ap (λ (n : ℕ). run (suc from) a ++ passing test b n) (suc-add from a ∙ sym (add-suc from a)))

  left_out : (a b from : ℕ) → ((j : ℕ) → from ≤ j → j < from + a → test j ≡ false) → passing test (a + b) from ≡ passing test b (from + a)
  left_out zero b from h = ap₂ (λ (m n : ℕ). passing test m n) (zero-add b) (sym (add-zero from))
  left_out (suc a) b from h =
      ap (λ (n : ℕ). passing test n from) (suc-add a b)
      ∙ one_more (a + b) from false (h from (omega arith) (omega arith))
      ∙ left_out a b (suc from) (λ j l m. h j (omega arith) (omega arith))
      ∙ ap (λ (n : ℕ). passing test b n) (suc-add from a ∙ sym (add-suc from a))

  -- the same from a number to another, by way of a third
  module _ (from mid to : ℕ) (l : from ≤ mid) (m : mid ≤ to) where
    split : passing test (to - from) from ≡ passing test (mid - from + (to - mid)) from
    split = ap (λ (n : ℕ). passing test n from) (let z : to - from ≡ mid - from + (to - mid) = omega arith in z)

    pub kept_to : ((j : ℕ) → from ≤ j → j < mid → test j ≡ true) → passing test (to - from) from ≡ run from (mid - from) ++ passing test (to - mid) mid
    kept_to h =
        split
        ∙ kept (mid - from) (to - mid) from (λ j u v. h j u (omega (arith, add-sub_of_le l)))
        ∙ ap (λ (n : ℕ). run from (mid - from) ++ passing test (to - mid) n) (add-sub_of_le l)

    pub left_out_to : ((j : ℕ) → from ≤ j → j < mid → test j ≡ false) → passing test (to - from) from ≡ passing test (to - mid) mid
    left_out_to h =
        split
        ∙ left_out (mid - from) (to - mid) from (λ j u v. h j u (omega (arith, add-sub_of_le l)))
        ∙ ap (λ (n : ℕ). passing test (to - mid) n) (add-sub_of_le l)

  pub none_passes : (count from : ℕ) → ((j : ℕ) → from ≤ j → j < from + count → test j ≡ false) → passing test count from ≡ []
  unfolding passing
  none_passes zero from h = refl
  none_passes (suc count) from h =
      one_more count from false (h from (omega arith) (omega arith)) ∙ none_passes count (suc from) (λ j l m. h j (omega arith) (omega arith))

  -- ---- which they are

  abbrev Passes : ℕ → ℕ → ℕ → Type 0
  Passes count from k = (from ≤ k) × (k < from + count) × (test k ≡ true)

  member : (count from k : ℕ) → Memᴰ k (passing test count from) → Passes count from k
  unfolding passing
  member zero from k m = absurd (Memᴰ.not-nil m)
  member (suc count) from k m = by (test from) refl m (member count (suc from) k)
    where
      further : Passes count (suc from) k → Passes (suc count) from k
      further p = (omega (arith, p.0), omega (arith, p.1), p.2)

      at : test from ≡ true → (k ≡ from) ⊎ Memᴰ k (passing test count (suc from))
          → (Memᴰ k (passing test count (suc from)) → Passes count (suc from) k) → Passes (suc count) from k
      at t (inl e) ih = (omega (arith, e), omega (arith, e), ap test e ∙ t)
      at t (inr n) ih = further (ih n)

      by : (b : Bool) → test from ≡ b
          → Memᴰ k (elim b [ true ↦ from ∷ passing test count (suc from) | false ↦ passing test count (suc from) ])
          → (Memᴰ k (passing test count (suc from)) → Passes count (suc from) k) → Passes (suc count) from k
      by true t n ih = at t (Memᴰ.cases_cons n) ih
      by false t n ih = further (ih n)

  is_member : (count from k : ℕ) → Passes count from k → Memᴰ k (passing test count from)
  is_member zero from k p = absurd (let z : ⊥ = omega (arith, p.0, p.1) in z)
  is_member (suc count) from k p = at (eq-or-lt_of_le p.0) (λ l. is_member count (suc from) k (l, omega (arith, p.1), p.2))
    where
      in_all : (b : Bool) → Memᴰ k (passing test count (suc from))
          → Memᴰ k (elim b [ true ↦ from ∷ passing test count (suc from) | false ↦ passing test count (suc from) ])
      in_all true m = Memᴰ.tail m
      in_all false m = m

      at : (from ≡ k) ⊎ (from < k) → (suc from ≤ k → Memᴰ k (passing test count (suc from))) → Memᴰ k (passing test (suc count) from)
      at (inl e) ih = subst (Memᴰ k) (sym (one_more count from true (ap test e ∙ p.2))) (Memᴰ.head (sym e))
      at (inr l) ih = subst (Memᴰ k) (sym (one_more count from (test from) refl)) (in_all (test from) (ih (omega arith)))

  pub passes_iff : (count k : ℕ) → Memᴰ k (passing test count 0) ↔ ((k < count) × (test k ≡ true))
  passes_iff count k = (
    λ m. let p = member count 0 k m in (omega (arith, p.1), p.2),
    λ p. is_member count 0 k (omega arith, omega (arith, p.0), p.1),
  )

  -- ---- they rise

  sooner : (n : ℕ) (ks : List ℕ) → RisingFrom (suc n) ks → RisingFrom n ks
  sooner n [] r = tt
  sooner n (k ∷ ks) r = (omega (arith, r.0), r.1)

  pub passing_rise : (count from : ℕ) → RisingFrom from (passing test count from)
  unfolding passing
  passing_rise zero from = tt
  passing_rise (suc count) from = by (test from) (passing_rise count (suc from))
    where
      by : (b : Bool) → RisingFrom (suc from) (passing test count (suc from))
          → RisingFrom from (elim b [ true ↦ from ∷ passing test count (suc from) | false ↦ passing test count (suc from) ])
      by true r = (omega arith, r)
      by false r = sooner from (passing test count (suc from)) r

-- ---- the first that passes

pub first_is : (f : ℕ → Bool) (count from w : ℕ) → from ≤ w → w < from + count → f w ≡ true
    → ((j : ℕ) → from ≤ j → j < w → f j ≡ false) → first f count from ≡ w
unfolding first
first_is f zero from w h l t none = absurd (let z : ⊥ = omega arith in z)
first_is f (suc count) from w h l t none = by (eq-or-lt_of_le h) (λ k. first_is f count (suc from) w k (omega arith) t (λ j a b. none j (omega arith) b))
  where
    by : (from ≡ w) ⊎ (from < w) → (suc from ≤ w → first f count (suc from) ≡ w) → elim (f from) [ true ↦ from | false ↦ first f count (suc from) ] ≡ w
    by (inl e) ih = rw (ap f e ∙ t) e
    by (inr k) ih = rw (none from (omega arith) k) (ih k)

-- it passes, and none after one that is known to pass is found
pub first_finds : (f : ℕ → Bool) (count from w : ℕ) → from ≤ w → w < from + count → f w ≡ true
    → (f (first f count from) ≡ true) × (first f count from ≤ w)
unfolding first
first_finds f zero from w h l t = absurd (let z : ⊥ = omega arith in z)
first_finds f (suc count) from w h l t = by (f from) refl (λ k. first_finds f count (suc from) w k (omega arith) t)
  where
    past : (from ≡ w) ⊎ (from < w) → f from ≡ false → suc from ≤ w
    past (inl e) n = absurd (false≢true (sym n ∙ ap f e ∙ t))
    past (inr k) n = k

    by : (b : Bool) → f from ≡ b → (suc from ≤ w → (f (first f count (suc from)) ≡ true) × (first f count (suc from) ≤ w))
        → (f (elim b [ true ↦ from | false ↦ first f count (suc from) ]) ≡ true) × (elim b [ true ↦ from | false ↦ first f count (suc from) ] ≤ w)
    by true e ih = (e, h)
    by false e ih = ih (past (eq-or-lt_of_le h) e)

-- ---- a test of all numbers below n

pub all_none : (test : ℕ → Bool) → all_below test 0 ≡ true
unfolding all_below
all_none test = refl

-- one more that passes
pub all_more : (test : ℕ → Bool) (k : ℕ) → all_below test k ≡ true → test k ≡ true → all_below test (k + 1) ≡ true
unfolding all_below
all_more test k e f = rw (add-one k) (simp (e, f))

-- one fails
pub all_fails : (test : ℕ → Bool) (k n : ℕ) → k < n → test k ≡ false → all_below test n ≡ false
unfolding all_below
all_fails test k zero h e = absurd (omega arith)
all_fails test k (suc n) h e =
    ⊎_elim
    (λ (same : k ≡ n). simp (sym (ap test same) ∙ e, and-false))
    (λ (below : k < n). simp (all_fails test k n below e))
    (eq-or-lt_of_le (le_of_suc-le-suc h))

-- each passes, so all do
pub all_of : (test : ℕ → Bool) (n : ℕ) → ((k : ℕ) → k < n → test k ≡ true) → all_below test n ≡ true
unfolding all_below
all_of test zero h = refl
all_of test (suc n) h = simp (all_of test n (λ k l. h k (omega arith)), h n (omega arith))

-- all pass, so each does
pub all_each : (test : ℕ → Bool) (k n : ℕ) → k < n → all_below test n ≡ true → test k ≡ true
unfolding all_below
all_each test k zero h e = absurd (omega arith)
all_each test k (suc n) h e =
    ⊎_elim
    (λ (same : k ≡ n). ap test same ∙ and_right (all_below test n) (test n) e)
    (λ (below : k < n). all_each test k n below (and_left (all_below test n) (test n) e))
    (eq-or-lt_of_le (le_of_suc-le-suc h))
