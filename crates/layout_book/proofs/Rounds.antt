-- Sums of lengths: texts that grow by one, and a chain that has whole rounds at both ends, each as long as the letters and their signs.
use Prim.Native.Nat.{ℕ, zero, suc, ◌+◌, ◌*◌, ◌-◌, ◌/◌, ◌≤◌, ◌<◌}
use mathlib.Core.Path.{◌≡◌, refl, sym, ap, ap₂, ◌∙◌}
use mathlib.Core.List.{List}
use lib.ListN.{length, length-append}
use native.Mathlib.Nat.{mul-suc, suc-mul, mul-add, mul-zero, zero-mul, mul-one, mul_comm, mul_left_comm, add-zero, add-suc}
use native.Mathlib.Omega.{arith}
use Rattle.text.specs.Writing.{joined}
use Rattle.layout_book.proofs.Turning.{sum, sum_same}

pub length_joined_sum : (f : ℕ → List ℕ) (k : ℕ) → length (joined f k) ≡ sum (λ (i : ℕ). length (f i)) k
unfolding joined sum
length_joined_sum f zero = refl
length_joined_sum f (suc k) =
    length-append (joined f k) (f k) ∙ ap (λ (x : ℕ). x + length (f k)) (length_joined_sum f k)

-- texts of at most w bytes each
pub short_texts : (w : ℕ) (f : ℕ → List ℕ) (n : ℕ) → ((k : ℕ) → k < n → length (f k) ≤ w) → length (joined f n) ≤ w * n
unfolding joined
short_texts w f zero h = omega arith
short_texts w f (suc n) h =
    omega (arith, length-append (joined f n) (f n), h n (omega arith), short_texts w f n (λ k l. h k (omega arith)), mul-suc w n)

-- 0 + .. + n, twice
twice_to : (n : ℕ) → sum (λ (c : ℕ). c) (suc n) + sum (λ (c : ℕ). c) (suc n) ≡ suc n * n
unfolding sum
twice_to zero = refl
twice_to (suc n) = omega (arith, twice_to n, suc-mul (suc n) (suc n), mul-suc (suc n) n)

twice_below : (n : ℕ) → sum (λ (c : ℕ). c) n + sum (λ (c : ℕ). c) n ≡ n * (n - 1)
unfolding sum
twice_below zero = refl
twice_below (suc n) = twice_to n ∙ ap (λ (x : ℕ). suc n * x) (let q : n ≡ suc n - 1 = omega arith in q)

pub stars_below : (n : ℕ) → sum (λ (c : ℕ). c) n ≡ n * (n - 1) / 2
stars_below n = omega (arith, twice_below n)

-- texts that grow by one
pub growing_sum : (f : ℕ → ℕ) (b n : ℕ) → ((c : ℕ) → c < n → f c ≡ b + c) → sum f n ≡ n * b + sum (λ (c : ℕ). c) n
unfolding sum
growing_sum f b zero h = omega (arith, zero-mul b)
growing_sum f b (suc n) h =
    omega (arith, growing_sum f b n (λ c l. h c (omega arith)), h n (omega arith), suc-mul n b)

-- the same for each of several
pub scaled_sum : (f g : ℕ → ℕ) (n w k : ℕ) → ((t : ℕ) → t < k → f t ≡ n * g t + w) → sum f k ≡ n * sum g k + k * w
unfolding sum
scaled_sum f g n w zero h = omega (arith, mul-zero n, zero-mul w)
scaled_sum f g n w (suc k) h =
    omega (arith, scaled_sum f g n w k (λ t l. h t (omega arith)), h k (omega arith), suc-mul k w, mul-add n (sum g k) (g k))

-- ---- parts of a sum

sum_append : (f : ℕ → ℕ) (a b : ℕ) → sum f (a + b) ≡ sum f a + sum (λ (i : ℕ). f (a + i)) b
unfolding sum
sum_append f a zero = ap (sum f) (add-zero a) ∙ sym (add-zero (sum f a))
sum_append f a (suc b) = ap (sum f) (add-suc a b) ∙ omega (arith, sum_append f a b)

sum_first : (f : ℕ → ℕ) (k : ℕ) → sum f (suc k) ≡ f 0 + sum (λ (i : ℕ). f (suc i)) k
unfolding sum
sum_first f zero = omega arith
sum_first f (suc k) = omega (arith, sum_first f k)

-- from the last to the first
sum_reverse : (f : ℕ → ℕ) (k : ℕ) → sum (λ (i : ℕ). f (k - 1 - i)) k ≡ sum f k
unfolding sum
sum_reverse f zero = refl
sum_reverse f (suc k) =
    sum_first (λ (i : ℕ). f (suc k - 1 - i)) k
    ∙ ap₂ (λ (x y : ℕ). x + y) (ap f (let q : suc k - 1 - 0 ≡ k = omega arith in q))
    (sum_same (λ (i : ℕ). f (suc k - 1 - suc i)) (λ (i : ℕ). f (k - 1 - i)) k (λ i l. ap f (let q : suc k - 1 - suc i ≡ k - 1 - i = omega arith in q))
    ∙ sum_reverse f k)
    ∙ omega arith

sum_blocks : (f : ℕ → ℕ) (n count : ℕ) → sum f (count * n) ≡ sum (λ (q : ℕ). sum (λ (i : ℕ). f (q * n + i)) n) count
unfolding sum
sum_blocks f n zero = ap (sum f) (zero-mul n)
sum_blocks f n (suc count) =
    ap (sum f) (suc-mul count n)
    ∙ sum_append f (count * n) n
    ∙ ap (λ (x : ℕ). x + sum (λ (i : ℕ). f (count * n + i)) n) (sum_blocks f n count)

-- ---- rounds

-- one round: all letters, with so many signs each
round_sum : (f letter : ℕ → ℕ) (signs n : ℕ) → ((i : ℕ) → i < n → f i ≡ letter i + signs) → sum f n ≡ n * signs + sum letter n
unfolding sum
round_sum f letter signs zero h = omega (arith, zero-mul signs)
round_sum f letter signs (suc n) h =
    omega (arith, round_sum f letter signs n (λ i l. h i (omega arith)), h n (omega arith), suc-mul n signs)

module _ (n rounds middle : ℕ) (letter f : ℕ → ℕ)
    (low : (q i : ℕ) → q < rounds + 1 → i < n → f (q * n + i) ≡ letter i + q)
    (high : (q i : ℕ) → q < rounds → i < n → f ((rounds + 1) * n + middle + rounds * n - 1 - (q * n + i)) ≡ letter (n - 1 - i) + (q + 1)) where
  low_rounds : sum f ((rounds + 1) * n) ≡ n * sum (λ (c : ℕ). c) (rounds + 1) + (rounds + 1) * sum letter n
  low_rounds =
      sum_blocks f n (rounds + 1)
      ∙ scaled_sum (λ (q : ℕ). sum (λ (i : ℕ). f (q * n + i)) n) (λ (c : ℕ). c) n (sum letter n) (rounds + 1)
      (λ q l. round_sum (λ (i : ℕ). f (q * n + i)) letter q n (λ i k. low q i l k))

  abbrev ends : ℕ → ℕ
  ends j = f ((rounds + 1) * n + middle + rounds * n - 1 - j)

  more_by_one : sum (λ (c : ℕ). c + 1) rounds ≡ sum (λ (c : ℕ). c) (rounds + 1)
  more_by_one =
      sum_same (λ (c : ℕ). c + 1) (λ (c : ℕ). suc c) rounds (λ i l. omega arith)
      ∙ (let q : sum (λ (c : ℕ). suc c) rounds ≡ 0 + sum (λ (c : ℕ). suc c) rounds = omega arith in q)
      ∙ sym (sum_first (λ (c : ℕ). c) rounds)
      ∙ ap (sum (λ (c : ℕ). c)) (let q : suc rounds ≡ rounds + 1 = omega arith in q)

  high_rounds : sum ends (rounds * n) ≡ n * sum (λ (c : ℕ). c) (rounds + 1) + rounds * sum letter n
  high_rounds =
      sum_blocks ends n rounds
      ∙ scaled_sum (λ (q : ℕ). sum (λ (i : ℕ). ends (q * n + i)) n) (λ (c : ℕ). c + 1) n (sum letter n) rounds
      (λ q l.
      round_sum (λ (i : ℕ). ends (q * n + i)) (λ (i : ℕ). letter (n - 1 - i)) (q + 1) n (λ i k. high q i l k)
      ∙ ap (λ (x : ℕ). n * (q + 1) + x) (sum_reverse letter n))
      ∙ ap (λ (x : ℕ). n * x + rounds * sum letter n) more_by_one

  at_end : sum (λ (j : ℕ). f ((rounds + 1) * n + middle + j)) (rounds * n) ≡ sum ends (rounds * n)
  at_end =
      sym (sum_reverse (λ (j : ℕ). f ((rounds + 1) * n + middle + j)) (rounds * n))
      ∙ sum_same (λ (j : ℕ). f ((rounds + 1) * n + middle + (rounds * n - 1 - j))) ends (rounds * n)
      (λ j l. ap f (let q : (rounds + 1) * n + middle + (rounds * n - 1 - j) ≡ (rounds + 1) * n + middle + rounds * n - 1 - j = omega arith in q))

  both_ends : (a t l : ℕ) → t + t ≡ suc rounds * rounds
      → n * t + (rounds + 1) * l + a + (n * t + rounds * l) ≡ l * (2 * rounds + 1) + n * (rounds * (rounds + 1)) + a
  both_ends a t l e =
      omega (
        arith,
        mul-add n t t,
        ap (λ (x : ℕ). n * x) (e ∙ ap (λ (x : ℕ). x * rounds) (let q : suc rounds ≡ rounds + 1 = omega arith in q) ∙ mul_comm (rounds + 1) rounds),
        mul_comm (rounds + 1) l,
        mul_comm rounds l,
        mul-add l rounds 1,
        mul-add l (2 * rounds) 1,
        mul_left_comm l 2 rounds,
        mul-one l,
      )

  pub rounds_sum : sum f ((rounds + 1) * n + middle + rounds * n)
      ≡ sum letter n * (2 * rounds + 1) + n * (rounds * (rounds + 1)) + sum (λ (i : ℕ). f ((rounds + 1) * n + i)) middle
  rounds_sum =
      sum_append f ((rounds + 1) * n + middle) (rounds * n)
      ∙ ap₂ (λ (x y : ℕ). x + y) (sum_append f ((rounds + 1) * n) middle) (at_end ∙ high_rounds)
      ∙ ap (λ (x : ℕ). x + sum (λ (i : ℕ). f ((rounds + 1) * n + i)) middle + (n * sum (λ (c : ℕ). c) (rounds + 1) + rounds * sum letter n)) low_rounds
      ∙ both_ends (sum (λ (i : ℕ). f ((rounds + 1) * n + i)) middle) (sum (λ (c : ℕ). c) (rounds + 1)) (sum letter n)
      (ap (λ (x : ℕ). sum (λ (c : ℕ). c) x + sum (λ (c : ℕ). c) x) (let q : rounds + 1 ≡ suc rounds = omega arith in q) ∙ twice_to rounds)
