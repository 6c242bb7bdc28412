-- Laws of joined texts: one turn of a loop that writes them, their lengths, and where each text stands.
use Prim.Native.Nat.{ℕ, zero, suc, ◌+◌, ◌-◌, ◌*◌, ◌<◌, ◌≤◌}
use native.Mathlib.Nat.{add-zero, add-suc, le_refl, add-sub_of_le, mul-suc, mul-zero, zero-mul, suc-mul}
use native.Mathlib.Numerals.{add-one}
use native.Mathlib.Omega.{arith}
use mathlib.Core.Path.{◌≡◌, refl, sym, ap, ap₂, ◌∙◌}
use mathlib.Core.List.{List, [], ◌++◌, append-nil, append_assoc}
use lib.ListN.{length, length-append, take, drop}
use lib.Seq.{drop_at, take-append_seam}
use Rattle.text.specs.Writing.{Room, Wrote, joined}
use Rattle.text.proofs.Writing.{then, wrote_as, wrote_none, wrote_length}

pub joined_none : (f : ℕ → List ℕ) → joined f 0 ≡ []
unfolding joined
joined_none f = refl

-- one more, as the code counts
pub joined_more : (f : ℕ → List ℕ) (k : ℕ) → joined f (k + 1) ≡ joined f k ++ f k
unfolding joined
joined_more f k = rw (add-one k)

pub length_joined_more : (f : ℕ → List ℕ) (k : ℕ) → length (joined f (k + 1)) ≡ length (joined f k) + length (f k)
length_joined_more f k = ap length (joined_more f k) ∙ length-append (joined f k) (f k)

length_joined_add : (f : ℕ → List ℕ) (k d : ℕ) → length (joined f k) ≤ length (joined f (k + d))
length_joined_add f k zero = rw (add-zero k) (le_refl _)
length_joined_add f k (suc d) =
    rw (add-suc k d, ← (add-one (k + d))) (omega (arith, length_joined_more f (k + d), length_joined_add f k d))

-- fewer are no longer
pub length_joined_le : (f : ℕ → List ℕ) (k n : ℕ) → k ≤ n → length (joined f k) ≤ length (joined f n)
length_joined_le f k n h = rw (← (add-sub_of_le h)) (length_joined_add f k (n - k))

-- the same texts
pub joined_same : (f g : ℕ → List ℕ) (n : ℕ) → ((k : ℕ) → k < n → f k ≡ g k) → joined f n ≡ joined g n
unfolding joined
joined_same f g zero h = refl
joined_same f g (suc n) h =
    ap₂ (λ (u v : List ℕ). u ++ v) (joined_same f g n (λ k l. h k (omega arith))) (h n (omega arith))

-- as many again
pub joined_add : (f : ℕ → List ℕ) (a b : ℕ) → joined f (a + b) ≡ joined f a ++ joined (λ c. f (a + c)) b
unfolding joined
joined_add f a zero = ap (joined f) (add-zero a) ∙ sym (append-nil (joined f a))
joined_add f a (suc b) =
    ap (joined f) (add-suc a b)
    ∙ ap (λ (l : List ℕ). l ++ f (a + b)) (joined_add f a b)
    ∙ append_assoc (joined f a) (joined (λ c. f (a + c)) b) (f (a + b))

-- in blocks of n
pub joined_blocks : (f : ℕ → List ℕ) (n count : ℕ) → joined (λ q. joined (λ c. f (q * n + c)) n) count ≡ joined f (count * n)
unfolding joined
joined_blocks f n zero = ap (joined f) (sym (zero-mul n))
joined_blocks f n (suc count) =
    ap (λ (l : List ℕ). l ++ joined (λ c. f (count * n + c)) n) (joined_blocks f n count)
    ∙ sym (ap (joined f) (suc-mul count n) ∙ joined_add f (count * n) n)

-- the first of them, and those behind it
pub joined_first : (f : ℕ → List ℕ) (n : ℕ) → joined f (suc n) ≡ f 0 ++ joined (λ k. f (suc k)) n
unfolding joined
joined_first f zero = sym (append-nil (f 0))
joined_first f (suc n) =
    ap (λ (l : List ℕ). l ++ f (suc n)) (joined_first f n) ∙ append_assoc (f 0) (joined (λ k. f (suc k)) n) (f (suc n))

-- texts of one length
pub length_joined_each : (f : ℕ → List ℕ) (w : ℕ) → ((k : ℕ) → length (f k) ≡ w) → (n : ℕ) → length (joined f n) ≡ w * n
unfolding joined
length_joined_each f w h zero = sym (mul-zero w)
length_joined_each f w h (suc n) =
    length-append (joined f n) (f n)
    ∙ ap (λ (x : ℕ). x + length (f n)) (length_joined_each f w h n)
    ∙ ap (λ (x : ℕ). w * n + x) (h n)
    ∙ sym (mul-suc w n)

-- a loop that writes them: before its first turn, one turn, and a turn's room
pub joined_start : (f : ℕ → List ℕ) (xs : List ℕ) (at : ℕ) → Wrote xs at (joined f 0) xs at
joined_start f xs at = wrote_as (sym (joined_none f)) (wrote_none xs at)

pub joined_step : (f : ℕ → List ℕ) (k : ℕ) {xs ys zs : List ℕ} {at o next : ℕ} → Wrote xs at (joined f k) ys o → Wrote ys o (f k) zs next
    → Wrote xs at (joined f (k + 1)) zs next
joined_step f k v w = wrote_as (sym (joined_more f k)) (then v w)

pub joined_room : (f : ℕ → List ℕ) (k n : ℕ) {xs ys : List ℕ} {at o : ℕ} → k < n → Wrote xs at (joined f k) ys o → Room xs at (joined f n)
    → Room ys o (f k)
joined_room f k n h w r =
    omega (arith, length_joined_more f k, length_joined_le f (k + 1) n (omega arith), wrote_length w)

-- what follows the text of k, up to that of k + d
after : (ℕ → List ℕ) → ℕ → ℕ → List ℕ
after f k zero = []
after f k (suc d) = after f k d ++ f (k + 1 + d)

joined_split : (f : ℕ → List ℕ) (k d : ℕ) → joined f (k + 1 + d) ≡ joined f k ++ f k ++ after f k d
unfolding after
joined_split f k zero = ap (joined f) (add-zero (k + 1)) ∙ joined_more f k ∙ sym (append-nil (joined f k ++ f k))
joined_split f k (suc d) =
    ap (joined f) (add-suc (k + 1) d ∙ sym (add-one (k + 1 + d)))
    ∙ joined_more f (k + 1 + d)
    ∙ ap (λ (l : List ℕ). l ++ f (k + 1 + d)) (joined_split f k d)
    ∙ append_assoc (joined f k ++ f k) (after f k d) (f (k + 1 + d))

-- the text of k is the part at its place, whatever stands before and behind all of them
pub joined_part : (f : ℕ → List ℕ) (k n : ℕ) (before behind : List ℕ) → k < n
    → take (length (f k)) (drop (length before + length (joined f k)) (before ++ joined f n ++ behind)) ≡ f k
joined_part f k n before behind h =
    let d = n - (k + 1) in
    let e : joined f n ≡ joined f k ++ f k ++ after f k d = ap (joined f) (omega arith) ∙ joined_split f k d in
    let p = before ++ joined f k in
    let whole : before ++ joined f n ++ behind ≡ p ++ (f k ++ (after f k d ++ behind)) = rw e (simp append_assoc) in
    rw whole
    (rw (drop_at p (f k ++ (after f k d ++ behind)) (length before + length (joined f k)) (length-append before (joined f k)))
    (take-append_seam (f k) (after f k d ++ behind)))
