-- Lists of layer sizes: their sums, empty ones dropped, and numbered.
use Prim.Native.Nat.{ℕ, zero, suc, ◌+◌, ◌*◌, ◌-◌, ◌≤◌}
use mathlib.Core.Path.{◌≡◌, refl, ap, ap₂, sym, ◌∙◌}
use mathlib.Core.List.{List, [], ◌∷◌, ◌++◌, append_assoc, reverse, reverse-cons}
use native.Mathlib.Nat.{add-zero, zero-add, suc-mul, zero-mul, add-sub_of_le, mul-suc, mul-add}
use native.Mathlib.Omega.{arith}
use lib.ListN.{length, replicate, length-append, length-replicate, replicate-append-replicate}
use Rattle.text.specs.Writing.{joined}
use Rattle.text.proofs.Joined.{joined_none, joined_more}
use Rattle.mos_layers.specs.Layers.{drop_empty, numbered}
use Rattle.mos_layers.specs.Theorems.{sum}

-- ---- sums

pub sum_append : (xs ys : List ℕ) → sum (xs ++ ys) ≡ sum xs + sum ys
sum_append [] ys = sym (zero-add (sum ys))
sum_append (x ∷ xs) ys = omega (arith, sum_append xs ys)

pub sum_replicate : (n z : ℕ) → sum (replicate n z) ≡ n * z
sum_replicate zero z = sym (zero-mul z)
sum_replicate (suc n) z = omega (arith, sum_replicate n z, suc-mul n z)

pub sum_reverse : (zs : List ℕ) → sum (reverse zs) ≡ sum zs
sum_reverse [] = refl
sum_reverse (z ∷ zs) = ap sum (reverse-cons z zs) ∙ sum_append (reverse zs) (z ∷ []) ∙ omega (arith, sum_reverse zs)

-- dropping the empty ones changes no sum
pub sum_drop : (zs : List ℕ) → sum (drop_empty zs) ≡ sum zs
sum_drop [] = refl
sum_drop (zero ∷ zs) = omega (arith, sum_drop zs)
sum_drop (suc z ∷ zs) = ap (λ (n : ℕ). suc z + n) (sum_drop zs)

pub sum_joined_more : (f : ℕ → List ℕ) (k : ℕ) → sum (joined f (k + 1)) ≡ sum (joined f k) + sum (f k)
sum_joined_more f k = ap sum (joined_more f k) ∙ sum_append (joined f k) (f k)

sum_joined_add : (f : ℕ → List ℕ) (k d : ℕ) → sum (joined f k) ≤ sum (joined f (k + d))
sum_joined_add f k zero = omega (arith, ap (λ (n : ℕ). sum (joined f n)) (add-zero k))
sum_joined_add f k (suc d) =
    omega (
      arith,
      sum_joined_add f k d,
      sum_joined_more f (k + d),
      ap (λ (n : ℕ). sum (joined f n)) (let e : k + suc d ≡ k + d + 1 = omega arith in e),
    )

pub sum_joined_le : (f : ℕ → List ℕ) (k n : ℕ) → k ≤ n → sum (joined f k) ≤ sum (joined f n)
sum_joined_le f k n h =
    omega (arith, sum_joined_add f k (n - k), ap (λ (j : ℕ). sum (joined f j)) (add-sub_of_le h))

-- ---- empty ones dropped

pub drop_append : (xs ys : List ℕ) → drop_empty (xs ++ ys) ≡ drop_empty xs ++ drop_empty ys
drop_append [] ys = refl
drop_append (zero ∷ xs) ys = drop_append xs ys
drop_append (suc x ∷ xs) ys = ap (λ (l : List ℕ). suc x ∷ l) (drop_append xs ys)

drop_zeros : (n : ℕ) → drop_empty (replicate n 0) ≡ []
drop_zeros zero = refl
drop_zeros (suc n) = drop_zeros n

pub drop_none : (n z : ℕ) → z ≡ 0 → drop_empty (replicate n z) ≡ []
drop_none n z e = ap (λ (k : ℕ). drop_empty (replicate n k)) e ∙ drop_zeros n

drop_sucs : (n z : ℕ) → drop_empty (replicate n (suc z)) ≡ replicate n (suc z)
drop_sucs zero z = refl
drop_sucs (suc n) z = ap (λ (l : List ℕ). suc z ∷ l) (drop_sucs n z)

pub drop_all : (n z : ℕ) → (z ≡ 0 → ⊥) → drop_empty (replicate n z) ≡ replicate n z
drop_all n zero h = absurd (h refl)
drop_all n (suc z) h = drop_sucs n z

pub drop_joined : (f : ℕ → List ℕ) (k : ℕ) → drop_empty (joined f k) ≡ joined (λ i. drop_empty (f i)) k
unfolding joined
drop_joined f zero = refl
drop_joined f (suc k) =
    drop_append (joined f k) (f k) ∙ ap (λ (l : List ℕ). l ++ drop_empty (f k)) (drop_joined f k)

-- no more layers than entries
pub few : (zs : List ℕ) → length (drop_empty zs) ≤ sum zs
few [] = omega arith
few (zero ∷ zs) = omega (arith, few zs)
few (suc z ∷ zs) = omega (arith, few zs)

-- ---- layers of at most N entries: the sum is at most N for each

abbrev pub Within : ℕ → List ℕ → Type 0
Within N zs = sum zs ≤ N * length (drop_empty zs)

pub within_none : (N : ℕ) → Within N []
within_none N = omega arith

pub within_one_more : (N z : ℕ) (zs : List ℕ) → z ≤ N → Within N zs → Within N (z ∷ zs)
within_one_more N zero zs h w = omega arith
within_one_more N (suc z) zs h w = omega (arith, mul-suc N (length (drop_empty zs)))

pub within_append : (N : ℕ) (xs ys : List ℕ) → Within N xs → Within N ys → Within N (xs ++ ys)
within_append N xs ys v w =
    omega (
      arith,
      sum_append xs ys,
      ap (λ (l : List ℕ). N * length l) (drop_append xs ys),
      ap (λ (n : ℕ). N * n) (length-append (drop_empty xs) (drop_empty ys)),
      mul-add N (length (drop_empty xs)) (length (drop_empty ys)),
    )

pub within_run : (N n z : ℕ) → z ≤ N → Within N (replicate n z)
within_run N zero z h = within_none N
within_run N (suc n) z h = within_one_more N z (replicate n z) h (within_run N n z h)

-- ---- numbered

pub numbered_append : (j : ℕ) (xs ys : List ℕ) → numbered j (xs ++ ys) ≡ numbered j xs ++ numbered (j + length xs) ys
numbered_append j [] ys = ap (λ (k : ℕ). numbered k ys) (sym (add-zero j))
numbered_append j (x ∷ xs) ys =
    ap (λ (l : List ℕ). replicate x j ++ l) (numbered_append (suc j) xs ys)
    ∙ sym (append_assoc (replicate x j) (numbered (suc j) xs) (numbered (suc j + length xs) ys))
    ∙ ap (λ (k : ℕ). replicate x j ++ numbered (suc j) xs ++ numbered k ys) (omega arith)

pub length_numbered : (j : ℕ) (zs : List ℕ) → length (numbered j zs) ≡ sum zs
length_numbered j [] = refl
length_numbered j (z ∷ zs) =
    length-append (replicate z j) (numbered (suc j) zs)
    ∙ ap₂ (λ (m n : ℕ). m + n) (length-replicate z j) (length_numbered (suc j) zs)

pub replicate_more : (n z : ℕ) → replicate (n + 1) z ≡ replicate n z ++ (z ∷ [])
replicate_more n z = sym (replicate-append-replicate n 1 z)

-- how many layers, one run more
pub count_more : (f : ℕ → List ℕ) (i : ℕ) {count run : ℕ} → count ≡ length (drop_empty (joined f i)) → run ≡ length (drop_empty (f i))
    → count + run ≡ length (drop_empty (joined f (i + 1)))
count_more f i e g =
    ap₂ (λ (m n : ℕ). m + n) e g
    ∙ sym
    (ap (λ (l : List ℕ). length (drop_empty l)) (joined_more f i)
    ∙ ap length (drop_append (joined f i) (f i))
    ∙ length-append (drop_empty (joined f i)) (drop_empty (f i)))

pub count_none : (f : ℕ → List ℕ) → 0 ≡ length (drop_empty (joined f 0))
count_none f = sym (ap (λ (l : List ℕ). length (drop_empty l)) (joined_none f))
