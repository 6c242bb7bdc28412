-- The element at a place of the list of layers: in the run that holds the place, the place divided by the run's size.
use Prim.Native.Nat.{ℕ, zero, suc, ◌+◌, ◌*◌, ◌-◌, ◌/◌, ◌≤◌, ◌<◌}
use mathlib.Core.Path.{◌≡◌, refl, sym, ap, ◌∙◌}
use mathlib.Core.Bool.{Bool, true, false}
use mathlib.Core.List.{List, [], ◌∷◌, ◌++◌}
use native.Mathlib.Nat.{zero-add, add-zero, suc-mul, zero-mul, mul_comm, div-eq_of_lt, div-eq-sub-div, div-le_self, pos_of_ne-zero}
use native.Mathlib.Omega.{arith}
use lib.ListN.{length, get_or, replicate, length-replicate, get_or-replicate, get_or-append}
use lib.Seq.{get_or-append-add}
use lib.Dec.{ltb}
use borrow.Author.Tests.{ltb-true, ltb-false}
use Rattle.text.specs.Writing.{joined}
use Rattle.text.proofs.Joined.{joined_more, joined_add, length_joined_le}
use Rattle.mos_layers.specs.Layers.{drop_empty, numbered}
use Rattle.mos_layers.specs.Theorems.{sum}
use Rattle.mos_layers.proofs.Sizes.{sum_append, sum_replicate, sum_drop, sum_joined_more, sum_joined_le, drop_append, drop_all, drop_joined, few, count_more, numbered_append, length_numbered}
use Rattle.mos_layers.specs.declared.Runs.{Runs}
use Rattle.mos_layers.specs.Parts.{run_at, run_sizes}
use Rattle.layout_layers.specs.Parts.{run_layer}

-- ---- in a list of numbered layers

-- in the front part, and behind it
pub numbered_front : (j : ℕ) (xs ys : List ℕ) (place : ℕ) → place < sum xs → get_or (numbered j (xs ++ ys)) place 0 ≡ get_or (numbered j xs) place 0
numbered_front j xs ys place h =
    ap (λ (l : List ℕ). get_or l place 0) (numbered_append j xs ys)
    ∙ get_or-append (numbered j xs) (numbered (j + length xs) ys) 0 place (omega (arith, length_numbered j xs))

pub numbered_behind : (j : ℕ) (xs ys : List ℕ) (left : ℕ)
    → get_or (numbered j (xs ++ ys)) (sum xs + left) 0 ≡ get_or (numbered (j + length xs) ys) left 0
numbered_behind j xs ys left =
    ap (λ (l : List ℕ). get_or l (sum xs + left) 0) (numbered_append j xs ys)
    ∙ ap (λ (n : ℕ). get_or (numbered j xs ++ numbered (j + length xs) ys) (n + left) 0) (sym (length_numbered j xs))
    ∙ get_or-append-add (numbered j xs) (numbered (j + length xs) ys) left 0

-- of layers that all have one size
pub numbered_run : (j times size left : ℕ) → 0 < size → left < times * size → get_or (numbered j (replicate times size)) left 0 ≡ j + left / size
numbered_run j zero size left s h = absurd (let z : ⊥ = omega (arith, zero-mul size) in z)
numbered_run j (suc times) size left s h = go (λ k. numbered_run (suc j) times size k s) (ltb left size) refl
  where
    go : ((k : ℕ) → k < times * size → get_or (numbered (suc j) (replicate times size)) k 0 ≡ suc j + k / size) → (t : Bool) → ltb left size ≡ t → get_or (replicate size j ++ numbered (suc j) (replicate times size)) left 0 ≡ j + left / size
    go ih true t =
        let l : left < size = ltb-true left size t in
        get_or-append (replicate size j) (numbered (suc j) (replicate times size)) 0 left (omega (arith, length-replicate size j))
        ∙ get_or-replicate size left j 0 l
        ∙ sym (ap (λ (n : ℕ). j + n) (div-eq_of_lt l) ∙ add-zero j)
    go ih false t =
        let l : size ≤ left = ltb-false left size t in
        let e : left ≡ length (replicate size j) + (left - size) = omega (arith, length-replicate size j) in
        ap (λ (n : ℕ). get_or (replicate size j ++ numbered (suc j) (replicate times size)) n 0) e
        ∙ get_or-append-add (replicate size j) (numbered (suc j) (replicate times size)) (left - size) 0
        ∙ ih (left - size) (omega (arith, suc-mul times size))
        ∙ omega (arith, div-eq-sub-div s l)

-- every element is a layer's number
pub numbered_below : (j : ℕ) (zs : List ℕ) (place : ℕ) → place < sum zs → get_or (numbered j zs) place 0 < j + length zs
numbered_below j [] place h = absurd (let z : ⊥ = omega arith in z)
numbered_below j (size ∷ zs) place h = go (numbered_below (suc j) zs) (ltb place size) refl
  where
    go : ((k : ℕ) → k < sum zs → get_or (numbered (suc j) zs) k 0 < suc j + length zs) → (t : Bool) → ltb place size ≡ t → get_or (replicate size j ++ numbered (suc j) zs) place 0 < j + suc (length zs)
    go ih true t =
        let l : place < size = ltb-true place size t in
        omega (arith, get_or-append (replicate size j) (numbered (suc j) zs) 0 place (omega (arith, length-replicate size j)), get_or-replicate size place j 0 l)
    go ih false t =
        let l : size ≤ place = ltb-false place size t in
        let e : place ≡ length (replicate size j) + (place - size) = omega (arith, length-replicate size j) in
        omega (
          arith,
          ap (λ (n : ℕ). get_or (replicate size j ++ numbered (suc j) zs) n 0) e,
          get_or-append-add (replicate size j) (numbered (suc j) zs) (place - size) 0,
          ih (place - size) (omega arith),
        )

-- a layer that is not empty is met: its first place
pub numbered_met : (j : ℕ) (zs : List ℕ) (a : ℕ) → a < length (drop_empty zs)
    → (place : ℕ) × (place < sum (drop_empty zs)) × (get_or (numbered j (drop_empty zs)) place 0 ≡ j + a)
numbered_met j [] a h = absurd (let z : ⊥ = omega arith in z)
numbered_met j (zero ∷ zs) a h = numbered_met j zs a h
numbered_met j (suc size ∷ zs) zero h = (0, omega arith, sym (add-zero j))
numbered_met j (suc size ∷ zs) (suc a) h =
    let r = numbered_met (suc j) zs a (omega arith) in (
      length (replicate (suc size) j) + r.0,
      omega (arith, r.1, length-replicate (suc size) j),
      get_or-append-add (replicate (suc size) j) (numbered (suc j) (drop_empty zs)) r.0 0 ∙ r.2 ∙ omega arith,
    )

-- ---- after i runs

module _ (f : ℕ → List ℕ) (i place left : ℕ) (passed : place ≡ left + sum (joined f i)) where
  -- the place is in the next run
  pub run_holds : (count : ℕ) → i < count → left < sum (f i)
      → get_or (numbered 0 (drop_empty (joined f count))) place 0 ≡ get_or (numbered (length (drop_empty (joined f i))) (drop_empty (f i))) left 0
  run_holds count h l =
      let A = drop_empty (joined f i) in
      let B = drop_empty (f i) in
      let C = drop_empty (joined (λ c. f (i + 1 + c)) (count - (i + 1))) in
      let front : drop_empty (joined f (i + 1)) ≡ A ++ B = ap drop_empty (joined_more f i) ∙ drop_append (joined f i) (f i) in
      let all : drop_empty (joined f count) ≡ (A ++ B) ++ C
      = ap (λ (k : ℕ). drop_empty (joined f k)) (let q : count ≡ i + 1 + (count - (i + 1)) = omega arith in q)
      ∙ ap drop_empty (joined_add f (i + 1) (count - (i + 1)))
      ∙ drop_append (joined f (i + 1)) (joined (λ c. f (i + 1 + c)) (count - (i + 1)))
      ∙ ap (λ (x : List ℕ). x ++ C) front in
      ap (λ (x : List ℕ). get_or (numbered 0 x) place 0) all
      ∙ numbered_front 0 (A ++ B) C place (omega (arith, sum_append A B, sum_drop (joined f i), sum_drop (f i)))
      ∙ ap (λ (k : ℕ). get_or (numbered 0 (A ++ B)) k 0) (let q : place ≡ sum A + left = omega (arith, sum_drop (joined f i)) in q)
      ∙ numbered_behind 0 A B left
      ∙ ap (λ (k : ℕ). get_or (numbered k B) left 0) (zero-add (length A))

-- in a run of layers of one size
module _ (f : ℕ → List ℕ) (i place left times size number : ℕ) (is : f i ≡ replicate times size) (passed : place ≡ left + sum (joined f i))
    (counted : number ≡ length (drop_empty (joined f i))) (inside : left < size * times) where
  run_sized : 0 < size
  run_sized = pos_of_ne-zero (λ e. let q : size * times ≡ 0 * times = ap (λ (n : ℕ). n * times) e in omega (arith, zero-mul times))

  pub run_size : 0 < size
  run_size = run_sized

  pub run_found : (count : ℕ) → i < count → number + left / size ≡ get_or (numbered 0 (drop_empty (joined f count))) place 0
  run_found count h =
      let l : left < times * size = omega (arith, mul_comm size times) in
      sym
      (run_holds f i place left passed count h (omega (arith, ap sum is, sum_replicate times size))
      ∙ ap (λ (x : List ℕ). get_or (numbered (length (drop_empty (joined f i))) x) left 0)
      (ap drop_empty is ∙ drop_all times size (λ e. omega (arith, run_sized)))
      ∙ numbered_run (length (drop_empty (joined f i))) times size left run_sized l
      ∙ ap (λ (k : ℕ). k + left / size) (sym counted))

  -- no more layers than places
  pub run_small : number + left / size ≤ place
  run_small = omega (arith, few (joined f i), div-le_self left size)

-- ---- in eight runs

module _ (runs : Runs) where
  abbrev run_of : ℕ → List ℕ
  run_of = run_at runs.sizes runs.times

  module _ (i : ℕ) (h : i < 8) where
    abbrev size : ℕ
    size = get_or runs.sizes i 0

    abbrev times : ℕ
    times = get_or runs.times i 0

    -- the run is within the whole
    pub run_within : sum (joined run_of i) + times * size ≤ sum (run_sizes runs)
    run_within = omega (arith, sum_joined_more run_of i, sum_joined_le run_of (i + 1) 8 (omega arith), sum_replicate times size)

    pub run_span : sum (joined run_of (i + 1)) ≡ sum (joined run_of i) + times * size
    run_span = omega (arith, sum_joined_more run_of i, sum_replicate times size)

    pub span_fits : sum (run_sizes runs) ≤ 65535 → size * times ≤ 65535
    span_fits b = omega (arith, run_within, mul_comm times size)

    -- its layers are among all
    pub layers_within : length (drop_empty (joined run_of i)) + length (drop_empty (replicate times size)) ≤ length (drop_empty (run_sizes runs))
    layers_within =
        omega (
          arith,
          count_more run_of i {count = length (drop_empty (joined run_of i))} {run = length (drop_empty (replicate times size))} refl refl,
          ap length (drop_joined run_of (i + 1)),
          ap length (drop_joined run_of 8),
          length_joined_le (λ k. drop_empty (run_of k)) (i + 1) 8 (omega arith),
        )

    pub count_within : (first more : ℕ) → first ≡ length (drop_empty (joined run_of i)) → more ≡ length (drop_empty (replicate times size)) → first + more ≤ sum (run_sizes runs)
    count_within first more e q = omega (arith, layers_within, few (run_sizes runs))

    module _ (place left first : ℕ) (passed : place ≡ left + sum (joined run_of i)) (counted : first ≡ length (drop_empty (joined run_of i))) where
      -- a place of this run
      module _ (inside : left < size * times) where
        pub here_size : 0 < size
        here_size = run_size run_of i place left times size first refl passed counted inside

        pub here_small : first + left / size ≤ place
        here_small = run_small run_of i place left times size first refl passed counted inside

        pub here_found : first + left / size ≡ run_layer runs place
        unfolding run_layer
        here_found = run_found run_of i place left times size first refl passed counted inside 8 h

      -- a place behind it
      pub past_run : size * times ≤ left → place ≡ left - size * times + sum (joined run_of (i + 1))
      past_run b = omega (arith, run_span, mul_comm times size)

      pub past_count : (more : ℕ) → more ≡ length (drop_empty (replicate times size)) → first + more ≡ length (drop_empty (joined run_of (i + 1)))
      past_count more e = count_more run_of i counted e

  -- no place is behind all runs
  pub none_behind : (place left i : ℕ) → place ≡ left + sum (joined run_of i) → place < sum (run_sizes runs) → i ≤ 8 → 8 ≤ i → ⊥
  none_behind place left i passed on a b =
      let e : i ≡ 8 = omega arith in
      omega (arith, ap (λ (k : ℕ). sum (joined run_of k)) e)
