-- The eight runs are the layers of the definition: a full layer's size matters only where there is one, and runs are their own reverse.
use Prim.Native.Nat.{ℕ, zero, suc, ◌+◌, ◌*◌, ◌-◌, ◌/◌, ◌%◌, ◌≤◌, min}
use mathlib.Core.Path.{◌≡◌, refl, ap, ap₂, sym, subst, ◌∙◌}
use mathlib.Core.Bool.{Bool, true, false}
use mathlib.Core.List.{List, [], ◌∷◌, ◌++◌, append_assoc, reverse, reverse-cons, reverse-append}
use native.Mathlib.Nat.{add-zero, zero-add, mul-suc, mul-add, mul-sub, mul_comm, zero-mul, mul-le-mul_left, min-eq_left, min-eq_right, sub-eq-zero_of_le, le_of_lt}
use native.Mathlib.Numerals.{add-one}
use native.Mathlib.Omega.{arith}
use lib.ListN.{replicate}
use lib.Dec.{eqb, leb}
use borrow.Author.Tests.{eq-eqb, ne_eqb, eqb-true, eqb-false, leb-true, leb-false}
use Rattle.answer.specs.Choice.{pick}
use Rattle.text.specs.Writing.{joined}
use Rattle.mos_layers.specs.Layers.{holding, sharps, all_sizes}
use Rattle.mos_layers.specs.Theorems.{sum}
use Rattle.mos_layers.specs.Parts.{run_at}
use Rattle.mos_layers.proofs.Sizes.{sum_append, sum_replicate, sum_reverse, replicate_more, Within, within_one_more, within_append, within_run}

-- ---- the counts that a layer holds, by what the code tests

module _ (a b x y : ℕ) where
  pub holding_none : x ≡ 0 → y ≡ 0 → 0 ≡ holding a b x y
  unfolding holding
  holding_none e f = simp (eq-eqb x 0 e, eq-eqb y 0 f)

  pub holding_second : x ≡ 0 → (y ≡ 0 → ⊥) → b ≡ holding a b x y
  unfolding holding
  holding_second e f = simp (eq-eqb x 0 e, ne_eqb y 0 f) (sym (zero-add b))

  pub holding_first : (x ≡ 0 → ⊥) → y ≡ 0 → a ≡ holding a b x y
  unfolding holding
  holding_first e f = simp (ne_eqb x 0 e, eq-eqb y 0 f) (sym (add-zero a))

  pub holding_both : (x ≡ 0 → ⊥) → (y ≡ 0 → ⊥) → a + b ≡ holding a b x y
  unfolding holding
  holding_both e f = simp (ne_eqb x 0 e, ne_eqb y 0 f)

-- ---- the runs

full_runs : (t a b : ℕ) → replicate t (holding a b t t) ≡ replicate t (a + b)
full_runs zero a b = refl
full_runs (suc t) a b = ap (replicate (suc t)) (sym (holding_both a b (suc t) (suc t) (λ e. omega arith) (λ e. omega arith)))

reverse_run : (n z : ℕ) → reverse (replicate n z) ≡ replicate n z
reverse_run zero z = refl
reverse_run (suc n) z =
    reverse-cons z (replicate n z)
    ∙ ap (λ (l : List ℕ). l ++ (z ∷ [])) (reverse_run n z)
    ∙ sym (replicate_more n z)
    ∙ ap (λ (k : ℕ). replicate k z) (add-one n)

pub sharps_reversed : (a b h k : ℕ) → reverse (sharps a b h k) ≡ replicate (k - h) b ++ (replicate (h - k) a ++ replicate (min h k) (a + b))
unfolding sharps
sharps_reversed a b h k =
    reverse-append (replicate (min h k) (a + b)) (replicate (h - k) a ++ replicate (k - h) b)
    ∙ ap₂ (λ (u v : List ℕ). u ++ v)
    (reverse-append (replicate (h - k) a) (replicate (k - h) b) ∙ ap₂ (λ (u v : List ℕ). u ++ v) (reverse_run (k - h) b) (reverse_run (h - k) a))
    (reverse_run (min h k) (a + b))
    ∙ append_assoc (replicate (k - h) b) (replicate (h - k) a) (replicate (min h k) (a + b))

-- eight runs, one after the other
eight : (n f a b o t u v : ℕ) → joined (run_at (n ∷ f ∷ a ∷ b ∷ o ∷ b ∷ a ∷ f ∷ []) (1 ∷ t ∷ u ∷ v ∷ 1 ∷ v ∷ u ∷ t ∷ [])) 8
    ≡ n ∷ ((replicate t f ++ (replicate u a ++ replicate v b)) ++ (o ∷ (replicate v b ++ (replicate u a ++ replicate t f))))
unfolding joined
eight n f a b o t u v = simp append_assoc

planned_at : (a b x y h k : ℕ) → h ≡ (x - 1) / 2 → k ≡ (y - 1) / 2 → (n o : ℕ) → n ≡ holding a b x y → o ≡ holding a b ((x - 1) % 2) ((y - 1) % 2)
    → n ∷ ((replicate (min h k) (a + b) ++ (replicate (h - k) a ++ replicate (k - h) b)) ++ (o ∷ (replicate (k - h) b ++ (replicate (h - k) a ++ replicate (min h k) (a + b)))))
    ≡ all_sizes a b x y
unfolding all_sizes sharps
planned_at a b x y h k eh ek n o en eo =
    ap₂ (λ (i j : ℕ). i ∷ ((replicate (min h k) (a + b) ++ (replicate (h - k) a ++ replicate (k - h) b)) ++ (j ∷ (replicate (k - h) b ++ (replicate (h - k) a ++ replicate (min h k) (a + b)))))) en eo
    ∙ ap (λ (l : List ℕ). holding a b x y ∷ ((replicate (min h k) (a + b) ++ (replicate (h - k) a ++ replicate (k - h) b)) ++ (holding a b ((x - 1) % 2) ((y - 1) % 2) ∷ l))) (sym (sharps_reversed a b h k))
    ∙ opened
  where
    opened : holding a b x y ∷ ((replicate (min h k) (a + b) ++ (replicate (h - k) a ++ replicate (k - h) b)) ++ (holding a b ((x - 1) % 2) ((y - 1) % 2) ∷ reverse (sharps a b h k)))
        ≡ holding a b x y ∷ (sharps a b ((x - 1) / 2) ((y - 1) / 2) ++ (holding a b ((x - 1) % 2) ((y - 1) % 2) ∷ reverse (sharps a b ((x - 1) / 2) ((y - 1) / 2))))
    opened =
        ap₂ (λ (i j : ℕ). holding a b x y ∷ (sharps a b i j ++ (holding a b ((x - 1) % 2) ((y - 1) % 2) ∷ reverse (sharps a b i j)))) eh ek

-- what the code computes: e and f, then the numbers of each run
pub planned : (a b x y e f : ℕ) {n o t g u v : ℕ} → e ≡ x - 1 → f ≡ y - 1 → n ≡ holding a b x y → o ≡ holding a b (e % 2) (f % 2)
    → t ≡ min (e / 2) (f / 2) → g ≡ holding a b t t → u ≡ e / 2 - f / 2 → v ≡ f / 2 - e / 2
    → joined (run_at (n ∷ g ∷ a ∷ b ∷ o ∷ b ∷ a ∷ g ∷ []) (1 ∷ t ∷ u ∷ v ∷ 1 ∷ v ∷ u ∷ t ∷ [])) 8 ≡ all_sizes a b x y
planned a b x y e f {n} {o} {t} {g} {u} {v} ee ef en eo et eg eu ev =
    eight n g a b o t u v
    ∙ ap (λ (l : List ℕ). n ∷ ((l ++ (replicate u a ++ replicate v b)) ++ (o ∷ (replicate v b ++ (replicate u a ++ l))))) (ap (replicate t) eg ∙ full_runs t a b)
    ∙ ap (λ (k : ℕ). n ∷ ((replicate k (a + b) ++ (replicate u a ++ replicate v b)) ++ (o ∷ (replicate v b ++ (replicate u a ++ replicate k (a + b)))))) et
    ∙ ap₂ (λ (i j : ℕ). n ∷ ((replicate (min (e / 2) (f / 2)) (a + b) ++ (replicate i a ++ replicate j b)) ++ (o ∷ (replicate j b ++ (replicate i a ++ replicate (min (e / 2) (f / 2)) (a + b)))))) eu ev
    ∙ planned_at a b x y (e / 2) (f / 2) (ap (λ (i : ℕ). i / 2) ee) (ap (λ (i : ℕ). i / 2) ef) n o en
    (eo ∙ ap₂ (λ (i j : ℕ). holding a b (i % 2) (j % 2)) ee ef)

-- what `held` asks for the full layers and for the enharmonic one
pub full_room : (a b x y e f : ℕ) {t : ℕ} → e ≡ x - 1 → f ≡ y - 1 → t ≡ min (e / 2) (f / 2) → a * x + b * y ≤ 65535 → a * t + b * t ≤ 65535
full_room a b x y e f {t} ee ef et l =
    let i : t ≤ x = omega arith in
    let j : t ≤ y = omega arith in
    omega (arith, mul-le-mul_left a i, mul-le-mul_left b j)

pub odd_room : (a b x y : ℕ) {e f : ℕ} → e ≡ x - 1 → f ≡ y - 1 → a * x + b * y ≤ 65535 → a * (e % 2) + b * (f % 2) ≤ 65535
odd_room a b x y {e} {f} ee ef l =
    let i : e % 2 ≤ x = omega arith in
    let j : f % 2 ≤ y = omega arith in
    omega (arith, mul-le-mul_left a i, mul-le-mul_left b j)

-- ---- the sum of all layers

sharps_parts : (a b h k : ℕ) → min h k * (a + b) + ((h - k) * a + (k - h) * b) ≡ a * h + b * k
sharps_parts a b h k = go (leb h k) refl
  where
    go : (t : Bool) → leb h k ≡ t → min h k * (a + b) + ((h - k) * a + (k - h) * b) ≡ a * h + b * k
    go true e =
        let l : h ≤ k = leb-true h k e in
        rw (min-eq_left l, sub-eq-zero_of_le l)
        (omega (arith, mul-add h a b, zero-mul a, mul_comm (k - h) b, mul-sub b k h, mul_comm h a, mul_comm h b, mul-le-mul_left b l))
    go false e =
        let l : k ≤ h = le_of_lt (leb-false h k e) in
        rw (min-eq_right l, sub-eq-zero_of_le l)
        (omega (arith, mul-add k a b, zero-mul b, mul_comm (h - k) a, mul-sub a h k, mul_comm k a, mul_comm k b, mul-le-mul_left a l))

sharps_sum : (a b h k : ℕ) → sum (sharps a b h k) ≡ a * h + b * k
unfolding sharps
sharps_sum a b h k =
    sum_append (replicate (min h k) (a + b)) (replicate (h - k) a ++ replicate (k - h) b)
    ∙ ap₂ (λ (m n : ℕ). m + n) (sum_replicate (min h k) (a + b))
    (sum_append (replicate (h - k) a) (replicate (k - h) b) ∙ ap₂ (λ (m n : ℕ). m + n) (sum_replicate (h - k) a) (sum_replicate (k - h) b))
    ∙ sharps_parts a b h k

-- a count a with e more layers: in e div 2 layers twice, and in the enharmonic one where e is odd
more_layers : (a e : ℕ) → a * (e / 2) + (pick (eqb (e % 2) 0) 0 a + a * (e / 2)) ≡ a * e
more_layers a e = go (eqb (e % 2) 0) refl
  where
    d : a * e ≡ a * (e / 2) + a * (e / 2) + a * (e % 2)
    d =
        ap (λ (n : ℕ). a * n) (let q : e ≡ e / 2 + e / 2 + e % 2 = omega arith in q)
        ∙ mul-add a (e / 2 + e / 2) (e % 2)
        ∙ ap (λ (n : ℕ). n + a * (e % 2)) (mul-add a (e / 2) (e / 2))

    go : (t : Bool) → eqb (e % 2) 0 ≡ t → a * (e / 2) + (pick t 0 a + a * (e / 2)) ≡ a * e
    go true t =
        let r : a * (e % 2) ≡ a * 0 = ap (λ (n : ℕ). a * n) (eqb-true (e % 2) 0 t) in omega (arith, d, r)
    go false t =
        let o : e % 2 ≡ 1 = omega (arith, eqb-false (e % 2) 0 t) in
        let r : a * (e % 2) ≡ a * 1 = ap (λ (n : ℕ). a * n) o in
        omega (arith, d, r)

count_layers : (a x : ℕ) → pick (eqb x 0) 0 a + (a * ((x - 1) / 2) + (pick (eqb ((x - 1) % 2) 0) 0 a + a * ((x - 1) / 2))) ≡ a * x
count_layers a zero = omega arith
count_layers a (suc e) =
    let q : suc e - 1 ≡ e = omega arith in
    rw q (rw (ne_eqb (suc e) 0 (λ z. omega arith)) (omega (arith, more_layers a e, mul-suc a e)))

pub all_sum : (a b x y : ℕ) → sum (all_sizes a b x y) ≡ a * x + b * y
unfolding all_sizes holding
all_sum a b x y =
    omega (
      arith,
      count_layers a x,
      count_layers b y,
      sharps_sum a b ((x - 1) / 2) ((y - 1) / 2),
      sum_reverse (sharps a b ((x - 1) / 2) ((y - 1) / 2)),
      sum_append (sharps a b ((x - 1) / 2) ((y - 1) / 2))
          (holding a b ((x - 1) % 2) ((y - 1) % 2) ∷ reverse (sharps a b ((x - 1) / 2) ((y - 1) / 2))),
    )

-- ---- no layer holds more than both counts

holding_most : (a b x y : ℕ) → holding a b x y ≤ a + b
unfolding holding
holding_most a b x y = by (eqb x 0) (eqb y 0)
  where
    by : (s t : Bool) → pick s 0 a + pick t 0 b ≤ a + b
    by true true = omega arith
    by true false = omega arith
    by false true = omega arith
    by false false = omega arith

three_runs : (N i j k x y z : ℕ) → x ≤ N → y ≤ N → z ≤ N → Within N (replicate i x ++ (replicate j y ++ replicate k z))
three_runs N i j k x y z f g h =
    within_append N (replicate i x) (replicate j y ++ replicate k z) (within_run N i x f)
    (within_append N (replicate j y) (replicate k z) (within_run N j y g) (within_run N k z h))

sharps_within : (a b h k : ℕ) → Within (a + b) (sharps a b h k)
unfolding sharps
sharps_within a b h k =
    three_runs (a + b) (min h k) (h - k) (k - h) (a + b) a b (omega arith) (omega arith) (omega arith)

reversed_within : (a b h k : ℕ) → Within (a + b) (reverse (sharps a b h k))
reversed_within a b h k =
    subst (Within (a + b)) (sym (sharps_reversed a b h k))
    (three_runs (a + b) (k - h) (h - k) (min h k) b a (a + b) (omega arith) (omega arith) (omega arith))

pub all_within : (a b x y : ℕ) → Within (a + b) (all_sizes a b x y)
unfolding all_sizes
all_within a b x y =
    let h = (x - 1) / 2 in
    let k = (y - 1) / 2 in
    let odd = holding a b ((x - 1) % 2) ((y - 1) % 2) in
    within_one_more (a + b) (holding a b x y) (sharps a b h k ++ (odd ∷ reverse (sharps a b h k))) (holding_most a b x y)
    (within_append (a + b) (sharps a b h k) (odd ∷ reverse (sharps a b h k)) (sharps_within a b h k)
    (within_one_more (a + b) odd (reverse (sharps a b h k)) (holding_most a b ((x - 1) % 2) ((y - 1) % 2)) (reversed_within a b h k)))
