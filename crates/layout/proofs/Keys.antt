-- An accepted layout has at least as many keys in a cycle as letters: its pattern's N steps, each at least n, fill the octave.
use Rattle.std.specs.Prelude.{Some, slice_get}
use Prim.Native.Nat.{ℕ, zero, suc, ◌+◌, ◌*◌, ◌-◌, ◌%◌, ◌<◌, ◌≤◌, ◌∣◌}
use mathlib.Core.Path.{◌≡◌, refl, sym, ap, ◌∙◌, subst}
use mathlib.Core.Logic.{◌⊎◌, inl, inr, ⊎_elim}
use mathlib.Core.List.{List, [], ◌∷◌}
use mathlib.Core.Bool.{Bool, true, false}
use native.Mathlib.Nat.{mod-lt, dvd-mod_iff, dvd-sub, dvd-add, dvd_antisymm, le-div_iff_mul-le, le_refl}
use native.Mathlib.Omega.{arith}
use lib.Dec.{eqb}
use borrow.Author.Tests.{eqb-true}
use Rattle.math.specs.Gcd.{gcd}
use Rattle.math.proofs.Gcd.{gcd_is}
use Rattle.mos.specs.declared.Mos.{Mos}
use Rattle.mos.specs.Patterns.{primaries, secondaries, primary, secondary, count_of, size_of, genesis}
use Rattle.mos.specs.Walks.{children, first_with}
use Rattle.mos.proofs.Descent.{child_at, child_counts, child_steps, child_keeps_size}
use Rattle.mos.proofs.Theorems.{walk_keeps, child_keeps, letters_fit, genesis_size}
use Rattle.pergen.specs.Pergen.{cycles, reduced}
use Rattle.pergen.proofs.Inverse.{cycles_positive}
use Rattle.layout.specs.Layouts.{Layout, reduced_in}
use Rattle.layout.proofs.Finding.{Parts}

-- the first pattern with n steps stands somewhere on the walk and has n steps
pub first_at : (n : ℕ) (ms : List Mos) (m : Mos) → first_with n ms ≡ Some m → (k : ℕ) × (slice_get ms k ≡ Some m) × (count_of m ≡ n)
first_at n [] m e = absurd (let z : ◌≡◌ {A = ℕ} 0 1 = cc in omega arith)
first_at n (x ∷ ms) m e = by (eqb (count_of x) n) refl e (first_at n ms m)
  where
    by : (b : Bool) → eqb (count_of x) n ≡ b → elim b [ true ↦ Some x | false ↦ first_with n ms ] ≡ Some m
        → (first_with n ms ≡ Some m → (k : ℕ) × (slice_get ms k ≡ Some m) × (count_of m ≡ n))
        → (k : ℕ) × (slice_get (x ∷ ms) k ≡ Some m) × (count_of m ≡ n)
    by true t q ih = (
      zero,
      q,
      (let f : x ≡ m = cc in ap count_of (sym f) ∙ eqb-true (count_of x) n t),
    )
    by false t q ih = let r = ih q in (suc r.0, r.1, r.2)

-- a pattern of the walk with more than two steps is a child, so both its steps are above 0
pub steps_above : (P G k : ℕ) (m : Mos) → slice_get (children (genesis P G)) k ≡ Some m → 2 < count_of m → (0 < primary m) × (0 < secondary m)
steps_above P G k m e h =
    ⊎_elim (λ (s : count_of m ≤ 2). absurd (let z : ⊥ = omega arith in z)) (λ (s : (0 < primary m) × (0 < secondary m)). s)
    (walk_keeps (λ x. (count_of x ≤ 2) ⊎ ((0 < primary x) × (0 < secondary x))) (λ x c f h. inr (child_steps (child_at f))) k (genesis P G) m e
    (inl (le_refl 2)))

-- counts never fall, so both are above 0
pub counts_above : (P G k : ℕ) (m : Mos) → slice_get (children (genesis P G)) k ≡ Some m → (0 < primaries m) × (0 < secondaries m)
counts_above P G k m e =
    walk_keeps (λ x. (0 < primaries x) × (0 < secondaries x))
    (λ x c f h. (omega (arith, h.0, child_counts (child_at f)), omega (arith, h.1, child_counts (child_at f))))
    k (genesis P G) m e (omega arith, omega arith)

pub walk_size : (P G k : ℕ) (m : Mos) → 0 < P → slice_get (children (genesis P G)) k ≡ Some m → size_of m ≡ P
walk_size P G k m h e =
    walk_keeps (λ x. size_of x ≡ P) (λ x c f s. child_keeps_size (child_at f) ∙ s) k (genesis P G) m e (genesis_size P G h)

pub walk_divisor : (P G k : ℕ) (m : Mos) → slice_get (children (genesis P G)) k ≡ Some m → gcd (primary m) (secondary m) ≡ gcd (G % P) (P - G % P)
walk_divisor P G k m e =
    walk_keeps (λ x. gcd (primary x) (secondary x) ≡ gcd (G % P) (P - G % P)) (λ x c f s. child_keeps.divisor x c f ∙ s) k (genesis P G) m e refl

-- the genesis' steps have the greatest common divisor of period and generator
pub genesis_divisor : (P G : ℕ) → 0 < P → gcd (G % P) (P - G % P) ≡ gcd P G
genesis_divisor P G h =
    let below = mod-lt G h in
    let x = gcd_is (G % P) (P - G % P) in
    let y = gcd_is P G in
    let rest : gcd P G ∣ G % P = (dvd-mod_iff _ y.left).1 y.right in
    let whole : gcd (G % P) (P - G % P) ∣ P
    = subst (λ (z : ℕ). gcd (G % P) (P - G % P) ∣ z) (let q : G % P + (P - G % P) ≡ P = omega arith in q) (dvd-add _ x.left x.right) in
    dvd_antisymm
    (y.greatest _ whole ((dvd-mod_iff _ whole).0 x.left))
    (x.greatest _ rest (dvd-sub _ y.left rest))

pub enough : (l : Layout) → Parts l → 2 < l.letters → l.letters ≤ reduced_in l
unfolding reduced cycles
enough l a h =
    let P = l.octave in
    let G = l.generator in
    let m = l.pattern in
    let at = first_at l.letters (children (genesis P G)) m a.pattern in
    let more : 2 < count_of m = subst (λ (n : ℕ). 2 < n) (sym at.2) h in
    let above = steps_above P G at.0 m at.1 more in
    let fits : count_of m * gcd (primary m) (secondary m) ≤ size_of m = letters_fit.size m above.0 above.1 in
    let divisor : gcd (primary m) (secondary m) ≡ gcd P G = walk_divisor P G at.0 m at.1 ∙ genesis_divisor P G a.positive in
    let all : l.letters * gcd P G ≤ P
    = subst (λ (n : ℕ). n * gcd P G ≤ P) at.2
    (subst (λ (d : ℕ). count_of m * d ≤ P) divisor
    (subst (λ (s : ℕ). count_of m * gcd (primary m) (secondary m) ≤ s) (walk_size P G at.0 m a.positive at.1) fits)) in
    (le-div_iff_mul-le (cycles_positive P G a.positive)).1 all
