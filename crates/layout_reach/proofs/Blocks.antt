-- The nearest key of a block: within it the key itself, else one of the two ends, since the distance rises and then falls along it.
use Prim.Native.Nat.{ℕ, ◌+◌, ◌-◌, ◌≤◌, ◌<◌, min}
use mathlib.Core.Path.{◌≡◌, refl, sym, ap, ◌∙◌, subst}
use mathlib.Core.Logic.{◌⊎◌, inl, inr}
use mathlib.Core.Bool.{Bool, true, false}
use lib.Dec.{ltb}
use lib.IntN.{pos}
use borrow.Author.Tests.{ltb-true, ltb-false}
use native.Mathlib.Omega.{arith}
use Rattle.layout_reach.specs.Reach.{distance}
use Rattle.layout_reach.specs.Parts.{Block, NearerEnd, NearestIn}
use Rattle.layout_reach.proofs.Distances.{gap, distance_is}

above : (P j key : ℕ) → key ≤ j → j < P → distance P (pos j) (pos key) ≡ min (j - key) (P - (j - key))
above P j key h l =
    distance_is P j key l (omega arith) ∙ ap (λ (g : ℕ). min g (P - g)) (let z : gap j key ≡ j - key = omega arith in z)

below : (P j key : ℕ) → j ≤ key → key < P → distance P (pos j) (pos key) ≡ min (P - (key - j)) (key - j)
below P j key h l =
    distance_is P j key (omega arith) l
    ∙ ap (λ (g : ℕ). min g (P - g)) (let z : gap j key ≡ key - j = omega arith in z)
    ∙ (let z : min (key - j) (P - (key - j)) ≡ min (P - (key - j)) (key - j) = omega arith in z)

zero_apart : (P g : ℕ) → g < P → 0 ≡ min g (P - g) → g ≡ 0
zero_apart P g h e = omega arith

distance_self : (P a : ℕ) → a < P → distance P (pos a) (pos a) ≡ 0
distance_self P a h = above P a a (omega arith) h ∙ (let z : min (a - a) (P - (a - a)) ≡ 0 = omega arith in z)

module _ (P base n key : ℕ) (b : Block P base n) (hk : key < P) where
  pub key_itself : base ≤ key → key < base + n → NearestIn P base n key key
  key_itself h l =
      record {
        from = h;
        below = l;
        least = λ j f t. omega (arith, distance_self P key hk);
        lower =
            λ j f t e.
            let g : gap j key ≡ 0
            = zero_apart P _ (omega (arith, b.fits)) (sym (distance_self P key hk) ∙ e ∙ distance_is P j key (omega (arith, b.fits)) hk) in
            omega arith;
      }

  abbrev pub Outside : Type 0
  Outside = (key < base) ⊎ (base + n ≤ key)

  -- along a block that the key is not in one way round grows and the other shrinks; the smaller is the distance
  record Ways : Type 0 where
    growing : ℕ → ℕ
    shrinking : ℕ → ℕ
    round : (i : ℕ) → base ≤ i → i < base + n → growing i + shrinking i ≡ P
    smaller : (i : ℕ) → base ≤ i → i < base + n → distance P (pos i) (pos key) ≡ min (growing i) (shrinking i)
    grows : (i j : ℕ) → base ≤ i → i ≤ j → j < base + n → growing i ≤ growing j
    stays_behind : (i j : ℕ) → base ≤ i → i < base + n → j < base + n → growing i ≤ growing j → i ≤ j

  ways : Outside → Ways
  ways (inl o) =
      record {
        growing = λ i. i - key;
        shrinking = λ i. P - (i - key);
        round = λ i f t. omega (arith, b.fits);
        smaller = λ i f t. above P i key (omega arith) (omega (arith, b.fits));
        grows = λ i j f h t. omega arith;
        stays_behind = λ i j f t u h. omega arith;
      }
  ways (inr o) =
      record {
        growing = λ i. P - (key - i);
        shrinking = λ i. key - i;
        round = λ i f t. omega arith;
        smaller = λ i f t. below P i key (omega arith) hk;
        grows = λ i j f h t. omega arith;
        stays_behind = λ i j f t u h. omega arith;
      }

  module _ (last : ℕ) (e : last + 1 ≡ base + n) where
    -- both ways round, of the block's ends and of a key in it
    record Three (j db dj dl : ℕ) : Type 0 where
      no_nearer_than_last : dl < db → dl ≤ dj
      only_last : dl < db → dl ≡ dj → last ≤ j
      no_nearer_than_base : db ≤ dl → db ≤ dj

    three : Outside → (j : ℕ) → base ≤ j → j < base + n
        → Three j (distance P (pos base) (pos key)) (distance P (pos j) (pos key)) (distance P (pos last) (pos key))
    three o j f t =
        let w = ways o in
        let from : base ≤ base = omega arith in
        let some : base < base + n = omega (arith, b.some) in
        let end : base ≤ last = omega (arith, b.some) in
        let ends : last < base + n = omega arith in
        let r₁ = w.round base from some in
        let r₂ = w.round j f t in
        let r₃ = w.round last end ends in
        let s₁ = w.smaller base from some in
        let s₂ = w.smaller j f t in
        let s₃ = w.smaller last end ends in
        let g₁ = w.grows base j from f t in
        let g₂ = w.grows j last f (omega arith) ends in
        record {
          no_nearer_than_last = λ h. omega arith;
          only_last = λ h q. w.stays_behind last j end ends t (omega arith);
          no_nearer_than_base = λ h. omega arith;
        }

    last_is : Outside → distance P (pos last) (pos key) < distance P (pos base) (pos key) → NearestIn P base n key last
    last_is o h =
        record {
          from = omega (arith, b.some);
          below = omega arith;
          least = λ j f t. (three o j f t).no_nearer_than_last h;
          lower = λ j f t q. (three o j f t).only_last h q;
        }

    base_is : Outside → distance P (pos base) (pos key) ≤ distance P (pos last) (pos key) → NearestIn P base n key base
    base_is o h =
        record {
          from = omega arith;
          below = omega (arith, b.some);
          least = λ j f t. (three o j f t).no_nearer_than_base h;
          lower = λ j f t q. f;
        }

    pub end_is : Outside → (r : ℕ) → NearerEnd P base last key r → NearestIn P base n key r
    end_is o r w = by w.which
      where
        by : ((r ≡ last) × (distance P (pos last) (pos key) < distance P (pos base) (pos key)))
            ⊎ ((r ≡ base) × (distance P (pos base) (pos key) ≤ distance P (pos last) (pos key))) → NearestIn P base n key r
        by (inl (q, h)) = subst (NearestIn P base n key) (sym q) (last_is o h)
        by (inr (q, h)) = subst (NearestIn P base n key) (sym q) (base_is o h)

-- ---- as the code counts the distance

pub distance_first : (P a b r : ℕ) → a < b → b < P → r ≡ min (b - a) (P - (b - a)) → r ≡ distance P (pos a) (pos b)
distance_first P a b r h l e =
    e ∙ (let z : min (b - a) (P - (b - a)) ≡ min (P - (b - a)) (b - a) = omega arith in z) ∙ sym (below P a b (omega arith) l)

pub distance_second : (P a b r : ℕ) → b ≤ a → a < P → r ≡ min (a - b) (P - (a - b)) → r ≡ distance P (pos a) (pos b)
distance_second P a b r h l e = e ∙ sym (above P a b h l)

-- .. whichever of the two is the lower
pub distance_gap : (P a b gap r : ℕ) → a < P → b < P → gap ≡ (a - b) + (b - a) → r ≡ min gap (P - gap) → r ≡ distance P (pos a) (pos b)
distance_gap P a b gap r ha hb g e = by (ltb a b) refl
  where
    by : (t : Bool) → ltb a b ≡ t → r ≡ distance P (pos a) (pos b)
    by true h = let k = ltb-true a b h in distance_first P a b r k hb (e ∙ ap (λ (n : ℕ). min n (P - n)) (let z : gap ≡ b - a = omega arith in z))
    by false h = let k = ltb-false a b h in distance_second P a b r k ha (e ∙ ap (λ (n : ℕ). min n (P - n)) (let z : gap ≡ a - b = omega arith in z))

-- ---- every block has a nearest key

pub some_nearest : (P base n key : ℕ) → Block P base n → key < P → (r : ℕ) × NearestIn P base n key r
some_nearest P base n key b hk = by (ltb key base) (ltb key (base + n)) refl refl
  where
    last : ℕ
    last = base + n - 1

    outside : Outside P base n key b hk → (r : ℕ) × NearestIn P base n key r
    outside o = ends (ltb (distance P (pos last) (pos key)) (distance P (pos base) (pos key))) refl
      where
        ends : (t : Bool) → ltb (distance P (pos last) (pos key)) (distance P (pos base) (pos key)) ≡ t → (r : ℕ) × NearestIn P base n key r
        ends true q = (last, last_is P base n key b hk last (omega (arith, b.some)) o (ltb-true _ _ q))
        ends false q = (base, base_is P base n key b hk last (omega (arith, b.some)) o (ltb-false _ _ q))

    by : (t u : Bool) → ltb key base ≡ t → ltb key (base + n) ≡ u → (r : ℕ) × NearestIn P base n key r
    by true u q w = outside (inl (ltb-true key base q))
    by false true q w = (key, key_itself P base n key b hk (ltb-false key base q) (ltb-true key (base + n) w))
    by false false q w = outside (inr (ltb-false key (base + n) w))
