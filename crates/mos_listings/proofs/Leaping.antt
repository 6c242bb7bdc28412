-- Leaping over a run of children: k of them take k times the shorter step from the longer one, and add k times its count.
use Rattle.std.specs.Prelude.{Option, None, Some, option_map}
use Prim.Native.Nat.{ℕ, zero, suc, ◌+◌, ◌*◌, ◌-◌, ◌/◌, ◌≤◌, ◌<◌}
use mathlib.Core.Path.{◌≡◌, refl, sym, ap, ◌∙◌, subst}
use mathlib.Core.Bool.{true}
use native.Mathlib.Nat.{suc-mul, div-mul-le_self, lt-div-mul-add}
use native.Mathlib.Omega.{arith}
use lib.ListN.{length}
use Rattle.mos.specs.declared.Mos.{Mos}
use Rattle.mos.specs.Patterns.{mos, primaries, secondaries, primary, secondary, count_of, is_pattern, child_of, dual_of, parent_of}
use Rattle.mos.specs.Walks.{onward, walk, children, parents, listed}
use Rattle.mos_listings.specs.declared.Walk.{Walk}
use Rattle.mos_listings.specs.declared.Walk.TheVariants.{Children, Parents}
use Rattle.mos_listings.specs.Listed.{walk_of}
use Rattle.mos_listings.specs.Parts.{Leaps}
use Rattle.mos.proofs.Sizes.{counts_fit, pattern_fits}
use Rattle.mos.proofs.Descent.{child_at, child_longer_primary, child_longer_secondary, child_keeps_pattern}
use Rattle.mos.proofs.Sequences.{children_count, length_listed}

same_mos : {a b p s a' b' p' s' : ℕ} → a ≡ a' → b ≡ b' → p ≡ p' → s ≡ s' → mos a b p s ≡ mos a' b' p' s'
same_mos e f g h = cc

-- k patterns on, of a walk whose next k patterns are known
record On (m to : Mos) (k : ℕ) : Type 0 where
  pub counted : length (children m) ≡ length (children to) + k
  pub pattern : is_pattern to ≡ true

on_start : (m to : Mos) → is_pattern m ≡ true → m ≡ to → On m to 0
on_start m to p e = record {
  counted = omega (arith, ap (λ (x : Mos). length (children x)) e);
  pattern = subst (λ (x : Mos). is_pattern x ≡ true) e p;
}

on_more : {m q to : Mos} (k : ℕ) → On m q k → child_of q ≡ Some to → On m to (suc k)
on_more {m} {q} {to} k o e = record {
  counted = omega (arith, o.counted, children_count q to e);
  pattern = child_keeps_pattern (child_at e) o.pattern;
}

module _ (m : Mos) (is : is_pattern m ≡ true) where
  -- the primary step is the longer one
  abbrev pub down : ℕ → Mos
  down k = mos (primaries m) (secondaries m + k * primaries m) (primary m - k * secondary m) (secondary m)

  on_down : 0 < secondary m → (k : ℕ) → k * secondary m < primary m → On m (down k) k
  on_down z zero h = on_start m (down 0) is (same_mos refl (omega arith) (omega arith) refl)
  on_down z (suc k) h =
      on_more k (on_down z k (omega (arith, suc-mul k (secondary m))))
      (child_longer_primary (down k) z (omega (arith, suc-mul k (secondary m)))
      ∙ ap Some
      (same_mos refl (omega (arith, suc-mul k (primaries m))) (omega (arith, suc-mul k (secondary m))) refl))

  -- the secondary step is the longer one
  abbrev pub up : ℕ → Mos
  up k = mos (primaries m + k * secondaries m) (secondaries m) (primary m) (secondary m - k * primary m)

  on_up : 0 < primary m → (k : ℕ) → k * primary m < secondary m → On m (up k) k
  on_up z zero h = on_start m (up 0) is (same_mos (omega arith) refl refl (omega arith))
  on_up z (suc k) h =
      on_more k (on_up z k (omega (arith, suc-mul k (primary m))))
      (child_longer_secondary (up k) z (omega (arith, suc-mul k (primary m)))
      ∙ ap Some
      (same_mos (omega (arith, suc-mul k (secondaries m))) refl refl (omega (arith, suc-mul k (primary m)))))

  -- as many turns as leave the longer step above 0
  module _ (shorter longer : ℕ) (z : 0 < shorter) (h : shorter < longer) where
    turns_below : (longer - 1) / shorter * shorter < longer
    turns_below = omega (arith, div-mul-le_self (longer - 1) shorter)

    turns_some : shorter ≤ (longer - 1) / shorter * shorter
    turns_some = go ((longer - 1) / shorter) refl
      where
        go : (k : ℕ) → (longer - 1) / shorter ≡ k → shorter ≤ k * shorter
        go zero e = absurd (let y : ⊥ = omega (arith, lt-div-mul-add {a = longer - 1} z, ap (λ (j : ℕ). j * shorter) e) in y)
        go (suc k) e = omega (arith, suc-mul k shorter)

  -- what the code's leaps ask for and promise
  module _ (z : 0 < secondary m) (h : secondary m < primary m) where
    pub down_fits : secondaries m + (primary m - 1) / secondary m * primaries m ≤ 65535
    down_fits =
        let k = (primary m - 1) / secondary m in
        let l = turns_below (secondary m) (primary m) z h in
        omega (arith, counts_fit (down k) (omega (arith, l)) z, pattern_fits (down k) (on_down z k l).pattern)

    pub down_stays : (primary m - 1) / secondary m * secondary m < primary m
    down_stays = turns_below (secondary m) (primary m) z h

    pub leaps_down : Leaps m ((primary m - 1) / secondary m) (down ((primary m - 1) / secondary m))
    leaps_down =
        let o = on_down z ((primary m - 1) / secondary m) down_stays in
        record { counted = o.counted; pattern = o.pattern; falls = omega (arith, turns_some (secondary m) (primary m) z h, down_stays) }

  module _ (z : 0 < primary m) (h : primary m < secondary m) where
    pub up_fits : primaries m + (secondary m - 1) / primary m * secondaries m ≤ 65535
    up_fits =
        let k = (secondary m - 1) / primary m in
        let l = turns_below (primary m) (secondary m) z h in
        omega (arith, counts_fit (up k) z (omega (arith, l)), pattern_fits (up k) (on_up z k l).pattern)

    pub up_stays : (secondary m - 1) / primary m * primary m < secondary m
    up_stays = turns_below (primary m) (secondary m) z h

    pub leaps_up : Leaps m ((secondary m - 1) / primary m) (up ((secondary m - 1) / primary m))
    leaps_up =
        let o = on_up z ((secondary m - 1) / primary m) up_stays in
        record { counted = o.counted; pattern = o.pattern; falls = omega (arith, turns_some (primary m) (secondary m) z h, up_stays) }

-- ---- a pattern has as many parents as its dual has children

parents_rest : (k : ℕ) (o : Option Mos) → ((c : Mos) → length (walk parent_of k (dual_of c)) ≡ length (walk child_of k c))
    → length (onward (option_map dual_of o) (walk parent_of k)) ≡ length (onward o (walk child_of k))
parents_rest k None h = refl
parents_rest k (Some c) h = h c

dual_walk : (k : ℕ) (m : Mos) → length (walk parent_of k (dual_of m)) ≡ length (walk child_of k m)
unfolding walk parent_of
dual_walk zero m = refl
dual_walk (suc k) m = ap suc (parents_rest k (child_of m) (dual_walk k))

pub dual_count : (m : Mos) → length (children (dual_of m)) ≡ length (parents m)
unfolding children parents
dual_count m = sym (dual_walk (count_of m) (dual_of m))

pub dual_listed : (m : Mos) → length (listed (children (dual_of m))) ≡ length (listed (parents m))
dual_listed m = omega (arith, length_listed (children (dual_of m)), length_listed (parents m), dual_count m)

-- both walks have as many patterns as there are children to go along
pub walk_long : (w : Walk) (m : Mos) → length (listed (walk_of w m)) ≡ length (listed (children m))
walk_long Children m = refl
walk_long Parents m = sym (dual_listed (dual_of m))
