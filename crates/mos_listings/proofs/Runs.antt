-- Listing a walk in runs: what is listed and what is still to come make up the whole walk, pattern after pattern.
use Rattle.std.specs.Prelude.{Option, None, Some, option_map}
use Prim.Native.Nat.{ℕ}
use mathlib.Core.Path.{◌≡◌, refl, sym, ap, ◌∙◌}
use mathlib.Core.Bool.{Bool, true, false, ◌&&◌}
use mathlib.Core.List.{List, [], ◌∷◌, ◌++◌, append_assoc}
use native.Mathlib.Nat.{le_refl}
use native.Mathlib.Omega.{arith}
use lib.ListN.{length, length-append}
use Rattle.text.specs.Writing.{Room, Wrote}
use Rattle.text.proofs.Writing.{then, wrote_as, wrote_none, wrote_length}
use Rattle.mos.specs.declared.Mos.{Mos}
use Rattle.mos.specs.Patterns.{is_pattern, child_of, dual_of, parent_of}
use Rattle.mos.specs.Walks.{onward, parents, fields, listed}
use Rattle.mos_listings.specs.Parts.{Listing, dual_parents}
use Rattle.mos.proofs.Descent.{child_at, child_falls, child_keeps_pattern}
use Rattle.mos.proofs.Sequences.{parents_follow}

-- a run's test tells that there is a next pattern
pub both_left : (x y : Bool) {test : Bool} → test ≡ (x && y) → test ≡ true → x ≡ true
both_left true y e f = refl
both_left false y e f = absurd (let z : ◌≡◌ {A = ℕ} 0 1 = cc in omega arith)

-- the walk of parents goes on with the child of the dual
pub dual_follow : (d : Mos) → dual_parents d ≡ dual_of d ∷ onward (child_of d) dual_parents
unfolding parent_of
dual_follow d = parents_follow (dual_of d) ∙ ap (λ (rest : List Mos). dual_of d ∷ rest) (go (child_of d))
  where
    go : (o : Option Mos) → onward (option_map dual_of o) parents ≡ onward o dual_parents
    go None = refl
    go (Some c) = refl

-- any walk that goes on with the child, with what it shows of each pattern: the pattern, or its dual
module _ (walk : Mos → List Mos) (shown : Mos → Mos) (follow : (m : Mos) → walk m ≡ shown m ∷ onward (child_of m) walk) where
  pub listing_start : (m : Mos) (xs : List ℕ) (at : ℕ) → is_pattern m ≡ true → Listing walk m xs at m xs at
  listing_start m xs at p = record { part = []; wrote = wrote_none xs at; whole = refl; pattern = p; falls = le_refl _ }

  module _ (m : Mos) {xs ys : List ℕ} {at place : ℕ} (q : Mos) (l : Listing walk m xs at q ys place) where
    -- room for the next pattern, where there is room for the whole walk
    pub listing_room : Room xs at (listed (walk m)) → Room ys place (fields (shown q))
    listing_room r =
        omega (
          arith,
          wrote_length l.wrote,
          l.wrote.end,
          ap length l.whole,
          length-append l.part (listed (walk q)),
          ap (λ (ms : List Mos). length (listed ms)) (follow q),
          length-append (fields (shown q)) (listed (onward (child_of q) walk)),
        )

    -- one pattern more
    pub listing_more : (c : Mos) → child_of q ≡ Some c → {zs : List ℕ} {end : ℕ} → Wrote ys place (fields (shown q)) zs end → Listing walk m xs at c zs end
    listing_more c e w = record {
      part = l.part ++ fields (shown q);
      wrote = then l.wrote w;
      whole =
          append_assoc l.part (fields (shown q)) (listed (walk c))
          ∙ ap (λ (rest : List ℕ). l.part ++ rest)
          (sym (ap listed (follow q ∙ ap (λ (o : Option Mos). shown q ∷ onward o walk) e)))
          ∙ l.whole;
      pattern = child_keeps_pattern (child_at e) l.pattern;
      falls = omega (arith, l.falls, child_falls (child_at e));
    }

    -- the last pattern
    pub listing_end : child_of q ≡ None → {zs : List ℕ} {end : ℕ} → Wrote ys place (fields (shown q)) zs end → Wrote xs at (listed (walk m)) zs end
    listing_end e w =
        wrote_as
        (ap (λ (rest : List ℕ). l.part ++ rest) (sym (ap listed (follow q ∙ ap (λ (o : Option Mos). shown q ∷ onward o walk) e)))
        ∙ l.whole)
        (then l.wrote w)

    -- room for the rest of the walk, and the rest listed
    pub listing_rest : Room xs at (listed (walk m)) → Room ys place (listed (walk q))
    listing_rest r =
        omega (arith, wrote_length l.wrote, l.wrote.end, ap length l.whole, length-append l.part (listed (walk q)))

    pub listing_whole : {zs : List ℕ} {end : ℕ} → Wrote ys place (listed (walk q)) zs end → Wrote xs at (listed (walk m)) zs end
    listing_whole w = wrote_as l.whole (then l.wrote w)
