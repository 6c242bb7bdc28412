-- Storing signed numbers in a row, and listing a walk's moves: what is listed and what is still to come make up the whole.
use Rattle.std.specs.Prelude.{Some, is_some}
use Prim.Native.Nat.{ℕ, suc, ◌+◌, ◌≤◌}
use mathlib.Core.Path.{◌≡◌, refl, sym, ap, ◌∙◌, subst}
use mathlib.Core.Bool.{false}
use mathlib.Core.List.{List, [], ◌∷◌, ◌++◌, append_assoc, append-nil}
use native.Mathlib.Omega.{arith}
use lib.IntN.{ℤ}
use lib.ListN.{length, set, length-append}
use Rattle.text.specs.Writing.{Wrote}
use Rattle.text.proofs.Writing.{wrote_none, then, wrote_as, wrote_length}
use Rattle.mos.specs.declared.Mos.{Mos}
use Rattle.mos.specs.Patterns.{genesis, child_of}
use Rattle.mos.specs.Walks.{children}
use Rattle.mos_moves.specs.Moves.{Table, child_moves, genesis_moves, moves_along, walk_moves, numbers_of, listed_moves}
use Rattle.mos_moves.proofs.Going.{Going, going_genesis, going_child}
use Rattle.mos_moves.proofs.Walking.{rest_of, moves_follow, rest_next, rest_end, walk_starts}

-- ---- stores

-- four numbers, each as the code stores it
pub stored_four : (xs : List ℤ) (at : ℕ) (a b c d : ℤ) {numbers : List ℤ} → a ∷ b ∷ c ∷ d ∷ [] ≡ numbers
    → Wrote xs at numbers (set (set (set (set xs at a) (at + 1) b) (at + 2) c) (at + 3) d) (at + 4)
stored_four xs at a b c d is =
    let e : at + 1 ≡ suc at = omega arith in
    let f : at + 2 ≡ suc (suc at) = omega arith in
    let g : at + 3 ≡ suc (suc (suc at)) = omega arith in
    wrote_as is (record { content = rw (e, f, g); end = refl })

-- ---- the loop

-- the walk has been listed up to the pattern m, whose moves are t
pub record Listing (P G : ℕ) (before after : List ℤ) (m : Mos) (t : Table ℤ) (place : ℕ) : Type 0 where
  pub going : Going P G m t
  pub part : List ℤ
  pub stored : Wrote before 0 part after place
  pub whole : part ++ listed_moves (moves_along (children m) t) ≡ listed_moves (walk_moves P G)

pub listing_start : (P G : ℕ) → 1 ≤ P → (xs : List ℤ) (m : Mos) (t : Table ℤ) → m ≡ genesis P G → t ≡ genesis_moves P G → Listing P G xs xs m t 0
listing_start P G h xs m t e f =
    subst (λ (n : Mos). Listing P G xs xs n t 0) (sym e)
    (subst (λ (u : Table ℤ). Listing P G xs xs (genesis P G) u 0) (sym f)
    (record {
      going = going_genesis P G h;
      part = [];
      stored = wrote_none xs 0;
      whole = ap listed_moves (walk_starts P G);
    }))

module _ {P G : ℕ} {xs ys : List ℤ} {m : Mos} {t : Table ℤ} {place : ℕ} (l : Listing P G xs ys m t place) where
  here : listed_moves (moves_along (children m) t) ≡ numbers_of t ++ listed_moves (rest_of m t)
  here = ap listed_moves (moves_follow m t)

  -- room for these moves, where there is room for all
  pub listing_room : length (listed_moves (walk_moves P G)) ≤ length xs → place + 4 ≤ length ys
  listing_room room =
      omega (
        arith,
        wrote_length l.stored,
        l.stored.end,
        ap length l.whole,
        length-append l.part (listed_moves (moves_along (children m) t)),
        ap length here,
        length-append (numbers_of t) (listed_moves (rest_of m t)),
      )

  module _ {zs : List ℤ} {next : ℕ} (w : Wrote ys place (numbers_of t) zs next) where
    listed_here : Wrote xs 0 (l.part ++ numbers_of t) zs next
    listed_here = then l.stored w

    behind : (l.part ++ numbers_of t) ++ listed_moves (rest_of m t) ≡ listed_moves (walk_moves P G)
    behind =
        append_assoc l.part (numbers_of t) (listed_moves (rest_of m t)) ∙ ap (λ (r : List ℤ). l.part ++ r) (sym here) ∙ l.whole

    pub listing_more : (c : Mos) → child_of m ≡ Some c → (u : Table ℤ) → u ≡ child_moves m t → Listing P G xs zs c u next
    listing_more c e u f =
        subst (λ (v : Table ℤ). Listing P G xs zs c v next) (sym f)
        (record {
          going = going_child P G m c t e l.going;
          part = l.part ++ numbers_of t;
          stored = listed_here;
          whole = ap (λ (r : List (Table ℤ)). (l.part ++ numbers_of t) ++ listed_moves r) (sym (rest_next m t c e)) ∙ behind;
        })

    pub listing_end : is_some (child_of m) ≡ false → Wrote xs 0 (listed_moves (walk_moves P G)) zs next
    listing_end e =
        wrote_as
        (sym (append-nil (l.part ++ numbers_of t))
        ∙ ap (λ (r : List (Table ℤ)). (l.part ++ numbers_of t) ++ listed_moves r) (sym (rest_end m t e))
        ∙ behind)
        listed_here
