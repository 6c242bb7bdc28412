-- Moves along a walk: what its first pattern has and what comes next, positions, and that each pattern of the walk keeps what `Going` says.
use Rattle.std.specs.Prelude.{Option, None, Some, slice_get, is_some}
use Prim.Native.Nat.{ℕ, zero, suc, ◌*◌, ◌-◌, ◌≤◌}
use mathlib.Core.Path.{◌≡◌, refl, sym, ap, ◌∙◌, subst}
use mathlib.Core.Bool.{Bool, true, false}
use mathlib.Core.List.{List, [], ◌∷◌}
use native.Mathlib.Omega.{arith}
use lib.Dec.{eqb}
use lib.IntN.{ℤ}
use lib.ListN.{length}
use Rattle.mos.specs.declared.Mos.{Mos}
use Rattle.mos.specs.Patterns.{count_of, genesis, child_of}
use Rattle.mos.specs.Walks.{onward, children, first_with, listed}
use Rattle.mos.proofs.Sequences.{children_follow, none_of, length_listed}
use Rattle.mos_moves.specs.Moves.{Table, child_moves, genesis_moves, moves_along, walk_moves, moves_with, listed_moves}
use Rattle.mos_moves.specs.Theorems.{MovesAt, MovesBesidePatterns, MovesStandBesideThePattern}
use Rattle.mos_moves.proofs.Going.{Going, going_genesis, going_child}

-- ---- the moves of a walk, from those of what comes next

-- what comes after the first pattern
abbrev pub rest_of : Mos → Table ℤ → List (Table ℤ)
rest_of m t = moves_along (onward (child_of m) children) (child_moves m t)

module _ (m : Mos) (t : Table ℤ) where
  along_step : (ms : List Mos) → moves_along (m ∷ ms) t ≡ t ∷ moves_along ms (child_moves m t)
  unfolding moves_along
  along_step ms = refl

  pub moves_follow : moves_along (children m) t ≡ t ∷ rest_of m t
  moves_follow = ap (λ (ms : List Mos). moves_along ms t) (children_follow m) ∙ along_step (onward (child_of m) children)

  pub rest_next : (c : Mos) → child_of m ≡ Some c → rest_of m t ≡ moves_along (children c) (child_moves m t)
  rest_next c e = ap (λ (o : Option Mos). moves_along (onward o children) (child_moves m t)) e

  pub rest_end : is_some (child_of m) ≡ false → rest_of m t ≡ []
  unfolding moves_along
  rest_end e = ap (λ (o : Option Mos). moves_along (onward o children) (child_moves m t)) (none_of (child_of m) e)

-- ---- positions

later : {A : Type 0} (x : A) (l : List A) (k : ℕ) → (k ≡ 0 → ⊥) → slice_get l (k - 1) ≡ slice_get (x ∷ l) k
later x l zero h = absurd (h refl)
later x l (suc k) h = ap (slice_get l) (omega arith)

module _ (m : Mos) (t : Table ℤ) (k : ℕ) where
  pub moves_here : k ≡ 0 → Some t ≡ slice_get (moves_along (children m) t) k
  moves_here e =
      sym (ap (slice_get (t ∷ rest_of m t)) e) ∙ ap (λ (l : List (Table ℤ)). slice_get l k) (sym (moves_follow m t))

  pub moves_later : (c : Mos) → (k ≡ 0 → ⊥) → child_of m ≡ Some c
      → slice_get (moves_along (children c) (child_moves m t)) (k - 1) ≡ slice_get (moves_along (children m) t) k
  moves_later c h e =
      ap (λ (l : List (Table ℤ)). slice_get l (k - 1)) (sym (rest_next m t c e))
      ∙ later t (rest_of m t) k h
      ∙ ap (λ (l : List (Table ℤ)). slice_get l k) (sym (moves_follow m t))

  pub moves_never : (k ≡ 0 → ⊥) → is_some (child_of m) ≡ false → None ≡ slice_get (moves_along (children m) t) k
  moves_never h e = empty k h ∙ ap (λ (l : List (Table ℤ)). slice_get l k) (sym (moves_follow m t ∙ ap (λ (l : List (Table ℤ)). t ∷ l) (rest_end m t e)))
    where
      empty : (j : ℕ) → (j ≡ 0 → ⊥) → None ≡ slice_get (t ∷ []) j
      empty zero n = absurd (n refl)
      empty (suc j) n = refl

-- ---- lengths

length_along : (ms : List Mos) (t : Table ℤ) → length (moves_along ms t) ≡ length ms
unfolding moves_along
length_along [] t = refl
length_along (m ∷ ms) t = ap suc (length_along ms (child_moves m t))

pub length_listed_moves : (ts : List (Table ℤ)) → length (listed_moves ts) ≡ length ts * 4
length_listed_moves [] = refl
length_listed_moves (t ∷ ts) = omega (arith, length_listed_moves ts)

module _ (P G : ℕ) where
  pub walk_starts : moves_along (children (genesis P G)) (genesis_moves P G) ≡ walk_moves P G
  unfolding walk_moves
  walk_starts = refl

  as_many : length (walk_moves P G) ≡ length (children (genesis P G))
  as_many = ap length (sym walk_starts) ∙ length_along (children (genesis P G)) (genesis_moves P G)

  pub as_long : length (listed_moves (walk_moves P G)) ≡ length (listed (children (genesis P G)))
  as_long =
      length_listed_moves (walk_moves P G) ∙ ap (λ (n : ℕ). n * 4) as_many ∙ sym (length_listed (children (genesis P G)))

-- ---- beside each pattern its moves

beside : (k : ℕ) (ms : List Mos) (t : Table ℤ) (m : Mos) → slice_get ms k ≡ Some m → (u : Table ℤ) × (slice_get (moves_along ms t) k ≡ Some u)
unfolding moves_along
beside k [] t m e = absurd (let z : ◌≡◌ {A = ℕ} 0 1 = cc in omega arith)
beside zero (x ∷ ms) t m e = (t, refl)
beside (suc k) (x ∷ ms) t m e = beside k ms (child_moves x t) m e

pub moves_beside_patterns : MovesBesidePatterns
moves_beside_patterns P G =
    record {
      some_moves =
          λ k m e.
          let b = beside k (children (genesis P G)) (genesis_moves P G) m e in
          (b.0, record { pattern = e; moves = ap (λ (l : List (Table ℤ)). slice_get l k) (sym (walk_starts P G)) ∙ b.1 });
      as_many = as_many P G;
      as_long = as_long P G;
    }

-- the first with n steps, and its moves
first_beside : (n : ℕ) (ms : List Mos) (t : Table ℤ) (m : Mos) → first_with n ms ≡ Some m
    → (k : ℕ) × (u : Table ℤ) × (slice_get ms k ≡ Some m) × (slice_get (moves_along ms t) k ≡ Some u) × (moves_with n ms t ≡ Some u)
unfolding moves_along moves_with
first_beside n [] t m e = absurd (let z : ◌≡◌ {A = ℕ} 0 1 = cc in omega arith)
first_beside n (x ∷ ms) t m e = by (eqb (count_of x) n) (first_beside n ms (child_moves x t) m) e
  where
    by : (b : Bool)
        → (first_with n ms ≡ Some m → (k : ℕ) × (u : Table ℤ) × (slice_get ms k ≡ Some m) × (slice_get (moves_along ms (child_moves x t)) k ≡ Some u) × (moves_with n ms (child_moves x t) ≡ Some u))
        → elim b [ true ↦ Some x | false ↦ first_with n ms ] ≡ Some m
        → (k : ℕ) × (u : Table ℤ) × (slice_get (x ∷ ms) k ≡ Some m) × (slice_get (t ∷ moves_along ms (child_moves x t)) k ≡ Some u)
        × (elim b [ true ↦ Some t | false ↦ moves_with n ms (child_moves x t) ] ≡ Some u)
    by true ih q = (0, t, q, refl, refl)
    by false ih q = let r = ih q in (suc r.0, r.1, r.2, r.3, r.4)

pub moves_stand_beside_the_pattern : MovesStandBesideThePattern
moves_stand_beside_the_pattern P G n m e =
    let b = first_beside n (children (genesis P G)) (genesis_moves P G) m e in
    (b.0, b.1, record { pattern = b.2; moves = ap (λ (l : List (Table ℤ)). slice_get l b.0) (sym (walk_starts P G)) ∙ b.3 }, b.4)

-- ---- what the walk keeps, each of its patterns has

same_some : {A : Type 0} {x y : A} → Some x ≡ Some y → x ≡ y
same_some e = cc

module _ (P G : ℕ) where
  going_rest : (k : ℕ) (m q : Mos) (t u : Table ℤ)
      → ((c : Mos) (v : Table ℤ) → slice_get (children c) k ≡ Some q → slice_get (moves_along (children c) v) k ≡ Some u → Going P G c v → Going P G q u)
      → (o : Option Mos) → child_of m ≡ o → slice_get (onward o children) k ≡ Some q → slice_get (moves_along (onward o children) (child_moves m t)) k ≡ Some u
      → Going P G m t → Going P G q u
  going_rest k m q t u ih None f e d g = absurd (let z : ◌≡◌ {A = ℕ} 0 1 = cc in omega arith)
  going_rest k m q t u ih (Some c) f e d g = ih c (child_moves m t) e d (going_child P G m c t f g)

  going_along : (k : ℕ) (m q : Mos) (t u : Table ℤ) → slice_get (children m) k ≡ Some q → slice_get (moves_along (children m) t) k ≡ Some u
      → Going P G m t → Going P G q u
  going_along zero m q t u e d g =
      let f : m ≡ q = same_some (sym (ap (λ (l : List Mos). slice_get l 0) (children_follow m)) ∙ e) in
      let h : t ≡ u = same_some (sym (ap (λ (l : List (Table ℤ)). slice_get l 0) (moves_follow m t)) ∙ d) in
      subst (λ (x : Mos). Going P G x u) f (subst (λ (x : Table ℤ). Going P G m x) h g)
  going_along (suc k) m q t u e d g =
      going_rest k m q t u (λ c v. going_along k c q v u) (child_of m) refl
      (sym (ap (λ (l : List Mos). slice_get l (suc k)) (children_follow m)) ∙ e)
      (sym (ap (λ (l : List (Table ℤ)). slice_get l (suc k)) (moves_follow m t)) ∙ d)
      g

  pub going_at : (k : ℕ) (m : Mos) (t : Table ℤ) → 1 ≤ P → MovesAt P G k m t → Going P G m t
  going_at k m t h at =
      going_along k (genesis P G) m (genesis_moves P G) t at.pattern
      (ap (λ (l : List (Table ℤ)). slice_get l k) (walk_starts P G) ∙ at.moves)
      (going_genesis P G h)
