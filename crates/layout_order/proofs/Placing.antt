-- Entries that go to the places of a permutation: each place holds the entry that went there, and what lies past them stays.
use Prim.Native.Nat.{ℕ, zero, suc, ◌+◌, ◌-◌, ◌≤◌, ◌<◌}
use mathlib.Core.Path.{◌≡◌, refl, sym, ap, ap₂, ◌∙◌}
use mathlib.Core.Bool.{Bool, true, false}
use mathlib.Core.List.{List, ◌++◌}
use native.Mathlib.Numerals.{add-one}
use native.Mathlib.Decide.{dec_lt}
use native.Mathlib.Omega.{arith}
use lib.Dec.{eqb}
use lib.ListN.{length, get_or, set, take, drop, replicate, length-set, length-append, length-drop, length-replicate, get_or-append}
use lib.Seq.{get_or-set_same, get_or-set_other, get_or-append-add, get_or-drop, get_or-take, length-take-le, ext_get_or}
use borrow.Author.Tests.{eqb-true, eqb-false}
use Rattle.layout_order.specs.Order.{placed, in_chain_order, in_key_order}
use Rattle.layout_order.specs.Parts.{other, position_in, rearranged, order_of}
use Rattle.layout_order.specs.declared.parts.ListOrder.{ListOrder}
use Rattle.layout_order.specs.declared.parts.ListOrder.TheVariants.{Chain, Keys}
use Rattle.layout_order.specs.Theorems.{EntriesGoToTheirPlaces, EachUndoesTheOther}
use Rattle.layout_order.proofs.Places.{place_below, places_apart, key_there, key_there_below, key_there_lem}

-- the numbers below `count` go to different numbers below it, and each of these is one's
pub record Permutes (to : ℕ → ℕ) (count : ℕ) : Type 0 where
  pub within : (i : ℕ) → i < count → to i < count
  pub apart : (i j : ℕ) → i < count → j < count → to i ≡ to j → i ≡ j
  pub back : (j : ℕ) → j < count → ℕ
  pub back_below : (j : ℕ) (h : j < count) → back j h < count
  pub back_is : (j : ℕ) (h : j < count) → to (back j h) ≡ j

module _ (from to : ℕ → ℕ) (entries : List ℕ) where
  pub placed_length : (count : ℕ) (xs : List ℕ) → length (placed from to entries count xs) ≡ length xs
  unfolding placed
  placed_length zero xs = refl
  placed_length (suc count) xs =
      length-set (placed from to entries count xs) (to count) (get_or entries (from count) 0) ∙ placed_length count xs

  pub placed_none : (xs : List ℕ) → xs ≡ placed from to entries 0 xs
  unfolding placed
  placed_none xs = refl

  -- one entry more, as the code stores it
  pub placed_more : (k : ℕ) (xs : List ℕ) {ys : List ℕ} {p e : ℕ} → ys ≡ placed from to entries k xs → p ≡ to k
      → e ≡ get_or entries (from k) 0 → set ys p e ≡ placed from to entries (k + 1) xs
  unfolding placed
  placed_more k xs {ys} {p} {e} is at entry =
      ap (λ (l : List ℕ). set l p e) is
      ∙ ap₂ (λ (q v : ℕ). set (placed from to entries k xs) q v) at entry
      ∙ sym (ap (λ (n : ℕ). placed from to entries n xs) (add-one k))

  -- what lies past all places stays
  pub placed_past : (count : ℕ) (xs : List ℕ) (j : ℕ) → ((i : ℕ) → i < count → to i < j)
      → get_or (placed from to entries count xs) j 0 ≡ get_or xs j 0
  unfolding placed
  placed_past zero xs j h = refl
  placed_past (suc count) xs j h =
      get_or-set_other (placed from to entries count xs) (to count) j (get_or entries (from count) 0) 0
      (λ e. let z : ⊥ = omega (arith, e, h count (omega arith)) in z)
      ∙ placed_past count xs j (λ i l. h i (omega (arith, l)))

  -- the entry of i stands at its place
  pub placed_at : (count : ℕ) (xs : List ℕ) → ((i j : ℕ) → i < count → j < count → to i ≡ to j → i ≡ j)
      → (i : ℕ) → i < count → to i < length xs → get_or (placed from to entries count xs) (to i) 0 ≡ get_or entries (from i) 0
  unfolding placed
  placed_at zero xs apart i l room = absurd (let z : ⊥ = omega (arith, l) in z)
  placed_at (suc count) xs apart i l room =
      by (eqb i count) refl (λ before. placed_at count xs (λ a b la lb. apart a b (omega (arith, la)) (omega (arith, lb))) i before room)
    where
      by : (b : Bool) → eqb i count ≡ b
          → (i < count → get_or (placed from to entries count xs) (to i) 0 ≡ get_or entries (from i) 0)
          → get_or (set (placed from to entries count xs) (to count) (get_or entries (from count) 0)) (to i) 0 ≡ get_or entries (from i) 0
      by true t ih =
          let same : i ≡ count = eqb-true i count t in
          ap (λ (k : ℕ). get_or (set (placed from to entries count xs) (to count) (get_or entries (from count) 0)) (to k) 0) same
          ∙ get_or-set_same (placed from to entries count xs) (to count) (get_or entries (from count) 0) 0
          (omega (arith, placed_length count xs, ap to same, room))
          ∙ ap (λ (k : ℕ). get_or entries (from k) 0) (sym same)
      by false t ih =
          let other : i ≡ count → ⊥ = eqb-false i count t in
          get_or-set_other (placed from to entries count xs) (to count) (to i) (get_or entries (from count) 0) 0
          (λ e. other (apart i count l (omega arith) e))
          ∙ ih (omega (arith, l, other))

  -- ---- all of them

  module _ (P : ℕ) (p : Permutes to P) where
    -- of a list with room for P entries, the one at j is the one that went there
    pub placed_back : (xs : List ℕ) → P ≤ length xs → (j : ℕ) (h : j < P)
        → get_or (placed from to entries P xs) j 0 ≡ get_or entries (from (p.back j h)) 0
    placed_back xs room j h =
        let i = p.back j h in
        let there = p.back_is j h in
        ap (λ (k : ℕ). get_or (placed from to entries P xs) k 0) (sym there)
        ∙ placed_at P xs p.apart i (p.back_below j h) (omega (arith, there))

    abbrev whole_of : List ℕ
    whole_of = placed from to entries P (replicate P 0)

    pub whole_length : length whole_of ≡ P
    whole_length = placed_length P (replicate P 0) ∙ length-replicate P 0

    -- they stand at the front, and the rest is kept
    pub placed_front : (xs : List ℕ) → P ≤ length xs → placed from to entries P xs ≡ whole_of ++ drop (length whole_of) xs
    placed_front xs room =
        ext_get_or 0 (placed from to entries P xs) (whole_of ++ drop (length whole_of) xs)
        (omega (arith, placed_length P xs, length-append whole_of (drop (length whole_of) xs), length-drop (length whole_of) xs, whole_length))
        (λ j l. by j (dec_lt j P))
      where
        by : (j : ℕ) → Dec (j < P) → get_or (placed from to entries P xs) j 0 ≡ get_or (whole_of ++ drop (length whole_of) xs) j 0
        by j (yes q) =
            placed_back xs room j q
            ∙ sym
            (get_or-append whole_of (drop (length whole_of) xs) 0 j (omega (arith, q, whole_length))
            ∙ placed_back (replicate P 0) (omega (arith, length-replicate {A = ℕ} P 0)) j q)
        by j (no q) =
            let e : j ≡ length whole_of + (j - length whole_of) = omega (arith, q, whole_length) in
            placed_past P xs j (λ i l. omega (arith, p.within i l, q))
            ∙ ap (λ (k : ℕ). get_or xs k 0) e
            ∙ sym
            (ap (λ (k : ℕ). get_or (whole_of ++ drop (length whole_of) xs) k 0) e
            ∙ get_or-append-add whole_of (drop (length whole_of) xs) (j - length whole_of) 0
            ∙ get_or-drop (length whole_of) xs (j - length whole_of) 0)

-- ---- the two orders

pub order_permutes : (order : ListOrder) (P G : ℕ) → 0 < P → Permutes (position_in order P G) P
unfolding position_in
order_permutes Chain P G h =
    record {
      within = λ i l. place_below P G h i;
      apart = places_apart P G h;
      back = key_there P G h;
      back_below = key_there_below P G h;
      back_is = key_there_lem P G h;
    }
order_permutes Keys P G h =
    record { within = λ i l. l; apart = λ i j li lj e. e; back = λ j l. j; back_below = λ j l. l; back_is = λ j l. refl }

pub order_is : (order : ListOrder) (P G : ℕ) (entries : List ℕ)
    → order_of order P G entries ≡ rearranged order P G entries P (replicate P 0)
unfolding order_of position_in in_chain_order in_key_order
order_is Chain P G entries = refl
order_is Keys P G entries = refl

module _ (order : ListOrder) (P G : ℕ) (h : 0 < P) (entries : List ℕ) where
  pub order_length : length (order_of order P G entries) ≡ P
  order_length =
      ap length (order_is order P G entries)
      ∙ whole_length (position_in (other order) P G) (position_in order P G) entries P (order_permutes order P G h)

  -- what the walk leaves is the list at the front
  pub order_front : (xs : List ℕ) → P ≤ length xs
      → rearranged order P G entries P xs ≡ order_of order P G entries ++ drop (length (order_of order P G entries)) xs
  order_front xs room =
      placed_front (position_in (other order) P G) (position_in order P G) entries P (order_permutes order P G h) xs room
      ∙ ap (λ (l : List ℕ). l ++ drop (length l) xs) (sym (order_is order P G entries))

  -- the entry of key i goes from where the other order has it to where this one has
  pub entry_goes : (i : ℕ) → i < P
      → get_or (order_of order P G entries) (position_in order P G i) 0 ≡ get_or entries (position_in (other order) P G i) 0
  entry_goes i l =
      ap (λ (x : List ℕ). get_or x (position_in order P G i) 0) (order_is order P G entries)
      ∙ placed_at (position_in (other order) P G) (position_in order P G) entries P (replicate P 0) (order_permutes order P G h).apart i l
      (omega (arith, length-replicate {A = ℕ} P 0, (order_permutes order P G h).within i l))

pub entries_go_to_their_places : EntriesGoToTheirPlaces
unfolding order_of position_in
entries_go_to_their_places P G h entries =
    record {
      there = entry_goes Chain P G h entries;
      back = entry_goes Keys P G h entries;
      there_many = order_length Chain P G h entries;
      back_many = order_length Keys P G h entries;
    }

-- ---- each undoes the other

position_other_twice : (order : ListOrder) (P G i : ℕ) → position_in (other (other order)) P G i ≡ position_in order P G i
unfolding position_in
position_other_twice Chain P G i = refl
position_other_twice Keys P G i = refl

pub order_undone : (order : ListOrder) (P G : ℕ) → 0 < P → (entries : List ℕ) → P ≤ length entries
    → order_of (other order) P G (order_of order P G entries) ≡ take P entries
order_undone order P G h entries room =
    let made = order_of order P G entries in
    let back = order_permutes (other order) P G h in
    let many = order_length (other order) P G h made in
    ext_get_or 0 (order_of (other order) P G made) (take P entries) (many ∙ sym (length-take-le P entries room))
    (λ j l.
    let below : j < P = omega (arith, l, many) in
    let i = back.back j below in
    let there = back.back_is j below in
    let within = back.back_below j below in
    ap (λ (k : ℕ). get_or (order_of (other order) P G made) k 0) (sym there)
    ∙ entry_goes (other order) P G h made i within
    ∙ ap (λ (k : ℕ). get_or made k 0) (position_other_twice order P G i)
    ∙ entry_goes order P G h entries i within
    ∙ ap (λ (k : ℕ). get_or entries k 0) there
    ∙ sym (get_or-take P entries j 0 below))

pub each_undoes_the_other : EachUndoesTheOther
unfolding order_of
each_undoes_the_other P G h entries room =
    record { there_and_back = order_undone Chain P G h entries room; back_and_there = order_undone Keys P G h entries room }
