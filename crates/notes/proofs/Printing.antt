-- Which spellings are printed, case by case as the code tells them apart; and a view of the list: one spelling of the key, or two.
use Prim.Native.Nat.{ℕ, ◌+◌, ◌≤◌, ◌<◌}
use native.Mathlib.Nat.{add_comm, le_antisymm}
use mathlib.Core.Path.{◌≡◌, refl, sym, ap, ◌∙◌}
use mathlib.Core.Bool.{Bool, true, false}
use mathlib.Core.Logic.{◌⊎◌, inl, inr}
use mathlib.Core.List.Memᴰ
use mathlib.Core.List.{List, [], ◌∷◌, Memᴰ}
use native.Mathlib.Omega.{arith}
use lib.Dec.{eqb, ltb}
use lib.ListN.{get_or}
use borrow.Author.Tests.{eq-eqb, ne_eqb, eqb-true, eqb-false, lt-ltb, le-ltb, ltb-true, ltb-false}
use Rattle.answer.specs.Choice.{pick}
use Rattle.pergen.specs.Spelling.{stars_of, sharp_spelling, flat_spelling}
use Rattle.pergen.specs.declared.Accidentals.{Accidentals}
use Rattle.pergen.specs.declared.Spelling.{Spelling}
use Rattle.notes.specs.Names.{signs_in, letter_alone, in_order, printed, first_printed}
use Rattle.notes.specs.Theorems.{SpellingsInANameAreTheKeys}

-- ---- a letter alone

module _ (a : Accidentals) where
  pub sharps_not_alone : (a.sharp_count ≡ 0 → ⊥) → letter_alone a ≡ false
  unfolding letter_alone
  sharps_not_alone h = simp (ne_eqb _ _ h)

  pub flats_not_alone : a.sharp_count ≡ 0 → (a.flat_count ≡ 0 → ⊥) → letter_alone a ≡ false
  unfolding letter_alone
  flats_not_alone e h = simp (eq-eqb _ _ e, ne_eqb _ _ h)

  pub alone_by_indices : a.sharp_count ≡ 0 → a.flat_count ≡ 0 → letter_alone a ≡ eqb a.sharp_index a.flat_index
  unfolding letter_alone
  alone_by_indices e f = simp (eq-eqb _ _ e, eq-eqb _ _ f)

  -- and back
  alone_no_sharps : letter_alone a ≡ true → a.sharp_count ≡ 0
  alone_no_sharps e = by (eqb a.sharp_count 0) refl
    where
      by : (t : Bool) → eqb a.sharp_count 0 ≡ t → a.sharp_count ≡ 0
      by true q = eqb-true _ _ q
      by false q = absurd (let z : true ≡ false = sym e ∙ sharps_not_alone (eqb-false _ _ q) in let y : ◌≡◌ {A = ℕ} 0 1 = cc in omega arith)

  alone_no_flats : letter_alone a ≡ true → a.flat_count ≡ 0
  alone_no_flats e = by (eqb a.flat_count 0) refl
    where
      by : (t : Bool) → eqb a.flat_count 0 ≡ t → a.flat_count ≡ 0
      by true q = eqb-true _ _ q
      by false q =
          absurd
          (let z : true ≡ false = sym e ∙ flats_not_alone (alone_no_sharps e) (eqb-false _ _ q) in
          let y : ◌≡◌ {A = ℕ} 0 1 = cc in omega arith)

-- ---- the list, case by case

pick_same : (b : Bool) (l : List Spelling) → pick b l l ≡ l
pick_same true l = refl
pick_same false l = refl

module _ (sf : Bool) (a : Accidentals) where
  pub printed_alone : letter_alone a ≡ true → printed sf a ≡ sharp_spelling a ∷ []
  unfolding printed
  printed_alone h = simp h

  pub printed_sharp : a.sharp_count < a.flat_count → printed sf a ≡ sharp_spelling a ∷ []
  unfolding printed
  printed_sharp h = simp (lt-ltb _ _ h, pick_same)

  pub printed_flat : a.flat_count < a.sharp_count → printed sf a ≡ flat_spelling a ∷ []
  unfolding printed
  printed_flat h =
      simp (sharps_not_alone a (λ e. omega arith), le-ltb a.sharp_count a.flat_count (omega arith), lt-ltb _ _ h)

  pub printed_both : letter_alone a ≡ false → a.sharp_count ≤ a.flat_count → a.flat_count ≤ a.sharp_count
      → printed sf a ≡ in_order sf (sharp_spelling a) (flat_spelling a)
  unfolding printed
  printed_both n h k = simp (n, le-ltb a.sharp_count a.flat_count k, le-ltb a.flat_count a.sharp_count h)

-- ---- the view

abbrev pub Of : Accidentals → Spelling → Type 0
Of a s = (s ≡ sharp_spelling a) ⊎ (s ≡ flat_spelling a)

-- two have all signs of the key
pub data Printed (a : Accidentals) : List Spelling → Type 0 where
  one : (s : Spelling) → Of a s → Printed a (s ∷ [])
  two : (s t : Spelling) → Of a s → Of a t → signs_in s.signs + signs_in t.signs ≡ a.sharp_count + a.flat_count → Printed a (s ∷ t ∷ [])

pub printed_view : (sf : Bool) (a : Accidentals) → Printed a (printed sf a)
unfolding printed
printed_view sf a = by (letter_alone a) (ltb a.sharp_count a.flat_count) (ltb a.flat_count a.sharp_count) sf
  where
    by : (x y z w : Bool)
        → Printed a (pick x (sharp_spelling a ∷ []) (pick y (sharp_spelling a ∷ []) (pick z (flat_spelling a ∷ []) (in_order w (sharp_spelling a) (flat_spelling a)))))
    by true y z w = one (sharp_spelling a) (inl refl)
    by false true z w = one (sharp_spelling a) (inl refl)
    by false false true w = one (flat_spelling a) (inr refl)
    by false false false true = two (sharp_spelling a) (flat_spelling a) (inl refl) (inr refl) refl
    by false false false false = two (flat_spelling a) (sharp_spelling a) (inr refl) (inl refl) (add_comm a.flat_count a.sharp_count)

-- the same list by how the two counts compare; where both are printed they are no letter alone
pub data ByCounts (a : Accidentals) : List Spelling → Type 0 where
  alone : a.sharp_count ≡ 0 → a.flat_count ≡ 0 → ByCounts a (sharp_spelling a ∷ [])
  fewer_sharps : a.sharp_count < a.flat_count → ByCounts a (sharp_spelling a ∷ [])
  fewer_flats : a.flat_count < a.sharp_count → ByCounts a (flat_spelling a ∷ [])
  sharp_flat : letter_alone a ≡ false → a.sharp_count ≡ a.flat_count → ByCounts a (sharp_spelling a ∷ flat_spelling a ∷ [])
  flat_sharp : letter_alone a ≡ false → a.sharp_count ≡ a.flat_count → ByCounts a (flat_spelling a ∷ sharp_spelling a ∷ [])

pub by_counts : (sf : Bool) (a : Accidentals) → ByCounts a (printed sf a)
unfolding printed
by_counts sf a = by (letter_alone a) refl (ltb a.sharp_count a.flat_count) refl (ltb a.flat_count a.sharp_count) refl sf
  where
    by : (x : Bool) → letter_alone a ≡ x → (y : Bool) → ltb a.sharp_count a.flat_count ≡ y
        → (z : Bool) → ltb a.flat_count a.sharp_count ≡ z → (w : Bool)
        → ByCounts a (pick x (sharp_spelling a ∷ []) (pick y (sharp_spelling a ∷ []) (pick z (flat_spelling a ∷ []) (in_order w (sharp_spelling a) (flat_spelling a)))))
    by true ex y ey z ez w = alone (alone_no_sharps a ex) (alone_no_flats a ex)
    by false ex true ey z ez w = fewer_sharps (ltb-true _ _ ey)
    by false ex false ey true ez w = fewer_flats (ltb-true _ _ ez)
    by false ex false ey false ez true = sharp_flat ex (le_antisymm (ltb-false _ _ ez) (ltb-false _ _ ey))
    by false ex false ey false ez false = flat_sharp ex (le_antisymm (ltb-false _ _ ez) (ltb-false _ _ ey))

-- one has no more
pub signs_of_lem : (a : Accidentals) (s : Spelling) → Of a s → signs_in s.signs ≤ a.sharp_count + a.flat_count
unfolding sharp_spelling flat_spelling
signs_of_lem a s (inl e) = rw e (omega arith)
signs_of_lem a s (inr e) = rw e (omega arith)

-- both have the cycle's number as stars
pub stars_of_lem : (a : Accidentals) (s : Spelling) → Of a s → s.stars ≡ stars_of a.cycle
unfolding sharp_spelling flat_spelling
stars_of_lem a s (inl e) = ap (λ (t : Spelling). t.stars) e
stars_of_lem a s (inr e) = ap (λ (t : Spelling). t.stars) e

-- ---- the theorem

each_of : {a : Accidentals} {l : List Spelling} → Printed a l → (s : Spelling) → Memᴰ s l → Of a s
each_of {a} (one t o) s m = at (Memᴰ.cases_cons m)
  where
    at : (s ≡ t) ⊎ Memᴰ s [] → Of a s
    at (inl e) = rw e o
    at (inr n) = absurd (Memᴰ.not-nil n)
each_of {a} (two t u o p n) s m = at (Memᴰ.cases_cons m)
  where
    last : (s ≡ u) ⊎ Memᴰ s [] → Of a s
    last (inl e) = rw e p
    last (inr n) = absurd (Memᴰ.not-nil n)

    at : (s ≡ t) ⊎ Memᴰ s (u ∷ []) → Of a s
    at (inl e) = rw e o
    at (inr n) = last (Memᴰ.cases_cons n)

first_in : {a : Accidentals} {l : List Spelling} (d : Spelling) → Printed a l → Memᴰ (get_or l 0 d) l
first_in d (one s o) = Memᴰ.head refl
first_in d (two s t o p n) = Memᴰ.head refl

pub spellings_in_a_name_are_the_keys : SpellingsInANameAreTheKeys
unfolding first_printed
spellings_in_a_name_are_the_keys sf a =
    record { each = each_of (printed_view sf a); some = first_in (sharp_spelling a) (printed_view sf a) }

-- so the first is one of the key's too
pub first_of : (sf : Bool) (a : Accidentals) → Of a (first_printed sf a)
first_of sf a = each_of (printed_view sf a) (first_printed sf a) (spellings_in_a_name_are_the_keys sf a).some
