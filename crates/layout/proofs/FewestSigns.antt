-- Names have the fewest signs: no spelling of the key has fewer sharps than its sharp spelling or fewer flats than its flat one (pergen's
-- law), and of these two the printed ones have the fewer, case by case of `ByCounts`.
use Prim.Native.Nat.{ℕ, zero, suc, ◌≤◌, ◌<◌}
use mathlib.Core.Path.{◌≡◌, refl, sym, ap, subst, ◌∙◌}
use mathlib.Core.Bool.{true, false}
use mathlib.Core.Logic.{◌↔◌, ◌⊎◌, inl, inr, ⊎_elim}
use mathlib.Core.List.Memᴰ
use mathlib.Core.List.{List, [], ◌∷◌, Memᴰ}
use native.Mathlib.Nat.{le_antisymm}
use native.Mathlib.Omega.{arith}
use lib.IntN.{ℤ, pos}
use lib.ListN.{length}
use borrow.Author.Tests.{eq-eqb}
use Rattle.math.specs.Division.{Apart}
use Rattle.notes.specs.Names.{signs_in, letter_alone}
use Rattle.notes.specs.Theorems.{SameSpelling}
use Rattle.notes.proofs.Printing.{ByCounts, alone, fewer_sharps, fewer_flats, sharp_flat, flat_sharp, by_counts, alone_by_indices}
use Rattle.notes.proofs.OneSpelling.{same_spelling}
use Rattle.pergen.specs.declared.Accidentals.{Accidentals}
use Rattle.pergen.specs.declared.Signs.{Signs}
use Rattle.pergen.specs.declared.Signs.TheVariants.{Sharps, Flats}
use Rattle.pergen.specs.declared.Spelling.{Spelling}
use Rattle.pergen.specs.Pergen.{key_degree, key_cycle}
use Rattle.pergen.specs.Spelling.{place, stars_of, sharp_spelling, flat_spelling}
use Rattle.pergen.proofs.Keys.{sounds_at_the_degree}
use Rattle.pergen.proofs.DegreePlaces.{stars_of_key, letter_without_signs}
use Rattle.pergen.proofs.FewestSigns.{FewestOfEach, fewest_of_each}
use Rattle.layout.specs.Layouts.{Layout, reduced_in, accidentals_in, sharp_first}
use Rattle.layout.specs.Names.{key_of, printed_in, cycle_in}
use Rattle.layout.specs.Theorems.{SoundsKey}
use Rattle.layout.specs.FewestSigns.{sign_count, Sounding, Simplest, Least, EquallyMany, NamesHaveFewestSigns}
use Rattle.layout.proofs.Finding.{Parts, accepted}
use Rattle.layout.proofs.PatternShape.{pattern_shape}
use Rattle.layout.proofs.Naming.{sharp_sound, flat_sound, names_sound_their_key}

module _ (l : Layout) (a : Parts l) (key : ℤ) where
  abbrev both : Accidentals
  both = accidentals_in l key

  abbrev sharps : ℕ
  sharps = (accidentals_in l key).sharp_count

  abbrev flats : ℕ
  flats = (accidentals_in l key).flat_count

  fewest : FewestOfEach (reduced_in l) l.letters l.start (key_degree l.octave l.generator key) both
  unfolding accidentals_in
  fewest =
      fewest_of_each l.octave l.generator l.letters l.start key a.positive a.start_below (pattern_shape l a).enough_keys

  one_letter : sharps ≡ 0 → flats ≡ 0 → both.sharp_index ≡ both.flat_index
  unfolding accidentals_in
  one_letter =
      letter_without_signs l.octave l.generator l.letters l.start key a.positive a.start_below
      (pattern_shape l a).enough_keys

  -- a spelling that sounds the key stands at its degree, and has its stars
  at_the_degree : (x : Spelling) → Sounding l key x
      → (x.stars ≡ key_cycle l.octave l.generator key)
      × Apart (reduced_in l) (place l.letters l.start x) (pos (key_degree l.octave l.generator key))
  unfolding key_of
  at_the_degree x h =
      sounds_at_the_degree l.octave l.generator a.positive key (place l.letters l.start x) x.stars h.spelling.stars h.sounds

  stands : (x : Spelling) → Sounding l key x → Apart (reduced_in l) (place l.letters l.start x) (pos (key_degree l.octave l.generator key))
  stands x h = (at_the_degree x h).1

  stars_follow : (x : Spelling) → Sounding l key x → x.stars ≡ stars_of (cycle_in l key)
  stars_follow x h = (at_the_degree x h).0 ∙ sym (stars_of_key l.octave l.generator key a.positive)

  -- both spellings of the key sound it
  sounding : (x : Spelling) → SoundsKey l key x → Sounding l key x
  sounding x h = record { spelling = h.spelling; sounds = h.sounds }

  sharp_sounding : Sounding l key (sharp_spelling both)
  sharp_sounding = sounding _ (sharp_sound l a key)

  flat_sounding : Sounding l key (flat_spelling both)
  flat_sounding = sounding _ (flat_sound l a key)

  -- ---- any spelling that sounds the key

  abbrev spelt : ℕ → Signs → ℕ → Spelling
  spelt index signs stars = record { index = index; signs = signs; stars = stars }

  sharps_least : (i k s : ℕ) → Sounding l key (spelt i (Sharps k) s) → sharps ≤ k
  sharps_least i k s h = fewest.sharps i k s h.spelling.letter (stands _ h)

  flats_least : (i k s : ℕ) → Sounding l key (spelt i (Flats k) s) → flats ≤ k
  flats_least i k s h = fewest.flats i k s h.spelling.letter (stands _ h)

  at_least : (m : ℕ) → m ≤ sharps → m ≤ flats → (y : Spelling) → Sounding l key y → m ≤ sign_count y
  at_least m p q y = by y.index y.signs y.stars
    where
      by : (i : ℕ) (g : Signs) (s : ℕ) → Sounding l key (spelt i g s) → m ≤ signs_in g
      by i (Sharps k) s h = omega (arith, sharps_least i k s h)
      by i (Flats k) s h = omega (arith, flats_least i k s h)

  -- ---- the two that may be printed

  sharp_count : sign_count (sharp_spelling both) ≡ sharps
  unfolding sharp_spelling
  sharp_count = refl

  flat_count : sign_count (flat_spelling both) ≡ flats
  unfolding flat_spelling
  flat_count = refl

  sharp_simplest : sharps ≤ flats → Simplest l key (sharp_spelling both)
  sharp_simplest h =
      record {
        sounding = sharp_sounding;
        fewest = λ y s. omega (arith, sharp_count, at_least sharps (omega arith) h y s);
      }

  flat_simplest : flats ≤ sharps → Simplest l key (flat_spelling both)
  flat_simplest h =
      record {
        sounding = flat_sounding;
        fewest = λ y s. omega (arith, flat_count, at_least flats h (omega arith) y s);
      }

  -- both only where they have signs
  with_signs : letter_alone both ≡ false → sharps ≡ flats → 0 < sharps
  with_signs n e = by sharps refl
    where
      by : (k : ℕ) → sharps ≡ k → 0 < sharps
      by zero q =
          let f : flats ≡ 0 = omega arith in
          let z : false ≡ true = sym n ∙ alone_by_indices both q f ∙ eq-eqb _ _ (one_letter q f) in
          absurd (let y : ◌≡◌ {A = ℕ} 0 1 = cc in omega arith)
      by (suc k) q = omega arith

  -- ---- each printed one is simplest

  two_in : (x s t : Spelling) → Memᴰ x (s ∷ t ∷ []) → (x ≡ s) ⊎ (x ≡ t)
  two_in x s t m = ⊎_elim (λ e. inl e) (λ n. inr (Memᴰ.eq_of_singleton n)) (Memᴰ.cases_cons m)

  is_sharp : sharps ≤ flats → (x : Spelling) → x ≡ sharp_spelling both → Simplest l key x
  is_sharp h x e = subst (Simplest l key) (sym e) (sharp_simplest h)

  is_flat : flats ≤ sharps → (x : Spelling) → x ≡ flat_spelling both → Simplest l key x
  is_flat h x e = subst (Simplest l key) (sym e) (flat_simplest h)

  each_simplest : {names : List Spelling} → ByCounts both names → (x : Spelling) → Memᴰ x names → Simplest l key x
  each_simplest (alone p q) x m = is_sharp (omega arith) x (Memᴰ.eq_of_singleton m)
  each_simplest (fewer_sharps p) x m = is_sharp (omega arith) x (Memᴰ.eq_of_singleton m)
  each_simplest (fewer_flats p) x m = is_flat (omega arith) x (Memᴰ.eq_of_singleton m)
  each_simplest (sharp_flat n p) x m = ⊎_elim (is_sharp (omega arith) x) (is_flat (omega arith) x) (two_in x _ _ m)
  each_simplest (flat_sharp n p) x m = ⊎_elim (is_flat (omega arith) x) (is_sharp (omega arith) x) (two_in x _ _ m)

  -- ---- every simplest one is printed

  abbrev Among : List Spelling → Spelling → Type 0
  Among names y = (x : Spelling) × Memᴰ x names × SameSpelling x y

  -- with sharps: it has no more than the sharp spelling, so it is that one
  sharps_same : (i k s : ℕ) → Sounding l key (spelt i (Sharps k) s) → k ≤ sharps → SameSpelling (sharp_spelling both) (spelt i (Sharps k) s)
  unfolding sharp_spelling
  sharps_same i k s h p =
      same_spelling _ _ (sym (fewest.sharp_index i k s h.spelling.letter (stands _ h) p)) (le_antisymm (sharps_least i k s h) p) refl
      ((sharp_sound l a key).stars ∙ sym (stars_follow _ h))

  sharps_among : {names : List Spelling} → ByCounts both names → (i k s : ℕ) → Sounding l key (spelt i (Sharps k) s)
      → k ≤ sharps → k ≤ flats → Among names (spelt i (Sharps k) s)
  sharps_among (alone u w) i k s h p q = (_, Memᴰ.head refl, sharps_same i k s h p)
  sharps_among (fewer_sharps u) i k s h p q = (_, Memᴰ.head refl, sharps_same i k s h p)
  sharps_among (fewer_flats u) i k s h p q = absurd (let z : ⊥ = omega (arith, sharps_least i k s h) in z)
  sharps_among (sharp_flat n u) i k s h p q = (_, Memᴰ.head refl, sharps_same i k s h p)
  sharps_among (flat_sharp n u) i k s h p q = (_, Memᴰ.tail (Memᴰ.head refl), sharps_same i k s h p)

  -- with flats: likewise, and without signs it is the letter alone
  flats_same : (i k s : ℕ) → Sounding l key (spelt i (Flats k) s) → k ≤ flats → SameSpelling (flat_spelling both) (spelt i (Flats k) s)
  unfolding flat_spelling
  flats_same i k s h p =
      same_spelling _ _ (sym (fewest.flat_index i k s h.spelling.letter (stands _ h) p)) refl (le_antisymm (flats_least i k s h) p)
      ((flat_sound l a key).stars ∙ sym (stars_follow _ h))

  bare_same : sharps ≡ 0 → flats ≡ 0 → (i k s : ℕ) → Sounding l key (spelt i (Flats k) s) → k ≤ flats
      → SameSpelling (sharp_spelling both) (spelt i (Flats k) s)
  unfolding sharp_spelling
  bare_same u w i k s h p =
      same_spelling _ _ (one_letter u w ∙ sym (fewest.flat_index i k s h.spelling.letter (stands _ h) p)) u (omega arith)
      ((sharp_sound l a key).stars ∙ sym (stars_follow _ h))

  flats_among : {names : List Spelling} → ByCounts both names → (i k s : ℕ) → Sounding l key (spelt i (Flats k) s)
      → k ≤ sharps → k ≤ flats → Among names (spelt i (Flats k) s)
  flats_among (alone u w) i k s h p q = (_, Memᴰ.head refl, bare_same u w i k s h q)
  flats_among (fewer_sharps u) i k s h p q = absurd (let z : ⊥ = omega (arith, flats_least i k s h) in z)
  flats_among (fewer_flats u) i k s h p q = (_, Memᴰ.head refl, flats_same i k s h q)
  flats_among (sharp_flat n u) i k s h p q = (_, Memᴰ.tail (Memᴰ.head refl), flats_same i k s h q)
  flats_among (flat_sharp n u) i k s h p q = (_, Memᴰ.head refl, flats_same i k s h q)

  every_among : {names : List Spelling} → ByCounts both names → (y : Spelling) → Simplest l key y → Among names y
  every_among {names} v y h =
      by y.index y.signs y.stars h.sounding
      (omega (arith, h.fewest _ sharp_sounding, sharp_count)) (omega (arith, h.fewest _ flat_sounding, flat_count))
    where
      by : (i : ℕ) (g : Signs) (s : ℕ) → Sounding l key (spelt i g s) → signs_in g ≤ sharps → signs_in g ≤ flats → Among names (spelt i g s)
      by i (Sharps k) s = sharps_among v i k s
      by i (Flats k) s = flats_among v i k s

  -- ---- a bare letter

  letter : {names : List Spelling} → ByCounts both names → (y : Spelling) → Sounding l key y → sign_count y ≡ 0
      → (x : Spelling) × (names ≡ x ∷ []) × (sign_count x ≡ 0)
  letter (alone p q) y h e = (_, refl, sharp_count ∙ p)
  letter (fewer_sharps p) y h e = (_, refl, (let t : sign_count (sharp_spelling both) ≡ 0 = omega (arith, (sharp_simplest (omega arith)).fewest y h) in t))
  letter (fewer_flats p) y h e = (_, refl, (let t : sign_count (flat_spelling both) ≡ 0 = omega (arith, (flat_simplest (omega arith)).fewest y h) in t))
  letter (sharp_flat n p) y h e = absurd (let z : ⊥ = omega (arith, with_signs n p, at_least sharps (omega arith) (omega arith) y h) in z)
  letter (flat_sharp n p) y h e = absurd (let z : ⊥ = omega (arith, with_signs n p, at_least sharps (omega arith) (omega arith) y h) in z)

  bare_letter : {names : List Spelling} → ByCounts both names
      → ((x : Spelling) × (names ≡ x ∷ []) × (sign_count x ≡ 0)) ↔ ((y : Spelling) × Sounding l key y × (sign_count y ≡ 0))
  bare_letter {names} v = (
    λ t. (t.0, (each_simplest v t.0 (subst (Memᴰ t.0) (sym t.1) (Memᴰ.head refl))).sounding, t.2),
    λ t. letter v t.0 t.1 t.2,
  )

  -- ---- two names

  -- of one kind of sign, a spelling with the fewest has the least number, and there is one least number
  module _ (kind : ℕ → Signs) (x : Spelling) (n : ℕ) (h : Sounding l key x) (is : x.signs ≡ kind n)
      (few : (i k s : ℕ) → Sounding l key (spelt i (kind k) s) → n ≤ k) where
    few_of : (y : Spelling) (k : ℕ) → Sounding l key y → y.signs ≡ kind k → n ≤ k
    few_of y k s q = few y.index k y.stars (subst (λ (z : Signs). Sounding l key (spelt y.index z y.stars)) q s)

    least_of : (k : ℕ) → k ≡ n → Least l key kind k
    least_of k e = record { some = (x, h, is ∙ ap kind (sym e)); least = λ y m s q. omega (arith, few_of y m s q) }

    least_is : (k : ℕ) → Least l key kind k → k ≡ n
    least_is k t = le_antisymm (t.least x n h is) (few_of t.some.0 k t.some.1 t.some.2)

  -- the sharp spelling has the least number of sharps, the flat one of flats
  least_sharps : (k : ℕ) → k ≡ sharps → Least l key Sharps k
  unfolding sharp_spelling
  least_sharps = least_of Sharps (sharp_spelling both) sharps sharp_sounding refl sharps_least

  least_flats : (k : ℕ) → k ≡ flats → Least l key Flats k
  unfolding flat_spelling
  least_flats = least_of Flats (flat_spelling both) flats flat_sounding refl flats_least

  sharps_are : (k : ℕ) → Least l key Sharps k → k ≡ sharps
  unfolding sharp_spelling
  sharps_are = least_is Sharps (sharp_spelling both) sharps sharp_sounding refl sharps_least

  flats_are : (k : ℕ) → Least l key Flats k → k ≡ flats
  unfolding flat_spelling
  flats_are = least_is Flats (flat_spelling both) flats flat_sounding refl flats_least

  equally_many : sharps ≡ flats → 0 < sharps → EquallyMany l key
  equally_many p q = (sharps, omega arith, least_sharps sharps refl, least_flats sharps p)

  two_names : {names : List Spelling} → ByCounts both names → length names ≡ 2 → EquallyMany l key
  two_names (alone p q) e = absurd (let z : ◌≡◌ {A = ℕ} 1 2 = e in let t : ⊥ = omega arith in t)
  two_names (fewer_sharps p) e = absurd (let z : ◌≡◌ {A = ℕ} 1 2 = e in let t : ⊥ = omega arith in t)
  two_names (fewer_flats p) e = absurd (let z : ◌≡◌ {A = ℕ} 1 2 = e in let t : ⊥ = omega arith in t)
  two_names (sharp_flat n p) e = equally_many p (with_signs n p)
  two_names (flat_sharp n p) e = equally_many p (with_signs n p)

  names_two : {names : List Spelling} → ByCounts both names → sharps ≡ flats → 0 < sharps → length names ≡ 2
  names_two (alone p q) e h = absurd (let z : ⊥ = omega arith in z)
  names_two (fewer_sharps p) e h = absurd (let z : ⊥ = omega arith in z)
  names_two (fewer_flats p) e h = absurd (let z : ⊥ = omega arith in z)
  names_two (sharp_flat n p) e h = refl
  names_two (flat_sharp n p) e h = refl

  two_printed : {names : List Spelling} → ByCounts both names → (length names ≡ 2) ↔ EquallyMany l key
  two_printed v = (
    two_names v,
    λ t. let s = sharps_are t.0 t.2 in
        let f = flats_are t.0 t.3 in
        names_two v (sym s ∙ f) (omega (arith, t.1)),
  )

pub names_have_fewest_signs : NamesHaveFewestSigns
unfolding printed_in
names_have_fewest_signs r l e key =
    let a = accepted r l e in
    let v = by_counts (sharp_first l) (accidentals_in l key) in
    record {
      name = names_sound_their_key r l e key;
      each = each_simplest l a key v;
      every = every_among l a key v;
      bare = bare_letter l a key v;
      two = two_printed l a key v;
      stars = stars_follow l a key;
    }
