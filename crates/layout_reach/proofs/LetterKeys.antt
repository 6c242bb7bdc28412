-- Which keys have a bare letter for their name: those that the letter without signs sounds. They are neighbours, since a key is a number of
-- two digits, the stars to the base n and the letter's place times G / n to the base R.
use Rattle.std.specs.Prelude.{Option, Some}
use Prim.Native.Nat.{ℕ, zero, suc, ◌+◌, ◌*◌, ◌-◌, ◌/◌, ◌%◌, ◌≤◌, ◌<◌}
use mathlib.Core.Path.{◌≡◌, refl, sym, ap, ap₂, ◌∙◌, subst}
use mathlib.Core.Bool.{Bool, true, false, false≢true}
use mathlib.Core.Logic.{◌⊎◌, inl, inr}
use mathlib.Core.List.{List, [], ◌∷◌, ◌++◌, append-nil}
use lib.Dec.{eqb}
use lib.IntN.{ℤ, pos, ◌-ℤ◌}
use lib.ListN.{length, replicate}
use borrow.Author.Tests.{eqb-true, eq-eqb}
use native.Mathlib.Nat.{mod-eq_of_lt, mod-lt, div-eq_of_lt, add-mul, one-mul, mul_comm, mul_assoc, mul-le-mul, le_refl, add-zero, mul-zero, add-sub_of_le}
use native.Mathlib.Omega.{arith}
use Rattle.answer.proofs.Asked.{and_left, and_right, never_true}
use Rattle.genchain.specs.Chains.{chain_of}
use Rattle.math.specs.Division.{remainder, Apart}
use Rattle.math.specs.Passing.{run, passing}
use Rattle.math.proofs.Congruence.{add_cong, two_digits}
use Rattle.math.proofs.Integers.{rep_pos, rep_minus, rep_agree}
use Rattle.math.proofs.Division.{remainder_rep, remainders_agree, apart_iff, apart→remainder}
use Rattle.math.proofs.Passing.{length_run, kept_to, left_out_to, none_passes}
use Rattle.notes.specs.Names.{letter_text, letter_at, spelling_text, letter_alone, printed, first_printed, printed_text, name_text}
use Rattle.notes.specs.Answers.{chain_name}
use Rattle.notes.specs.Theorems.{SameSpelling}
use Rattle.notes.proofs.Printing.{printed_alone, spellings_in_a_name_are_the_keys}
use Rattle.notes.proofs.OneSpelling.{equal_names_have_one_first_spelling}
use Rattle.pergen.specs.declared.Accidentals.{Accidentals}
use Rattle.pergen.specs.declared.Spelling.{Spelling}
use Rattle.pergen.specs.Pergen.{cycles, reduced, key_degree, key_cycle, cycle_of}
use Rattle.pergen.specs.Spelling.{key_accidentals, by_coordinates, sharp_coordinate, flat_coordinate, sounds, stars_of, sharp_spelling}
use Rattle.pergen.proofs.Inverse.{numbers, cycles_positive}
use Rattle.pergen.proofs.Keys.{spellings_of_one_key, degree_sounds_key, key_cycle_below, key_degree_below}
use Rattle.pergen.proofs.Indices.{flat_rep, flat_inside, accidentals_high}
use Rattle.pergen.proofs.DegreePlaces.{place_sharps}
use Rattle.pergen.proofs.Differences.{sounded_is}
use Rattle.layout.specs.declared.IsomorphicLayout.{IsomorphicLayout}
use Rattle.layout.specs.Layouts.{Layout, Accepted, accidentals_in, sharp_first, cycles_in}
use Rattle.layout.specs.Names.{place_in, key_of, printed_in, name_in}
use Rattle.layout.specs.Theorems.{SoundsKey}
use Rattle.layout.proofs.Finding.{Parts, accepted}
use Rattle.layout.proofs.Naming.{enough_keys, lettered, names_sound_their_key}
use Rattle.layout_reach.specs.Reach.{starred, bears, keys_of}
use Rattle.layout_reach.specs.Theorems.{BearsIsTheName, bare, BareLettersSoundTheirKeys, LettersHaveKeys}

-- ---- the test on the name's bytes

starred_text_lem : (front text : List ℕ) → starred front text ≡ true → (c : ℕ) × (text ≡ front ++ replicate c 42)
unfolding starred
starred_text_lem [] [] e = (0, refl)
starred_text_lem [] (b ∷ text) e =
    let r = starred_text_lem [] text (and_right (eqb b 42) (starred [] text) e) in
    (suc r.0, ap₂ (λ (x : ℕ) (y : List ℕ). x ∷ y) (eqb-true b 42 (and_left (eqb b 42) (starred [] text) e)) r.1)
starred_text_lem (a ∷ front) [] e = absurd (false≢true e)
starred_text_lem (a ∷ front) (b ∷ text) e =
    let r = starred_text_lem front text (and_right (eqb a b) (starred front text) e) in
    (r.0, ap₂ (λ (x : ℕ) (y : List ℕ). x ∷ y) (sym (eqb-true a b (and_left (eqb a b) (starred front text) e))) r.1)

starred_yes : (front : List ℕ) (c : ℕ) → starred front (front ++ replicate c 42) ≡ true
unfolding starred
starred_yes [] zero = refl
starred_yes [] (suc c) = starred_yes [] c
starred_yes (a ∷ front) c = rw (eq-eqb a a refl) (starred_yes front c)

pub bears_is_the_name : BearsIsTheName
unfolding bears
bears_is_the_name l letter key =
    let front = letter_text (letter_at (chain_of l.chain).letters letter) in (
      λ e. starred_text_lem front (name_in l key) e,
      λ h. subst (λ (t : List ℕ). starred front t ≡ true) (sym h.1) (starred_yes front h.0),
    )

-- ---- a letter alone

abbrev alone : Option ℕ → ℕ → Accidentals
alone c letter = record { cycle = c; sharp_index = letter; sharp_count = 0; flat_index = letter; flat_count = 0 }

is_alone : (c : Option ℕ) (letter : ℕ) → letter_alone (alone c letter) ≡ true
unfolding letter_alone
is_alone c letter = eq-eqb letter letter refl

printed_bare : (sf : Bool) (c : Option ℕ) (letter : ℕ) → printed sf (alone c letter) ≡ bare letter (stars_of c) ∷ []
unfolding sharp_spelling
printed_bare sf c letter = printed_alone sf (alone c letter) (is_alone c letter)

first_bare : (sf : Bool) (c : Option ℕ) (letter : ℕ) → first_printed sf (alone c letter) ≡ bare letter (stars_of c)
unfolding first_printed
first_bare sf c letter = rw (printed_bare sf c letter)

name_bare : (letters : List ℕ) (sf : Bool) (c : Option ℕ) (letter : ℕ)
    → name_text letters sf (alone c letter) ≡ letter_text (letter_at letters letter) ++ replicate (stars_of c) 42
unfolding name_text spelling_text
name_bare letters sf c letter =
    ap (printed_text letters sf c) (printed_bare sf c letter)
    ∙ ap (λ (t : List ℕ). t ++ replicate (stars_of c) 42) (append-nil (letter_text (letter_at letters letter)))

-- coordinates below N: no signs, and one letter
by_alone : (c : Option ℕ) (N letter : ℕ) → letter < N → by_coordinates c N letter (N - 1 - letter) ≡ alone c letter
unfolding by_coordinates
by_alone c N letter h =
    let rest : N - 1 - letter < N = omega arith in
    let back : N - 1 - (N - 1 - letter) ≡ letter = omega arith in
    rw (mod-eq_of_lt h, div-eq_of_lt h, mod-eq_of_lt rest, div-eq_of_lt rest, back)

-- ---- the keys that a place sounds with its stars

module _ (P G a b : ℕ) (hP : 0 < P) where
  abbrev high : ℕ
  high = G / cycles P G * remainder (pos a -ℤ pos b) P % reduced P G

  sounds_digits : (s : ℕ) → s < cycles P G → sounds P G (pos a -ℤ pos b) s ≡ high * cycles P G + s
  sounds_digits s h =
      let p = numbers P G hP in
      let r = remainder (pos a -ℤ pos b) P in
      sym (sounded_is P G s r a b hP refl)
      ∙ ap₂ (λ (u v : ℕ). (u + s) % v)
      (ap (λ (z : ℕ). z * r) p.generator ∙ mul_assoc (G / cycles P G) (cycles P G) r ∙ ap (λ (z : ℕ). G / cycles P G * z) (mul_comm (cycles P G) r)
      ∙ sym (mul_assoc (G / cycles P G) r (cycles P G)))
      p.period
      ∙ two_digits (reduced P G) (cycles P G) (G / cycles P G * r) s p.some_keys h

  sounds_from : (s : ℕ) → s < cycles P G → sounds P G (pos a -ℤ pos b) s ≡ sounds P G (pos a -ℤ pos b) 0 + s
  sounds_from s h = omega (arith, sounds_digits s h, sounds_digits 0 (numbers P G hP).some_cycles)

  pub sounds_fit : sounds P G (pos a -ℤ pos b) 0 + cycles P G ≤ P
  sounds_fit =
      let p = numbers P G hP in
      let l : high < reduced P G = mod-lt _ p.some_keys in
      let m : (high + 1) * cycles P G ≤ reduced P G * cycles P G = mul-le-mul {n₂ = reduced P G} {m₂ = cycles P G} (omega arith) (le_refl _) in
      omega (arith, m, add-mul high 1 (cycles P G), one-mul (cycles P G), p.period, sounds_digits 0 p.some_cycles)

-- ---- in an accepted layout

module _ (r : IsomorphicLayout) (l : Layout) (e : Accepted r l) (letter : ℕ) (hl : letter < l.letters) where
  a : Parts l
  a = accepted r l e

  abbrev P : ℕ
  P = l.octave

  abbrev G : ℕ
  G = l.generator

  abbrev N : ℕ
  N = l.letters

  abbrev R : ℕ
  R = reduced l.octave l.generator

  abbrev at : ℤ
  at = pos letter -ℤ pos l.start

  enough : N ≤ R
  enough = enough_keys r l e

  place_bare : (s : ℕ) → place_in l (bare letter s) ≡ at
  unfolding place_in
  place_bare s =
      rep_agree (place_sharps N l.start letter 0 s) (rep_minus (rep_pos letter) (rep_pos l.start)) (omega (arith, mul-zero N))

  pub key_bare : (s : ℕ) → key_of l (bare letter s) ≡ sounds P G at s
  unfolding key_of place_in
  key_bare s = ap (λ (z : ℤ). sounds P G z s) (place_bare s)

  -- a key that is sounded so has the degree that the letter's place leaves
  place_of : (key : ℤ) (s : ℕ) → s < cycles P G → sounds P G at s ≡ remainder key P → (l.start + key_degree P G key) % R ≡ letter
  place_of key s hs q =
      let p = numbers P G a.positive in
      let d = key_degree P G key in
      let same : (key_cycle P G key ≡ s) × Apart R (pos d) at
      = (spellings_of_one_key P G a.positive (pos d) at (key_cycle P G key) s (key_cycle_below P G a.positive key) hs).0
      (degree_sounds_key P G a.positive key (pos d) ((apart_iff R p.some_keys (pos d) (pos d)).0 refl) ∙ sym q) in
      let left : remainder at R ≡ d
      = sym (apart→remainder R p.some_keys (pos d) at same.1) ∙ mod-eq_of_lt (key_degree_below P G a.positive key) in
      ap (λ (z : ℕ). z % R) (let z : l.start + d ≡ d + (0 + l.start) = omega arith in z)
      ∙ ap (λ (z : ℕ). (z + (0 + l.start)) % R) (sym left)
      ∙ remainder_rep R p.some_keys (rep_minus (rep_pos letter) (rep_pos l.start))
      ∙ ap (λ (z : ℕ). z % R) (add-zero letter)
      ∙ mod-eq_of_lt (omega (arith, enough))

  flat_of_lem : (d : ℕ) → d % R ≡ letter → flat_coordinate R N d ≡ N - 1 - letter
  unfolding flat_coordinate
  flat_of_lem d q =
      let p = numbers P G a.positive in
      (remainders_agree R p.some_keys (flat_rep N d) (flat_rep N letter)).1
      (ap (λ (z : ℕ). z % R) (let z : N + 0 + 0 + (0 + 1 + letter) ≡ letter + (N + 1) = omega arith in z)
      ∙ add_cong R (N + 1) letter d (mod-eq_of_lt (omega (arith, enough)) ∙ sym q)
      ∙ ap (λ (z : ℕ). z % R) (let z : d + (N + 1) ≡ N + 0 + 0 + (0 + 1 + d) = omega arith in z))
      ∙ sym (flat_inside R N letter (omega arith) enough (omega arith))

  spelled_alone : (key : ℤ) → (l.start + key_degree P G key) % R ≡ letter → accidentals_in l key ≡ alone (cycle_of P G key) letter
  unfolding accidentals_in key_accidentals sharp_coordinate
  spelled_alone key q =
      sym (accidentals_high R N l.start (key_degree P G key) (cycle_of P G key) enough letter (N - 1 - letter) (sym q) (sym (flat_of_lem _ q)))
      ∙ by_alone (cycle_of P G key) N letter hl

  sounded_bears : (key : ℤ) (s : ℕ) → s < cycles P G → sounds P G at s ≡ remainder key P → bears l letter key ≡ true
  unfolding name_in
  sounded_bears key s hs q =
      let c = cycle_of P G key in
      (bears_is_the_name l letter key).1 (
        stars_of c,
        ap (name_text (chain_of l.chain).letters (sharp_first l)) (spelled_alone key (place_of key s hs q))
            ∙ name_bare (chain_of l.chain).letters (sharp_first l) c letter,
      )

  -- and the other way: the name's first spelling is the letter with those stars
  named_sounds : (key : ℤ) (c : ℕ) → name_in l key ≡ letter_text (letter_at (chain_of l.chain).letters letter) ++ replicate c 42
      → (c < cycles P G) × (sounds P G at c ≡ remainder key P)
  unfolding printed_in name_in chain_name key_of place_in
  named_sounds key c q =
      let sf = sharp_first l in
      let x = first_printed sf (accidentals_in l key) in
      let same : SameSpelling x (first_printed sf (alone (Some c) letter))
      = equal_names_have_one_first_spelling l.chain a.chain sf (accidentals_in l key) (alone (Some c) letter) (lettered l a key)
      (record { sharp = omega (arith, a.letters_are); flat = omega (arith, a.letters_are) })
      (q ∙ sym (name_bare (chain_of l.chain).letters sf (Some c) letter)) in
      let is_bare : SameSpelling x (bare letter c) = subst (λ (y : Spelling). SameSpelling x y) (first_bare sf (Some c) letter) same in
      let s : SoundsKey l key x
      = (names_sound_their_key r l e key).each x (spellings_in_a_name_are_the_keys sf (accidentals_in l key)).some in (
        subst (λ (n : ℕ). n < cycles P G) is_bare.stars s.spelling.stars,
        sym (ap₂ (λ (u : ℤ) (n : ℕ). sounds P G u n) (is_bare.place N l.start ∙ place_bare c) is_bare.stars) ∙ s.sounds,
      )

  bears_sounds : (key : ℤ) → bears l letter key ≡ true → (s : ℕ) × (s < cycles P G) × (sounds P G at s ≡ remainder key P)
  bears_sounds key t =
      let n = (bears_is_the_name l letter key).0 t in
      let s = named_sounds key n.0 n.1 in
      (n.0, s.0, s.1)

  -- ---- they stand side by side

  abbrev pub base : ℕ
  base = sounds P G at 0

  some : 0 < P
  some = a.positive

  pub within : base + cycles P G ≤ P
  within = sounds_fit P G letter l.start some

  pub bears_inside : (k : ℕ) → k < P → bears l letter (pos k) ≡ true → (base ≤ k) × (k < base + cycles P G)
  bears_inside k h t =
      let s = bears_sounds (pos k) t in
      let from = sounds_from P G letter l.start some s.0 s.1 in
      let whole = mod-eq_of_lt h in
      (omega (arith, s.2, from, whole), omega (arith, s.1, s.2, from, whole))

  pub inside_bears : (k : ℕ) → base ≤ k → k < base + cycles P G → bears l letter (pos k) ≡ true
  inside_bears k f t =
      let below : k - base < cycles P G = omega arith in
      sounded_bears (pos k) (k - base) below
      (sounds_from P G letter l.start some (k - base) below ∙ add-sub_of_le f ∙ sym (mod-eq_of_lt (omega (arith, within))))

  outside_not : (k : ℕ) → k < P → (k < base) ⊎ (base + cycles P G ≤ k) → bears l letter (pos k) ≡ false
  outside_not k h o = never_true (bears l letter (pos k)) (λ t. by o (bears_inside k h t))
    where
      by : (k < base) ⊎ (base + cycles P G ≤ k) → (base ≤ k) × (k < base + cycles P G) → ⊥
      by (inl b) i = let z : ⊥ = omega (arith, i.0) in z
      by (inr b) i = let z : ⊥ = omega (arith, i.1) in z

  keys_are : keys_of l letter ≡ run base (cycles P G)
  unfolding keys_of
  keys_are =
      let test : ℕ → Bool = λ k. bears l letter (pos k) in
      let end = base + cycles P G in
      let fits = within in
      ap (λ (n : ℕ). passing test n 0) (let z : P ≡ P - 0 = omega arith in z)
      ∙ left_out_to test 0 base P (omega arith) (omega arith) (λ k f t. outside_not k (omega (arith, within)) (inl t))
      ∙ kept_to test base end P (omega arith) fits (λ k f t. inside_bears k f t)
      ∙ ap (λ (ks : List ℕ). run base (end - base) ++ ks)
      (none_passes test (P - end) end (λ k f t. outside_not k (omega (arith, within)) (inr f)))
      ∙ append-nil (run base (end - base))
      ∙ ap (run base) (let z : end - base ≡ cycles P G = omega arith in z)

pub bare_letters_sound_their_keys : BareLettersSoundTheirKeys
bare_letters_sound_their_keys r l e letter hl key = (
  λ t.
      let s = bears_sounds r l e letter hl key t in
      (s.0, record { letter = hl; stars = s.1 }, key_bare r l e letter hl s.0 ∙ s.2),
  λ h. sounded_bears r l e letter hl key h.0 h.1.stars (sym (key_bare r l e letter hl h.0) ∙ h.2),
)

pub letters_have_keys : LettersHaveKeys
letters_have_keys r l e letter hl =
    let b = key_bare r l e letter hl 0 in
    let are : keys_of l letter ≡ run (key_of l (bare letter 0)) (cycles_in l)
    = keys_are r l e letter hl ∙ ap (λ (n : ℕ). run n (cycles_in l)) (sym b) in
    record {
      are = are;
      many = ap length are ∙ length_run (key_of l (bare letter 0)) (cycles_in l);
      some = cycles_positive l.octave l.generator (accepted r l e).positive;
      within = omega (arith, b, within r l e letter hl);
    }
