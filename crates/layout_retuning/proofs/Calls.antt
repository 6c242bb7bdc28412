-- A spelling's move: one law for each way in which the call ends, what it tells of the two keys, and the way back.
use Prim.Native.Nat.{ℕ, ◌≤◌, ◌<◌}
use mathlib.Core.Path.{◌≡◌, refl, sym, ap, ap₂, ◌∙◌}
use mathlib.Core.Bool.{Bool, true, false, ◌&&◌, and-false}
use lib.Dec.{ltb}
use lib.IntN.{ℤ, pos, ◌+ℤ◌, ◌-ℤ◌, ◌*ℤ◌}
use borrow.Author.Tests.{lt-ltb, le-ltb, ltb-true}
use native.Mathlib.Omega.{arith}
use Rattle.answer.specs.Outcome.{Outcome, given, refused, ask, and_then}
use Rattle.answer.proofs.Asked.{given_same, asked_yes, asked_rest, and_left, and_right}
use Rattle.answer.proofs.Questions.{ask_above, ask_below}
use Rattle.math.specs.Gcd.{GcdOf}
use Rattle.math.proofs.Division.{remainder_below}
use Rattle.pergen.specs.Pergen.{cycles}
use Rattle.pergen.specs.Spelling.{signs_of, sounds, sounded_key}
use Rattle.pergen.specs.declared.Signs.{Signs}
use Rattle.pergen.specs.declared.Spelling.{Spelling}
use Rattle.pergen.proofs.Calls.{cycles_found}
use Rattle.pergen.specs.Parts.{SidesOf}
use Rattle.pergen.specs.declared.sounding.Sides.{Sides}
use Rattle.layout.specs.Layouts.{Layout, Accepted, cycles_in}
use Rattle.layout.specs.Names.{key_of}
use Rattle.layout.specs.Answers.{get_sounded_key}
use Rattle.layout.proofs.SoundedKeys.{spellings_have_a_key}
use Rattle.layout_reach.specs.Reach.{distance}
use Rattle.layout_retuning.specs.Retunings.{first_of, second_of, moved, spelt}
use Rattle.layout_retuning.specs.Answers.{moved_in, get_moved}
use Rattle.layout_retuning.specs.Parts.{Numbers, tunings_of, get_tunings, keys_at, steps_by, moved_by}
use Rattle.layout_retuning.specs.Theorems.{MovesAreDistances}
use Rattle.layout_retuning.specs.declared.Retuning.{Retuning}
use Rattle.layout_retuning.specs.declared.parts.Keys.{Keys}
use Rattle.layout_retuning.proofs.BothLayouts.{Shared, shared, octave_shared, moved_by_numbers, of_both, both_accepted, by_numbers}
use Rattle.layout_retuning.proofs.Bound.{there_and_back}

-- ---- the distance of the two keys

-- what `sounded` found is a key of the octave
pub key_below : (P G : ℕ) (u : ℤ) (s k : ℕ) → 0 < P → k ≡ sounds P G u s → k < P
unfolding sounds
key_below P G u s k h e = omega (arith, e, remainder_below (pos G *ℤ u +ℤ pos s) P h)

-- .. and the spelling's, since the sides are its place
pub steps_are : (k : Numbers) (x : Spelling) (t : Sides) (y : Keys) (r : ℕ) → SidesOf k.num_letters k.start x t
    → y ≡ keys_at k (pos t.above -ℤ pos t.below) x.stars → r ≡ distance k.octave (pos y.first) (pos y.second)
    → r ≡ steps_by k x
unfolding steps_by keys_at sounded_key
steps_are k x t y r d e q =
    q
    ∙ ap (λ (z : Keys). distance k.octave (pos z.first) (pos z.second))
    (e ∙ ap (λ (z : ℤ). keys_at k z x.stars) (sym d.difference))

-- ---- questions 16 and 21

-- 21 of both: a no to either, a yes to both
not_below_first : {A : Type 0} (s n k : ℕ) (rest : Outcome A) → n ≤ s → ask 21 (ltb s n && ltb s k) rest ≡ refused 21
not_below_first s n k rest h = simp (le-ltb s n h)

not_below_second : {A : Type 0} (s n k : ℕ) (rest : Outcome A) → k ≤ s → ask 21 (ltb s n && ltb s k) rest ≡ refused 21
not_below_second s n k rest h = rw (le-ltb s k h, and-false (ltb s n)) refl

below_both : {A : Type 0} (s n k : ℕ) (rest : Outcome A) → s < n → s < k → ask 21 (ltb s n && ltb s k) rest ≡ rest
below_both s n k rest h j = simp (lt-ltb s n h, lt-ltb s k j)

module _ (k : Numbers) (x : Spelling) where
  pub no_letter : k.num_letters ≤ x.index → refused 16 ≡ moved_by k x
  unfolding moved_by
  no_letter h = sym (ask_above 16 x.index k.num_letters _ h)

  module _ (h : 0 < k.octave) (lettered : x.index < k.num_letters) where
    cycles_are : (G n : ℕ) → GcdOf k.octave G n → n ≡ cycles k.octave G
    cycles_are G n g = cycles_found k.octave G n (λ z. let w : ⊥ = omega arith in w) g.is

    pub many_stars_first : (n : ℕ) → GcdOf k.octave k.first n → n ≤ x.stars → refused 21 ≡ moved_by k x
    unfolding moved_by
    many_stars_first n g j =
        sym (ask_below 16 x.index k.num_letters _ lettered
        ∙ not_below_first x.stars _ _ _ (rw (sym (cycles_are k.first n g)) j))

    pub many_stars_second : (n : ℕ) → GcdOf k.octave k.second n → n ≤ x.stars → refused 21 ≡ moved_by k x
    unfolding moved_by
    many_stars_second n g j =
        sym (ask_below 16 x.index k.num_letters _ lettered
        ∙ not_below_second x.stars _ _ _ (rw (sym (cycles_are k.second n g)) j))

    pub move_given : (n c : ℕ) → GcdOf k.octave k.first n → GcdOf k.octave k.second c → x.stars < n → x.stars < c
        → (r : ℕ) → r ≡ steps_by k x → given r ≡ moved_by k x
    unfolding moved_by
    move_given n c g f j i r e =
        ap given e
        ∙ sym (ask_below 16 x.index k.num_letters _ lettered
        ∙ below_both x.stars _ _ _ (rw (sym (cycles_are k.first n g)) j) (rw (sym (cycles_are k.second c f)) i))

-- ---- the call

module _ (t : Retuning) (x : Spelling) where
  same_questions : (l m : Layout) → Accepted (first_of t) l → Accepted (second_of t) m → moved_by (tunings_of l m) x ≡ moved_in l m x
  unfolding moved_by moved_in
  same_questions l m e f =
      let s = shared t l m e f in
      ap₂
      (λ (n P : ℕ). ask 16 (ltb x.index l.letters)
      (ask 21 (ltb x.stars (cycles_in l) && ltb x.stars (cycles P m.generator)) (given n)))
      (moved_by_numbers l m s x) (sym s.octave)

  moved_from : and_then (get_tunings t) (λ (k : Numbers). moved_by k x) ≡ get_moved t x
  unfolding get_moved
  moved_from = by_numbers t (λ (l m : Layout). moved_in l m x) (λ (k : Numbers). moved_by k x) same_questions

  pub moved_refused : (n : ℕ) → refused n ≡ get_tunings t → refused n ≡ get_moved t x
  moved_refused n e = ap (λ (o : Outcome Numbers). and_then o (λ (k : Numbers). moved_by k x)) e ∙ moved_from

  moved_given : (k : Numbers) → given k ≡ get_tunings t → (o : Outcome ℕ) → o ≡ moved_by k x → o ≡ get_moved t x
  moved_given k e o q = q ∙ ap (λ (p : Outcome Numbers). and_then p (λ (j : Numbers). moved_by j x)) e ∙ moved_from

-- .. of a spelling whose signs came as one signed number z, read as y
pub moved_with_signs : (t : Retuning) (letter stars : ℕ) (z y : ℤ) (s : Signs) → y ≡ z → s ≡ signs_of y
    → (k : Numbers) → given k ≡ get_tunings t
    → (o : Outcome ℕ) → o ≡ moved_by k (record { index = letter; signs = s; stars = stars }) → o ≡ get_moved t (spelt letter z stars)
moved_with_signs t letter stars z y s read is k e o q =
    moved_given t (spelt letter z stars) k e o
    (q ∙ ap (λ (g : Signs). moved_by k (record { index = letter; signs = g; stars = stars })) (is ∙ ap signs_of read))

-- ---- what an answer tells of the two keys

module _ (l m : Layout) (x : Spelling) where
  -- a spelling of both layouts has a move
  pub move_of_both : x.index < l.letters → x.stars < cycles_in l → x.stars < cycles_in m → moved_in l m x ≡ given (moved l m x)
  unfolding moved_in
  move_of_both h j i = ask_below 16 x.index l.letters _ h ∙ below_both x.stars _ _ _ j i

  -- and nothing else has
  record OfBoth (n : ℕ) : Type 0 where
    letter : x.index < l.letters
    first_stars : x.stars < cycles_in l
    second_stars : x.stars < cycles_in m
    is : n ≡ moved l m x

  of_both_tunings : (n : ℕ) → moved_in l m x ≡ given n → OfBoth n
  unfolding moved_in
  of_both_tunings n e =
      let rest = asked_rest 16 (ltb x.index l.letters) _ e in
      let stars = asked_yes 21 (ltb x.stars (cycles_in l) && ltb x.stars (cycles_in m)) _ rest in
      record {
        letter = ltb-true x.index l.letters (asked_yes 16 (ltb x.index l.letters) _ e);
        first_stars = ltb-true x.stars _ (and_left (ltb x.stars (cycles_in l)) (ltb x.stars (cycles_in m)) stars);
        second_stars = ltb-true x.stars _ (and_right (ltb x.stars (cycles_in l)) (ltb x.stars (cycles_in m)) stars);
        is = sym (given_same (asked_rest 21 (ltb x.stars (cycles_in l) && ltb x.stars (cycles_in m)) _ rest));
      }

module _ (t : Retuning) (x : Spelling) (n : ℕ) where
  abbrev TwoKeys : Type 0
  TwoKeys =
      (a : ℕ) × (b : ℕ) × (get_sounded_key (first_of t) x ≡ given a) × (get_sounded_key (second_of t) x ≡ given b)
      × (n ≡ distance t.octave (pos a) (pos b))

  two_keys : get_moved t x ≡ given n → TwoKeys
  unfolding get_moved moved
  two_keys q =
      let found = both_accepted t (λ (l m : Layout). moved_in l m x) n q in
      let l = found.0 in
      let m = found.1 in
      let o = of_both_tunings l m x n found.4 in
      let s = shared t l m found.2 found.3 in (
        key_of l x,
        key_of m x,
        (spellings_have_a_key (first_of t) x (key_of l x)).1 (l, found.2, record { letter = o.letter; stars = o.first_stars }, refl),
        (spellings_have_a_key (second_of t) x (key_of m x)).1
            (m, found.3, record { letter = rw s.letters o.letter; stars = o.second_stars }, refl),
        o.is ∙ ap (λ (P : ℕ). distance P (pos (key_of l x)) (pos (key_of m x))) (octave_shared t l m found.2 found.3),
      )

  from_two_keys : TwoKeys → get_moved t x ≡ given n
  unfolding get_moved moved
  from_two_keys (a, b, e, f, q) =
      let one = (spellings_have_a_key (first_of t) x a).0 e in
      let other = (spellings_have_a_key (second_of t) x b).0 f in
      let l = one.0 in
      let m = other.0 in
      of_both t (λ (u v : Layout). moved_in u v x) l m one.1 other.1
      ∙ move_of_both l m x one.2.letter one.2.stars other.2.stars
      ∙ ap given
      (sym (q ∙ ap₂ (λ (u v : ℕ). distance t.octave (pos u) (pos v)) one.3 other.3
      ∙ ap (λ (P : ℕ). distance P (pos (key_of l x)) (pos (key_of m x))) (sym (octave_shared t l m one.1 other.1))))

pub moves_are_distances : MovesAreDistances
moves_are_distances t x n = (two_keys t x n, from_two_keys t x n)

-- ---- the way back

and_swapped : (a b : Bool) → (a && b) ≡ (b && a)
and_swapped true true = refl
and_swapped true false = refl
and_swapped false true = refl
and_swapped false false = refl

pub same_back : (l m : Layout) → Shared l m → (x : Spelling) → moved_in m l x ≡ moved_in l m x
unfolding moved_in
same_back l m s x =
    ap₂ (λ (N : ℕ) (b : Bool). ask 16 (ltb x.index N) (ask 21 b (given (moved m l x)))) s.letters
    (and_swapped (ltb x.stars (cycles_in m)) (ltb x.stars (cycles_in l)))
    ∙ ap (λ (n : ℕ). ask 16 (ltb x.index l.letters) (ask 21 (ltb x.stars (cycles_in l) && ltb x.stars (cycles_in m)) (given n)))
    (there_and_back l m s x)
