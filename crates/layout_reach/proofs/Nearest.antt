-- The nearest key of a letter: what is nearest among its neighbouring keys is what the definition's search finds; and what the call answers.
use Prim.Native.Nat.{ℕ, ◌≤◌, ◌<◌}
use mathlib.Core.Bool.{Bool, true, false, ◌&&◌}
use mathlib.Core.List.Memᴰ
use mathlib.Core.List.{List, [], ◌∷◌, Memᴰ}
use mathlib.Core.Logic.{◌⊎◌, inl, inr}
use mathlib.Core.Path.{◌≡◌, refl, sym, ap, ◌∙◌, subst}
use lib.Dec.{eqb, ltb}
use lib.IntN.{ℤ, pos, ◌-ℤ◌}
use lib.ListN.{length}
use borrow.Author.Tests.{eq-eqb, eqb-true, lt-ltb, ltb-true}
use native.Mathlib.Nat.{eq-or-lt_of_le}
use native.Mathlib.Omega.{arith}
use Rattle.answer.specs.Outcome.{Outcome, given, refused, and_then}
use Rattle.answer.proofs.Asked.{given_same, asked_yes, asked_rest, and_left, and_right, and_both, never_true}
use Rattle.answer.proofs.Questions.{ask_above, ask_below}
use Rattle.math.specs.Division.{remainder}
use Rattle.math.specs.Gcd.{GcdOf}
use Rattle.math.specs.Passing.{first, passing}
use Rattle.math.proofs.Division.{remainder_below}
use Rattle.math.proofs.Passing.{none_passes, passes_iff, first_is}
use Rattle.pergen.specs.Pergen.{cycles}
use Rattle.pergen.specs.Spelling.{sounds}
use Rattle.pergen.proofs.Calls.{cycles_found}
use Rattle.pergen.proofs.Inverse.{cycles_positive}
use Rattle.layout.specs.declared.IsomorphicLayout.{IsomorphicLayout}
use Rattle.layout.specs.Layouts.{Layout, layout_outcome, Accepted}
use Rattle.layout.specs.Parts.{Laid}
use Rattle.layout.proofs.Finding.{accepted}
use Rattle.layout.proofs.Calls.{of_refused, of_given}
use Rattle.layout_reach.specs.Reach.{distance, bears, nearer, nearest}
use Rattle.layout_reach.specs.Answers.{nearest_in, get_nearest}
use Rattle.layout_reach.specs.Parts.{Block, NearestIn, NearestFrom}
use Rattle.layout_reach.specs.Theorems.{IsNearest, NearestIsAnswered, SomeNearest}
use Rattle.layout_reach.proofs.Distances.{distance_key}
use Rattle.layout_reach.proofs.Blocks.{some_nearest}
use Rattle.layout_reach.proofs.LetterKeys.{sounds_fit, base, within, bears_inside, inside_bears}

-- ---- of the numbers that pass a test, the first than which none is nearer

module _ (test : ℕ → Bool) (away : ℕ → ℕ) (count : ℕ) where
  abbrev nearer_to : ℕ → ℕ → Bool
  nearer_to k j = test j && ltb (away j) (away k)

  abbrev none_nearer : ℕ → Bool
  none_nearer k = eqb (length (passing (nearer_to k) count 0)) 0

  empty : (ks : List ℕ) → length ks ≡ 0 → ks ≡ []
  empty [] e = refl
  empty (k ∷ ks) e = absurd (let z : ⊥ = omega arith in z)

  module _ (r : ℕ) (below : r < count) (passes : test r ≡ true)
      (least : (j : ℕ) → j < count → test j ≡ true → away r ≤ away j)
      (lower : (j : ℕ) → j < count → test j ≡ true → away r ≡ away j → r ≤ j) where
    none_nearer_lem : none_nearer r ≡ true
    none_nearer_lem =
        eq-eqb _ 0
        (ap length
        (none_passes (nearer_to r) count 0
        (λ j u v. never_true (nearer_to r j)
        (λ t. let z : ⊥ = omega (arith, ltb-true (away j) (away r) (and_right (test j) _ t), least j (omega arith) (and_left (test j) _ t)) in z))))

    -- a lower one that passes is farther, and so has r nearer than itself
    lower_fails : (k : ℕ) → k < r → (test k && none_nearer k) ≡ false
    lower_fails k l =
        never_true (test k && none_nearer k)
        (λ t.
        let passed = and_left (test k) _ t in
        let farther : away r < away k = farther_by passed (eq-or-lt_of_le (least k (omega arith) passed)) in
        let in-it = (passes_iff (nearer_to k) count r).1 (below, and_both (test r) (ltb (away r) (away k)) passes (lt-ltb (away r) (away k) farther)) in
        let none : passing (nearer_to k) count 0 ≡ [] = empty _ (eqb-true _ 0 (and_right (test k) _ t)) in
        Memᴰ.not-nil (subst (Memᴰ r) none in-it))
      where
        farther_by : test k ≡ true → (away r ≡ away k) ⊎ (away r < away k) → away r < away k
        farther_by p (inl e) = absurd (let z : ⊥ = omega (arith, lower k (omega arith) p e) in z)
        farther_by p (inr m) = m

    nearest_of : first (λ k. test k && none_nearer k) count 0 ≡ r
    nearest_of =
        first_is (λ k. test k && none_nearer k) count 0 r (omega arith) (omega arith) (and_both (test r) (none_nearer r) passes none_nearer_lem)
        (λ k u v. lower_fails k v)

-- ---- the nearest key of a letter

-- there is only one nearest key
only_nearest : (l : Layout) (key : ℤ) (letter k : ℕ) → IsNearest l key letter k → nearest l key letter ≡ k
unfolding nearest nearer
only_nearest l key letter k n =
    nearest_of (λ j. bears l letter (pos j)) (λ j. distance l.octave (pos j) key) l.octave k n.below n.bears_it n.least n.lower

module _ (r : IsomorphicLayout) (l : Layout) (e : Accepted r l) (letter : ℕ) (hl : letter < l.letters) (key : ℤ) where
  abbrev P : ℕ
  P = l.octave

  some : 0 < P
  some = (accepted r l e).positive

  block_nearest : (k : ℕ) → NearestIn P (base r l e letter hl) (cycles P l.generator) (remainder key P) k → IsNearest l key letter k
  block_nearest k n =
      record {
        below = omega (arith, n.below, within r l e letter hl);
        bears_it = inside_bears r l e letter hl k n.from n.below;
        least =
            λ j h t.
            let b = bears_inside r l e letter hl j h t in
            omega (arith, distance_key P some k key, distance_key P some j key, n.least j b.0 b.1);
        lower =
            λ j h t q.
            let b = bears_inside r l e letter hl j h t in
            n.lower j b.0 b.1 (sym (distance_key P some k key) ∙ q ∙ distance_key P some j key);
      }

  nearest_is_nearest : IsNearest l key letter (nearest l key letter)
  nearest_is_nearest =
      let found = some_nearest P (base r l e letter hl) (cycles P l.generator) (remainder key P)
      (record { some = cycles_positive P l.generator some; fits = within r l e letter hl }) (remainder_below key P some) in
      let is = block_nearest found.0 found.1 in
      subst (IsNearest l key letter) (sym (only_nearest l key letter found.0 is)) is

  pub nearest_found : (k : ℕ) → NearestFrom P l.generator l.start key letter k → k ≡ nearest l key letter
  nearest_found k n = sym (only_nearest l key letter k (block_nearest k n.is))

-- ---- what the code finds: the first of the letter's keys, how many they are, and the key within the octave

module _ (P G letter start first n : ℕ) (key : ℤ) (k : ℕ) (h : 0 < P)
    (b : first ≡ sounds P G (pos letter -ℤ pos start) 0) (g : GcdOf P G n) (round : k ≡ remainder key P) where
  cycles_are : n ≡ cycles P G
  cycles_are = cycles_found P G n (λ z. let w : ⊥ = omega arith in w) g.is

  pub block : Block P first n
  block = record { some = g.positive; fits = omega (arith, b, cycles_are, sounds_fit P G letter start h) }

  pub nearest_from : (j : ℕ) → NearestIn P first n k j → NearestFrom P G start key letter j
  nearest_from j m =
      record {
        is =
            subst (λ (x : ℕ). NearestIn P (sounds P G (pos letter -ℤ pos start) 0) (cycles P G) x j) round
            (subst (λ (x : ℕ). NearestIn P (sounds P G (pos letter -ℤ pos start) 0) x k j) cycles_are
            (subst (λ (x : ℕ). NearestIn P x n k j) b m));
      }

-- ---- what the calls answer

module _ (l : Layout) (key : ℤ) (letter : ℕ) where
  pub no_letter : l.letters ≤ letter → refused 16 ≡ nearest_in l key letter
  unfolding nearest_in
  no_letter h = sym (ask_above 16 letter l.letters _ h)

  pub letter_found : Laid l → letter < l.letters → (k : ℕ) → NearestFrom l.octave l.generator l.start key letter k
      → given k ≡ nearest_in l key letter
  unfolding nearest_in
  letter_found d h k n =
      ap given (nearest_found d.caller l d.accepted letter h key k n) ∙ sym (ask_below 16 letter l.letters _ h)

module _ (r : IsomorphicLayout) (key : ℤ) (letter : ℕ) where
  pub nearest_refused : (n : ℕ) → refused n ≡ layout_outcome r → refused n ≡ get_nearest r key letter
  unfolding get_nearest
  nearest_refused n e = of_refused r _ n e

  -- the key as it was handed on
  pub nearest_given : (l : Layout) → given l ≡ layout_outcome r → (z : ℤ) → z ≡ key → (o : Outcome ℕ) → o ≡ nearest_in l z letter
      → o ≡ get_nearest r key letter
  unfolding get_nearest
  nearest_given l e z same o q = q ∙ ap (λ (y : ℤ). nearest_in l y letter) same ∙ of_given r _ l e

-- ---- the theorems

module _ (r : IsomorphicLayout) (key : ℤ) (letter k : ℕ) where
  abbrev Answered : Type 0
  Answered = (l : Layout) × Accepted r l × (letter < l.letters) × IsNearest l key letter k

  in_layout : (l : Layout) → Accepted r l → nearest_in l key letter ≡ given k → Answered
  unfolding nearest_in
  in_layout l a e =
      let h = ltb-true letter l.letters (asked_yes 16 (ltb letter l.letters) _ e) in
      let is = given_same (asked_rest 16 (ltb letter l.letters) _ e) in
      (l, a, h, subst (IsNearest l key letter) is (nearest_is_nearest r l a letter h key))

  there : get_nearest r key letter ≡ given k → Answered
  unfolding get_nearest
  there e = by (layout_outcome r) refl e
    where
      by : (o : Outcome Layout) → layout_outcome r ≡ o → and_then o (λ (l : Layout). nearest_in l key letter) ≡ given k → Answered
      by (given l) a q = in_layout l a q
      by (refused n) a q = absurd (let z : ◌≡◌ {A = ℕ} 0 1 = cc in omega arith)

  back : Answered → get_nearest r key letter ≡ given k
  unfolding get_nearest nearest_in
  back (l, a, h, n) =
      sym (of_given r _ l (sym a)) ∙ ask_below 16 letter l.letters _ h ∙ ap given (only_nearest l key letter k n)

pub nearest_is_answered : NearestIsAnswered
nearest_is_answered r key letter k = (there r key letter k, back r key letter k)

pub some_nearest_key : SomeNearest
some_nearest_key r l a letter h key =
    (nearest l key letter, back r key letter (nearest l key letter) (l, a, h, nearest_is_nearest r l a letter h key))
