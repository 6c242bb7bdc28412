-- The theorems: a distance that the reduced period divides is a difference by a multiple of it, and what is answered tells what was read.
use Prim.Native.Nat.{ℕ, zero, suc, ◌+◌, ◌*◌, ◌/◌, ◌%◌, ◌<◌}
use native.Mathlib.Nat.{mod-eq_of_lt, mul_comm, mul-zero, mul-suc, div-add-mod'}
use native.Mathlib.Omega.{arith}
use mathlib.Core.Bool.{Bool, true, false, false≢true}
use mathlib.Core.Logic.{◌↔◌}
use mathlib.Core.Path.{◌≡◌, refl, sym, ap, ◌∙◌, subst}
use mathlib.Core.List.{List}
use lib.Dec.{eqb, ltb}
use lib.IntN.{ℤ, pos, negsuc, nat_abs, ◌+ℤ◌, ◌-ℤ◌, ◌*ℤ◌}
use borrow.Author.Tests.{ltb-true, ltb-false, eqb-true, eq-eqb}
use Rattle.answer.specs.Choice.{pick}
use Rattle.answer.specs.Outcome.{Outcome, given, refused, ask, and_then}
use Rattle.answer.proofs.Asked.{given_same, asked_yes, asked_rest}
use Rattle.math.specs.Division.{remainder, Apart}
use Rattle.math.proofs.Congruence.{add_cong, add_cancel}
use Rattle.math.proofs.Integers.{up, down, Rep, rep_self, rep_pos, rep_add, rep_minus, rep_mul, rep_same}
use Rattle.math.proofs.Division.{remainder_rep, remainders_agree, apart_iff}
use Rattle.notes.specs.Names.{signs_in}
use Rattle.pergen.specs.Spelling.{place, sounds, sounded_key}
use Rattle.pergen.specs.declared.Signs.{Signs}
use Rattle.pergen.specs.declared.Signs.TheVariants.{Sharps, Flats}
use Rattle.pergen.specs.declared.Spelling.{Spelling}
use Rattle.pergen.proofs.Inverse.{reduced_positive}
use Rattle.pergen.proofs.DegreePlaces.{place_sharps, place_flats}
use Rattle.layout.specs.Layouts.{Layout, layout_outcome, Accepted, cycles_in, reduced_in}
use Rattle.layout.specs.Names.{IsSpelling, place_in, key_of}
use Rattle.layout.specs.declared.IsomorphicLayout.{IsomorphicLayout}
use Rattle.layout.proofs.Finding.{Parts, accepted}
use Rattle.layout.proofs.Naming.{spellings_sound_one_key}
use Rattle.layout_reading.specs.Answers.{typed_in, spelling_in, get_spelling}
use Rattle.layout_reading.proofs.Calls.{read_given, reading_given}
use Rattle.layout_reading.proofs.NothingElse.{told_in_lem}
use Rattle.layout_explaining.specs.Explanations.{apart_in, verdict_by, verdict_of, explanation_of}
use Rattle.layout_explaining.specs.Sentences.{explanation_text}
use Rattle.layout_explaining.specs.Answers.{explained_in, get_explanation, told_in, get_explanation_text}
use Rattle.layout_explaining.specs.Theorems.{VerdictsHold, Explains, ExplanationsHold, AllSpellingsAreExplained, TextsTellTheExplanation, SentencesHold}
use Rattle.layout_explaining.specs.declared.Verdict.{Verdict}
use Rattle.layout_explaining.specs.declared.Verdict.TheVariants.{OneKey, OneChain, TwoChains}
use Rattle.layout_explaining.specs.declared.Explanation.{Explanation}
use Rattle.layout_explaining.proofs.Numbers.{abs_above, abs_below, stars_differ, comes_round}
use Rattle.layout_explaining.proofs.Calls.{Read, read_of, compared_given, both_typed, explain_given}

-- ---- a distance by a multiple

gap : (R p q d : ℕ) → 0 < R → d + q ≡ p → (p % R ≡ q % R) ↔ (d % R ≡ 0)
gap R p q d h e = (there, back)
  where
    there : p % R ≡ q % R → d % R ≡ 0
    there f =
        add_cancel R q d 0 (ap (λ (n : ℕ). n % R) e ∙ f ∙ ap (λ (n : ℕ). n % R) (let z : q ≡ 0 + q = omega arith in z)) ∙ mod-eq_of_lt h

    back : d % R ≡ 0 → p % R ≡ q % R
    back f =
        ap (λ (n : ℕ). n % R) (sym e)
        ∙ add_cong R q d 0 (f ∙ sym (mod-eq_of_lt h))
        ∙ ap (λ (n : ℕ). n % R) (let z : 0 + q ≡ q = omega arith in z)

module _ (R : ℕ) (h : 0 < R) (u v : ℤ) where
  abbrev p : ℕ
  p = up u + down v

  abbrev q : ℕ
  q = up v + down u

  rep : Rep (u -ℤ v) p q
  rep = record { eq = omega (arith, (rep_minus (rep_self u) (rep_self v)).eq) }

  same : (remainder u R ≡ remainder v R) ↔ (p % R ≡ q % R)
  same = remainders_agree R h (rep_self u) (rep_self v)

  whole : (p % R ≡ q % R) ↔ (nat_abs (u -ℤ v) % R ≡ 0)
  whole = by (ltb p q) refl
    where
      by : (t : Bool) → ltb p q ≡ t → (p % R ≡ q % R) ↔ (nat_abs (u -ℤ v) % R ≡ 0)
      by true e =
          let g = gap R q p (nat_abs (u -ℤ v)) h (omega (arith, abs_below (u -ℤ v) p q rep (ltb-true p q e), ltb-true p q e)) in
          ((λ f. g.0 (sym f)), (λ f. sym (g.1 f)))
      by false e = gap R p q (nat_abs (u -ℤ v)) h (omega (arith, abs_above (u -ℤ v) p q rep (ltb-false p q e), ltb-false p q e))

  apart_counted : (nat_abs (u -ℤ v) % R ≡ 0) ↔ Apart R u v
  apart_counted = ((λ f. (apart_iff R h u v).0 (same.1 (whole.1 f))), (λ a. whole.0 (same.0 ((apart_iff R h u v).1 a))))

-- ---- the verdict

code : Verdict → ℕ
code OneKey = 0
code OneChain = 1
code TwoChains = 2

module _ (a b d R : ℕ) where
  one_key_tells : verdict_by a b d R ≡ OneKey → (a ≡ b) × (d % R ≡ 0)
  unfolding verdict_by code
  one_key_tells e = by (eqb a b) (eqb (d % R) 0) refl refl e
    where
      by : (s t : Bool) → eqb a b ≡ s → eqb (d % R) 0 ≡ t → pick s (pick t OneKey OneChain) TwoChains ≡ OneKey → (a ≡ b) × (d % R ≡ 0)
      by true true f g k = (eqb-true a b f, eqb-true (d % R) 0 g)
      by true false f g k = absurd (let z : ◌≡◌ {A = ℕ} 1 0 = ap code k in let w : ⊥ = omega arith in w)
      by false t f g k = absurd (let z : ◌≡◌ {A = ℕ} 2 0 = ap code k in let w : ⊥ = omega arith in w)

  two_chains_tells : verdict_by a b d R ≡ TwoChains → a ≡ b → ⊥
  unfolding verdict_by code
  two_chains_tells e = by (eqb a b) (eqb (d % R) 0) refl e
    where
      by : (s t : Bool) → eqb a b ≡ s → pick s (pick t OneKey OneChain) TwoChains ≡ TwoChains → a ≡ b → ⊥
      by true true f k same = let z : ◌≡◌ {A = ℕ} 0 2 = ap code k in omega arith
      by true false f k same = let z : ◌≡◌ {A = ℕ} 1 2 = ap code k in omega arith
      by false t f k same = false≢true (sym f ∙ eq-eqb a b same)

module _ (l : Layout) (a : Parts l) (x y : Spelling) where
  counted : (apart_in l x y % reduced_in l ≡ 0) ↔ Apart (reduced_in l) (place_in l x) (place_in l y)
  unfolding apart_in
  counted = apart_counted (reduced_in l) (reduced_positive l.octave l.generator a.positive) (place_in l x) (place_in l y)

  by_count : (verdict_of l x y ≡ OneKey) ↔ ((x.stars ≡ y.stars) × Apart (reduced_in l) (place_in l x) (place_in l y))
  unfolding verdict_of
  by_count = (
    (λ e. let t = one_key_tells x.stars y.stars (apart_in l x y) (reduced_in l) e in (t.0, counted.0 t.1)),
    (λ t. sym (comes_round x.stars y.stars (apart_in l x y) (reduced_in l) t.0 (counted.1 t.1))),
  )

  chains : (verdict_of l x y ≡ TwoChains) ↔ (x.stars ≡ y.stars → ⊥)
  unfolding verdict_of
  chains = (
    two_chains_tells x.stars y.stars (apart_in l x y) (reduced_in l),
    (λ h. sym (stars_differ x.stars y.stars (apart_in l x y) (reduced_in l) h)),
  )

  often : verdict_of l x y ≡ OneKey → apart_in l x y / reduced_in l * reduced_in l ≡ apart_in l x y
  unfolding verdict_of
  often e =
      let t = one_key_tells x.stars y.stars (apart_in l x y) (reduced_in l) e in
      omega (arith, div-add-mod' (apart_in l x y) (reduced_in l), t.1)

pub verdicts_hold : VerdictsHold
verdicts_hold r l a x y hx hy =
    let c = by_count l (accepted r l a) x y in
    let s = spellings_sound_one_key r l a x y hx hy in
    record {
      one_key = ((λ e. s.1 (c.0 e)), (λ k. c.1 (s.0 k)));
      by_counting = c;
      two_chains = chains l (accepted r l a) x y;
    }

-- ---- the sentences

counts_up : (l : Layout) (x : Spelling) (n : ℕ) → place_in l x ≡ pos n → key_of l x ≡ (n * l.generator + x.stars) % l.octave
unfolding key_of sounded_key sounds place_in
counts_up l x n e =
    ap (λ (z : ℤ). remainder (pos l.generator *ℤ z +ℤ pos x.stars) l.octave) e
    ∙ ap (λ (k : ℕ). (k + x.stars) % l.octave) (mul_comm l.generator n)

counts_down : (l : Layout) → Parts l → (x : Spelling) (n : ℕ) → place_in l x ≡ negsuc n
    → (key_of l x + suc n * l.generator) % l.octave ≡ x.stars % l.octave
unfolding key_of sounded_key sounds place_in
counts_down l a x n e =
    let G = l.generator in
    let P = l.octave in
    let z = pos G *ℤ negsuc n +ℤ pos x.stars in
    ap (λ (w : ℤ). (remainder (pos G *ℤ w +ℤ pos x.stars) P + suc n * G) % P) e
    ∙ ap (λ (k : ℕ). (remainder z P + k) % P) (let m : suc n * G ≡ G * suc n + 0 = omega (arith, mul_comm G (suc n)) in m)
    ∙ remainder_rep P a.positive (rep_add (rep_mul G (rep_self (negsuc n))) (rep_pos x.stars))
    ∙ ap (λ (k : ℕ). k % P) (let m : G * 0 + x.stars ≡ x.stars = omega (arith, mul-zero G) in m)

none : (z : ℤ) → z ≡ pos 0 → Rep z 0 0
none z e = subst (λ (w : ℤ). Rep w 0 0) (sym e) (rep_pos 0)

at_home : (N o i s : ℕ) (g : Signs) → o < N → i < N → place N o (record { index = i; signs = g; stars = s }) ≡ pos 0
    → (i ≡ o) × (signs_in g ≡ 0)
at_home N o i s (Sharps zero) h j e = (omega (arith, rep_same (place_sharps N o i zero s) (none _ e), mul-zero N), refl)
at_home N o i s (Sharps (suc n)) h j e =
    absurd (let w : ⊥ = omega (arith, rep_same (place_sharps N o i (suc n) s) (none _ e), mul-suc N n) in w)
at_home N o i s (Flats zero) h j e = (omega (arith, rep_same (place_flats N o i zero s) (none _ e), mul-zero N), refl)
at_home N o i s (Flats (suc n)) h j e =
    absurd (let w : ⊥ = omega (arith, rep_same (place_flats N o i (suc n) s) (none _ e), mul-suc N n) in w)

begins_at : (l : Layout) → Parts l → (x : Spelling) → IsSpelling l x → place_in l x ≡ pos 0 → (x.index ≡ l.start) × (signs_in x.signs ≡ 0)
unfolding place_in
begins_at l a x s e = at_home l.letters l.start x.index x.stars x.signs a.start_below s.letter e

pub sentences_hold : SentencesHold
sentences_hold r l e =
    let a = accepted r l e in (
      (λ x s. record { up = counts_up l x; down = counts_down l a x; begins = begins_at l a x s }),
      (λ x y v. often l a x y v),
    )

-- ---- what is answered

abbrev Explained : IsomorphicLayout → (first second : List ℕ) → Outcome Layout → Outcome Explanation
Explained r first second o = and_then o (λ (l : Layout). explained_in l first second)

module _ (r : IsomorphicLayout) (first second : List ℕ) (e : Explanation) (l : Layout) (a : layout_outcome r ≡ given l)
    (t : Read l first second e)
  where
    parts : Parts l
    parts = accepted r l a

    read_alone : (text : List ℕ) (x : Spelling) → typed_in l text ≡ given x → x.stars < cycles_in l → get_spelling r text ≡ given x
    read_alone text x f s = sym (reading_given r text l (sym a) (given x) (read_given l text x (sym f) (cycles_in l) refl s))

    explains : Explains r first second e
    unfolding explanation_of apart_in
    explains =
        record {
          layout = l;
          accepted = a;
          one = t.one;
          other = t.other;
          first_read = read_alone first t.one t.first_typed t.first_stars;
          second_read = read_alone second t.other t.second_typed t.second_stars;
          is_one = record { letter = (told_in_lem l parts first t.one t.first_typed).letter; stars = t.first_stars };
          is_other = record { letter = (told_in_lem l parts second t.other t.second_typed).letter; stars = t.second_stars };
          first_stands = sym (ap (λ (z : Explanation). z.first) t.is);
          second_stands = sym (ap (λ (z : Explanation). z.second) t.is);
          apart_is = sym (ap (λ (z : Explanation). z.apart) t.is);
          round_is = sym (ap (λ (z : Explanation). z.reduced_period) t.is);
          verdict_is = sym (ap (λ (z : Explanation). z.verdict) t.is);
        }

pub explanations_hold : ExplanationsHold
unfolding get_explanation
explanations_hold r first second e q = by (layout_outcome r) refl q
  where
    by : (o : Outcome Layout) → layout_outcome r ≡ o → Explained r first second o ≡ given e → Explains r first second e
    by (refused n) a f = absurd (let z : ◌≡◌ {A = ℕ} 0 1 = cc in omega arith)
    by (given l) a f = explains r first second e l a (read_of l first second e f)

typed_of : (l : Layout) (text : List ℕ) (x : Spelling) → spelling_in l text ≡ given x → (typed_in l text ≡ given x) × (x.stars < cycles_in l)
unfolding spelling_in
typed_of l text x e = by (typed_in l text) refl e
  where
    by : (o : Outcome Spelling) → typed_in l text ≡ o
        → and_then o (λ (y : Spelling). ask 21 (ltb y.stars (cycles_in l)) (given y)) ≡ given x
        → (typed_in l text ≡ given x) × (x.stars < cycles_in l)
    by (refused n) q f = absurd (let z : ◌≡◌ {A = ℕ} 0 1 = cc in omega arith)
    by (given y) q f =
        let b = ltb y.stars (cycles_in l) in
        let same : y ≡ x = given_same (asked_rest 21 b (given y) f) in
        (q ∙ ap given same, rw (sym same) (ltb-true y.stars (cycles_in l) (asked_yes 21 b (given y) f)))

pub all_spellings_are_explained : AllSpellingsAreExplained
unfolding get_spelling
all_spellings_are_explained r first second x y ex ey = by (layout_outcome r) refl ex ey
  where
    by : (o : Outcome Layout) → layout_outcome r ≡ o → and_then o (λ (l : Layout). spelling_in l first) ≡ given x
        → and_then o (λ (l : Layout). spelling_in l second) ≡ given y
        → (e : Explanation) × (get_explanation r first second ≡ given e)
    by (refused n) a f g = absurd (let z : ◌≡◌ {A = ℕ} 0 1 = cc in omega arith)
    by (given l) a f g =
        let tx = typed_of l first x f in
        let ty = typed_of l second y g in (
          explanation_of l x y,
          sym (explain_given r first second l (sym a) (given (explanation_of l x y))
              (both_typed l first second x (sym tx.0) y (sym ty.0) (given (explanation_of l x y))
              (compared_given l x y (cycles_in l) refl tx.1 ty.1 (explanation_of l x y) refl))),
        )

pub texts_tell_the_explanation : TextsTellTheExplanation
unfolding get_explanation_text told_in
texts_tell_the_explanation r first second text q = by (layout_outcome r) refl q
  where
    of : (l : Layout) → layout_outcome r ≡ given l → (o : Outcome Explanation) → explained_in l first second ≡ o
        → and_then o (λ (e : Explanation). given (explanation_text l first second e)) ≡ given text
        → (m : Layout) × (e : Explanation)
        × Accepted r m × (get_explanation r first second ≡ given e) × (text ≡ explanation_text m first second e)
    of l a (refused n) f g = absurd (let z : ◌≡◌ {A = ℕ} 0 1 = cc in omega arith)
    of l a (given e) f g = (l, e, a, sym (explain_given r first second l (sym a) (given e) (sym f)), sym (given_same g))

    by : (o : Outcome Layout) → layout_outcome r ≡ o
        → and_then o (λ (l : Layout). and_then (explained_in l first second) (λ (e : Explanation). given (explanation_text l first second e))) ≡ given text
        → (m : Layout) × (e : Explanation)
        × Accepted r m × (get_explanation r first second ≡ given e) × (text ≡ explanation_text m first second e)
    by (refused n) a f = absurd (let z : ◌≡◌ {A = ℕ} 0 1 = cc in omega arith)
    by (given l) a f = of l a (explained_in l first second) refl f
