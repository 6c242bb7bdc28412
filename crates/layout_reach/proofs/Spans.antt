-- The keys in reach are one or two runs of neighbours: which they are, how they are written, and that they are the definition's list.
use Prim.Native.Nat.{ℕ, ◌+◌, ◌*◌, ◌-◌, ◌≤◌, ◌<◌, min}
use mathlib.Core.Path.{◌≡◌, refl, sym, ap, ap₂, ◌∙◌, subst}
use mathlib.Core.Bool.{Bool, true, false}
use mathlib.Core.Logic.{◌⊎◌, inl, inr, ◌↔◌}
use mathlib.Core.List.{List, [], ◌∷◌, ◌++◌, append-nil, Memᴰ}
use lib.Dec.{ltb, leb}
use lib.IntN.{ℤ, pos}
use lib.ListN.{length, set, length-append}
use borrow.Author.Tests.{le-leb, lt-leb, leb-true, ltb-true, ltb-false, leb-false}
use native.Mathlib.Nat.{add-sub_of_le}
use native.Mathlib.Omega.{arith}
use Rattle.answer.specs.Outcome.{Outcome, given, refused, and_then}
use Rattle.answer.specs.Lent.{held_in, in_room, counted, Filled}
use Rattle.answer.proofs.Lent.{held, not_held, filled_refused}
use Rattle.math.specs.Division.{remainder}
use Rattle.math.specs.Passing.{run, passing}
use Rattle.math.proofs.Division.{remainder_below}
use Rattle.math.proofs.Passing.{length_run, run_more, kept_to, left_out_to, none_passes, passes_iff, passing_rise}
use Rattle.text.specs.Writing.{Room, Wrote}
use Rattle.text.proofs.Writing.{wrote_none, wrote_one, then, wrote_as, room_first, filled_given}
use Rattle.layout.specs.declared.IsomorphicLayout.{IsomorphicLayout}
use Rattle.layout.specs.Layouts.{Layout, layout_outcome}
use Rattle.layout.proofs.Calls.{of_refused, of_given, parts_of, filled_as, refused_in_room}
use Rattle.layout_reach.specs.Reach.{distance, in_reach}
use Rattle.layout_reach.specs.Answers.{get_reach, CountsReach}
use Rattle.layout_reach.specs.Parts.{SpanOf}
use Rattle.layout_reach.specs.Theorems.{ReachIs, ReachIsExact}
use Rattle.layout_reach.specs.declared.parts.Span.{Span}
use Rattle.layout_reach.proofs.Distances.{gap, distance_is, distance_key}

-- ---- near and far, by the gap of two keys of the octave

module _ (P j key d : ℕ) (hj : j < P) (hk : key < P) where
  near_min : (g : ℕ) → (g ≤ d) ⊎ (P ≤ d + g) → min g (P - g) ≤ d
  near_min g (inl h) = omega arith
  near_min g (inr h) = omega arith

  near : (gap j key ≤ d) ⊎ (P ≤ d + gap j key) → distance P (pos j) (pos key) ≤ d
  near h = subst (λ (n : ℕ). n ≤ d) (sym (distance_is P j key hj hk)) (near_min (gap j key) h)

  far_min : (g : ℕ) → d < g → d + g < P → d < min g (P - g)
  far_min g h l = omega arith

  far : d < gap j key → d + gap j key < P → d < distance P (pos j) (pos key)
  far h l = subst (λ (n : ℕ). d < n) (sym (distance_is P j key hj hk)) (far_min (gap j key) h l)

half : (P g d : ℕ) → g < P → P ≤ 2 * d + 1 → min g (P - g) ≤ d
half P g d h l = omega arith

-- ---- which they are, for each way in which the code ends

abbrev spanned : ℕ → ℕ → ℕ → Span
spanned w f t = record { wrapped = w; from = f; to = t }

module _ (P key d : ℕ) (hk : key < P) where
  pub span_all : P ≤ 2 * d + 1 → SpanOf P key d (spanned 0 0 P)
  span_all h =
      record {
        first = omega arith;
        second = omega arith;
        third = omega arith;
        near_first = λ j l. absurd (let z : ⊥ = omega arith in z);
        far_first = λ j f l. absurd (let z : ⊥ = omega arith in z);
        near_second = λ j f l.
            subst (λ (n : ℕ). n ≤ d) (sym (distance_is P j key l hk)) (half P (gap j key) d (omega arith) h);
        far_second = λ j f l. absurd (let z : ⊥ = omega arith in z);
        together = omega arith;
      }

  module _ (some : 2 * d + 1 < P) where
    pub span_low : key < d → SpanOf P key d (spanned (key + d + 1) (P - (d - key)) P)
    span_low h =
        record {
          first = omega arith;
          second = omega arith;
          third = omega arith;
          near_first = λ j l. near P j key d (omega arith) hk (inl (omega arith));
          far_first = λ j f l. far P j key d (omega arith) hk (omega arith) (omega arith);
          near_second = λ j f l. near P j key d l hk (inr (omega arith));
          far_second = λ j f l. absurd (let z : ⊥ = omega arith in z);
          together = omega arith;
        }

    pub span_high : d ≤ key → P - key ≤ d → SpanOf P key d (spanned (d + 1 - (P - key)) (key - d) P)
    span_high h k =
        record {
          first = omega arith;
          second = omega arith;
          third = omega arith;
          near_first = λ j l. near P j key d (omega arith) hk (inr (omega arith));
          far_first = λ j f l. far P j key d (omega arith) hk (omega arith) (omega arith);
          near_second = λ j f l. near P j key d l hk (inl (omega arith));
          far_second = λ j f l. absurd (let z : ⊥ = omega arith in z);
          together = omega arith;
        }

    pub span_inside : d ≤ key → d < P - key → SpanOf P key d (spanned 0 (key - d) (key + d + 1))
    span_inside h k =
        record {
          first = omega arith;
          second = omega arith;
          third = omega arith;
          near_first = λ j l. absurd (let z : ⊥ = omega arith in z);
          far_first = λ j f l. far P j key d (omega arith) hk (omega arith) (omega arith);
          near_second = λ j f l. near P j key d (omega arith) hk (inl (omega arith));
          far_second = λ j f l. far P j key d l hk (omega arith) (omega arith);
          together = omega arith;
        }

  some_span : (s : Span) × SpanOf P key d s
  some_span = by (leb P (2 * d + 1)) (ltb key d) (leb (P - key) d) refl refl refl
    where
      by : (t u v : Bool) → leb P (2 * d + 1) ≡ t → ltb key d ≡ u → leb (P - key) d ≡ v → (s : Span) × SpanOf P key d s
      by true u v q r w = (_, span_all (leb-true P (2 * d + 1) q))
      by false true v q r w = (_, span_low (leb-false P (2 * d + 1) q) (ltb-true key d r))
      by false false true q r w = (_, span_high (leb-false P (2 * d + 1) q) (ltb-false key d r) (leb-true (P - key) d w))
      by false false false q r w = (_, span_inside (leb-false P (2 * d + 1) q) (ltb-false key d r) (leb-false (P - key) d w))

-- ---- runs as the code stores them

pub run_start : (xs : List ℕ) (at from : ℕ) → Wrote xs at (run from (from - from)) xs (at + (from - from))
unfolding run
run_start xs at from =
    let w = wrote_as (ap (run from) (let z : 0 ≡ from - from = omega arith in z)) (wrote_none xs at) in
    record { content = w.content; end = (let z : at + (from - from) ≡ at = omega arith in z) ∙ w.end }

pub run_step : {xs ys : List ℕ} {at : ℕ} (from key : ℕ) → from ≤ key → Wrote xs at (run from (key - from)) ys (at + (key - from))
    → Wrote xs at (run from (key + 1 - from)) (set ys (at + (key - from)) key) (at + (key + 1 - from))
run_step {xs} {ys} {at} from key h w =
    let next =
    wrote_as
    (ap (λ (n : ℕ). run from (key - from) ++ (n ∷ [])) (sym (add-sub_of_le h))
    ∙ sym (run_more from (key - from))
    ∙ ap (run from) (let z : key - from + 1 ≡ key + 1 - from = omega arith in z))
    (then w (wrote_one ys (at + (key - from)) key)) in
    record { content = next.content; end = (let z : at + (key + 1 - from) ≡ at + (key - from) + 1 = omega arith in z) ∙ next.end }

-- ---- the definition's list

-- of a key that was brought round the octave
pub span_round : (P : ℕ) (key : ℤ) (d k : ℕ) (s : Span) → k ≡ remainder key P → SpanOf P k d s → SpanOf P (remainder key P) d s
span_round P key d k s round h = subst (λ (x : ℕ). SpanOf P x d s) round h

module _ (P : ℕ) (key : ℤ) (d : ℕ) (some : 0 < P) (s : Span) (h : SpanOf P (remainder key P) d s) where
  abbrev test : ℕ → Bool
  test k = leb (distance P (pos k) key) d

  yes : (j : ℕ) → distance P (pos j) (pos (remainder key P)) ≤ d → test j ≡ true
  yes j l = le-leb (distance P (pos j) key) d (omega (arith, distance_key P some j key))

  no : (j : ℕ) → d < distance P (pos j) (pos (remainder key P)) → test j ≡ false
  no j l = lt-leb (distance P (pos j) key) d (omega (arith, distance_key P some j key))

  abbrev runs : List ℕ
  runs = run 0 (s.wrapped - 0) ++ run s.from (s.to - s.from)

  in_reach_is : in_reach P key d ≡ runs
  unfolding in_reach
  in_reach_is =
      let front = run 0 (s.wrapped - 0) in
      ap (λ (n : ℕ). passing test n 0) (let z : P ≡ P - 0 = omega arith in z)
      ∙ kept_to test 0 s.wrapped P (omega arith) (omega (arith, h.first, h.second, h.third)) (λ j l m. yes j (h.near_first j m))
      ∙ ap (λ (ks : List ℕ). front ++ ks)
      (left_out_to test s.wrapped s.from P h.first (omega (arith, h.second, h.third)) (λ j l m. no j (h.far_first j l m))
      ∙ kept_to test s.from s.to P h.second h.third (λ j l m. yes j (h.near_second j l m))
      ∙ ap (λ (ks : List ℕ). run s.from (s.to - s.from) ++ ks)
      (none_passes test (P - s.to) s.to (λ j l m. no j (h.far_second j l (omega (arith, h.third)))))
      ∙ append-nil (run s.from (s.to - s.from)))

  length_runs : length runs ≡ min (2 * d + 1) P
  length_runs =
      length-append (run 0 (s.wrapped - 0)) (run s.from (s.to - s.from))
      ∙ ap₂ (λ (x y : ℕ). x + y) (length_run 0 (s.wrapped - 0) ∙ (let z : s.wrapped - 0 ≡ s.wrapped = omega arith in z)) (length_run s.from (s.to - s.from))
      ∙ h.together

  -- room for both runs, as the code has asked for it
  pub runs_fit : (xs : List ℕ) (n : ℕ) → n ≡ min (2 * d + 1) P → n ≤ length xs → Room xs 0 runs
  runs_fit xs n e l = omega (arith, length_runs, e)

  pub first_fits : (xs : List ℕ) (n : ℕ) → n ≡ min (2 * d + 1) P → n ≤ length xs → Room xs 0 (run 0 (s.wrapped - 0))
  first_fits xs n e l = room_first xs 0 (run 0 (s.wrapped - 0)) (run s.from (s.to - s.from)) (runs_fit xs n e l)

  pub reach_written : {xs ys zs : List ℕ} {mid next : ℕ} (n : ℕ) → n ≡ min (2 * d + 1) P → n ≤ length xs
      → Wrote xs 0 (run 0 (s.wrapped - 0)) ys mid → Wrote ys mid (run s.from (s.to - s.from)) zs next
      → Filled (held_in (length xs) (in_reach P key d)) (given n) xs zs
  reach_written {xs} n e l v w =
      let size : length (in_reach P key d) ≡ n = ap length in_reach_is ∙ length_runs ∙ sym e in
      filled_given (held (length xs) (in_reach P key d) (omega (arith, size))) (ap given (sym size)) (omega (arith, size))
      (wrote_as (sym in_reach_is) (then v w))

module _ (P : ℕ) (some : 0 < P) (key : ℤ) (d : ℕ) where
  found : (s : Span) × SpanOf P (remainder key P) d s
  found = some_span P (remainder key P) d (remainder_below key P some)

  length_in_reach : length (in_reach P key d) ≡ min (2 * d + 1) P
  length_in_reach = ap length (in_reach_is P key d some found.0 found.1) ∙ length_runs P key d some found.0 found.1

  pub reach_no_room : (xs : List ℕ) (n : ℕ) → n ≡ min (2 * d + 1) P → length xs < n → Filled (held_in (length xs) (in_reach P key d)) (refused 10) xs xs
  reach_no_room xs n e l = filled_refused 10 xs (not_held (length xs) (in_reach P key d) (omega (arith, length_in_reach, e))) refl

  whole : P ≤ 2 * d + 1 → in_reach P key d ≡ run 0 P
  unfolding run
  whole h =
      in_reach_is P key d some (spanned 0 0 P) (span_all P (remainder key P) d (remainder_below key P some) h)
      ∙ ap (run 0) (let z : P - 0 ≡ P = omega arith in z)

  exactly : (k : ℕ) → Memᴰ k (in_reach P key d) ↔ ((k < P) × (distance P (pos k) key ≤ d))
  unfolding in_reach
  exactly k =
      let iff = passes_iff (λ (j : ℕ). leb (distance P (pos j) key) d) P k in (
        λ m. let p = iff.0 m in (p.0, leb-true (distance P (pos k) key) d p.1),
        λ p. iff.1 (p.0, le-leb (distance P (pos k) key) d p.1),
      )

  reach_is : ReachIs P key d
  unfolding in_reach
  reach_is =
      record {
        rising = passing_rise (λ (j : ℕ). leb (distance P (pos j) key) d) P 0;
        exactly = exactly;
        many = length_in_reach;
        whole = whole;
      }

pub reach_is_exact : ReachIsExact
reach_is_exact P some key d = reach_is P some key d

-- ---- what the calls answer

module _ (r : IsomorphicLayout) (d : ℕ) where
  reach_refused : (key : ℤ) (n : ℕ) → refused n ≡ layout_outcome r → refused n ≡ get_reach r key d
  unfolding get_reach
  reach_refused key n e = of_refused r _ n e

  reach_of_layout : (key : ℤ) (l : Layout) → given l ≡ layout_outcome r → given (in_reach l.octave key d) ≡ get_reach r key d
  unfolding get_reach
  reach_of_layout key l e = of_given r _ l e

  pub reach_not_written : (key : ℤ) (n : ℕ) → refused n ≡ layout_outcome r → (xs : List ℕ)
      → Filled (in_room (length xs) (get_reach r key d)) (refused n) xs xs
  reach_not_written key n e xs = filled_refused n xs (refused_in_room (length xs) n (get_reach r key d) (reach_refused key n e)) refl

  -- the key as it was handed on
  pub reach_given : (l : Layout) → given l ≡ layout_outcome r → (z key : ℤ) → z ≡ key → {a : Outcome ℕ} {xs ys : List ℕ}
      → Filled (held_in (length xs) (in_reach l.octave z d)) a xs ys → Filled (in_room (length xs) (get_reach r key d)) a xs ys
  reach_given l e z key q {xs = xs} f =
      filled_as
      (ap (λ (y : ℤ). held_in (length xs) (in_reach l.octave y d)) q
      ∙ ap (λ (o : Outcome (List ℕ)). and_then o (held_in (length xs))) (reach_of_layout key l e))
      f

  pub count_refused : (n : ℕ) → refused n ≡ layout_outcome r → CountsReach r d (refused n)
  count_refused n e key = ap counted (reach_refused key n e)

  pub count_given : (l : Layout) → given l ≡ layout_outcome r → (n : ℕ) → n ≡ min (2 * d + 1) l.octave → CountsReach r d (given n)
  count_given l e n q key =
      ap given (q ∙ sym (length_in_reach l.octave (parts_of r l e).positive key d)) ∙ ap counted (reach_of_layout key l e)
