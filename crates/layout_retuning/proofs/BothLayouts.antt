-- Both layouts of a retuning: what they share, what an answer tells of them, and the answers by the numbers that the code carries.
use Prim.Native.Nat.{ℕ, ◌≤◌, ◌<◌}
use mathlib.Core.Path.{◌≡◌, refl, sym, ap, ap₂, ◌∙◌, subst}
use native.Mathlib.Omega.{arith}
use lib.IntN.{ℤ, pos}
use Rattle.answer.specs.Outcome.{Outcome, given, refused, and_then}
use Rattle.answer.proofs.Asked.{given_same}
use Rattle.genchain.proofs.GoodChains.{chains_are_good}
use Rattle.pergen.specs.Spelling.{place, sounds}
use Rattle.pergen.specs.declared.Spelling.{Spelling}
use Rattle.layout.specs.Layouts.{Layout, layout_outcome, Accepted, letters_of}
use Rattle.layout.specs.Names.{place_in, key_of}
use Rattle.layout.proofs.Finding.{accepted, chain_is, octave_is, start_is}
use Rattle.layout_reach.specs.Reach.{distance}
use Rattle.layout_retuning.specs.Retunings.{first_of, second_of, moved}
use Rattle.layout_retuning.specs.Answers.{of_retuning}
use Rattle.layout_retuning.specs.Parts.{Numbers, tunings_of, get_tunings, Tuned, steps_by}
use Rattle.layout_retuning.specs.declared.Retuning.{Retuning}

-- ---- what they share

pub record Shared (l m : Layout) : Type 0 where
  pub positive : 0 < l.octave
  pub octave : m.octave ≡ l.octave
  pub letters : m.letters ≡ l.letters
  pub start : m.start ≡ l.start

module _ (t : Retuning) (l m : Layout) (e : Accepted (first_of t) l) (f : Accepted (second_of t) m) where
  -- both chains are the retuning's
  letters_first : l.letters ≡ letters_of t.genchain
  letters_first = (accepted (first_of t) l e).letters_are ∙ ap letters_of (chain_is (first_of t) l e)

  letters_second : m.letters ≡ letters_of t.genchain
  letters_second = (accepted (second_of t) m f).letters_are ∙ ap letters_of (chain_is (second_of t) m f)

  pub shared : Shared l m
  shared =
      record {
        positive = (accepted (first_of t) l e).positive;
        octave = octave_is (second_of t) m f ∙ sym (octave_is (first_of t) l e);
        letters = letters_second ∙ sym letters_first;
        start = start_is (second_of t) m f ∙ sym (start_is (first_of t) l e);
      }

  pub octave_shared : l.octave ≡ t.octave
  octave_shared = octave_is (first_of t) l e

  pub letters_shared : l.letters ≡ letters_of t.genchain
  letters_shared = letters_first

  pub some_letters : 5 ≤ l.letters
  some_letters =
      let a = accepted (first_of t) l e in omega (arith, a.letters_are, (chains_are_good l.chain a.chain).at_least_five)

  pub tuned_both : Tuned (tunings_of l m)
  tuned_both =
      let a = accepted (first_of t) l e in
      record { positive = a.positive; few_letters = omega (arith, a.letters_are, (chains_are_good l.chain a.chain).at_most_nine) }

module _ (l m : Layout) (s : Shared l m) (x : Spelling) where
  pub place_shared : place_in l x ≡ place_in m x
  unfolding place_in
  place_shared = ap₂ (λ (n o : ℕ). place n o x) (sym s.letters) (sym s.start)

  -- the second layout's key, by the numbers of the first and its own generator
  pub second_key : key_of m x ≡ sounds l.octave m.generator (place_in l x) x.stars
  unfolding key_of place_in
  second_key = ap₂ (λ (P : ℕ) (u : ℤ). sounds P m.generator u x.stars) s.octave (sym place_shared)

  pub moved_by_numbers : steps_by (tunings_of l m) x ≡ moved l m x
  unfolding steps_by moved key_of place_in
  moved_by_numbers = ap (λ (k : ℕ). distance l.octave (pos (key_of l x)) (pos k)) (sym second_key)

-- ---- what an answer tells

module _ {A : Type 0} (t : Retuning) (next : Layout → Layout → Outcome A) where
  pub of_both : (l m : Layout) → Accepted (first_of t) l → Accepted (second_of t) m → of_retuning t next ≡ next l m
  of_both l m e f =
      ap₂ (λ (o p : Outcome Layout). and_then o (λ (k : Layout). and_then p (λ (n : Layout). next k n))) e f

  -- an answer comes from two accepted layouts
  pub both_accepted : (a : A) → of_retuning t next ≡ given a
      → (l : Layout) × (m : Layout) × Accepted (first_of t) l × Accepted (second_of t) m × (next l m ≡ given a)
  both_accepted a q = by (layout_outcome (first_of t)) (layout_outcome (second_of t)) refl refl q
    where
      by : (o p : Outcome Layout) → layout_outcome (first_of t) ≡ o → layout_outcome (second_of t) ≡ p
          → and_then o (λ (k : Layout). and_then p (λ (n : Layout). next k n)) ≡ given a
          → (l : Layout) × (m : Layout) × Accepted (first_of t) l × Accepted (second_of t) m × (next l m ≡ given a)
      by (given l) (given m) e f z = (l, m, e, f, z)
      by (given l) (refused n) e f z = absurd (let w : ◌≡◌ {A = ℕ} 0 1 = cc in omega arith)
      by (refused n) p e f z = absurd (let w : ◌≡◌ {A = ℕ} 0 1 = cc in omega arith)

  -- the same by the numbers that the code carries
  pub by_numbers : (rest : Numbers → Outcome A)
      → ((l m : Layout) → Accepted (first_of t) l → Accepted (second_of t) m → rest (tunings_of l m) ≡ next l m)
      → and_then (get_tunings t) rest ≡ of_retuning t next
  unfolding get_tunings
  by_numbers rest same = by (layout_outcome (first_of t)) (layout_outcome (second_of t)) refl refl
    where
      by : (o p : Outcome Layout) → layout_outcome (first_of t) ≡ o → layout_outcome (second_of t) ≡ p
          → and_then (and_then o (λ (l : Layout). and_then p (λ (m : Layout). given (tunings_of l m)))) rest
          ≡ and_then o (λ (l : Layout). and_then p (λ (m : Layout). next l m))
      by (given l) (given m) e f = same l m e f
      by (given l) (refused n) e f = refl
      by (refused n) p e f = refl

-- ---- the questions of both, as the code asks them

module _ (t : Retuning) where
  pub refused_first : (n : ℕ) → refused n ≡ layout_outcome (first_of t) → refused n ≡ get_tunings t
  unfolding get_tunings
  refused_first n e =
      ap (λ (o : Outcome Layout). and_then o (λ (l : Layout). and_then (layout_outcome (second_of t)) (λ (m : Layout). given (tunings_of l m))))
      e

  module _ (l : Layout) (e : given l ≡ layout_outcome (first_of t)) where
    with_second : (o : Outcome Layout) → o ≡ layout_outcome (second_of t) → and_then o (λ (m : Layout). given (tunings_of l m)) ≡ get_tunings t
    unfolding get_tunings
    with_second o f = ap₂ (λ (p q : Outcome Layout). and_then p (λ (k : Layout). and_then q (λ (m : Layout). given (tunings_of k m)))) e f

    pub refused_second : (n : ℕ) → refused n ≡ layout_outcome (second_of t) → refused n ≡ get_tunings t
    refused_second n f = with_second (refused n) f

    pub both_found : (m : Layout) → given m ≡ layout_outcome (second_of t) → given (tunings_of l m) ≡ get_tunings t
    both_found m f = with_second (given m) f

  pub tuned : (k : Numbers) → given k ≡ get_tunings t → Tuned k
  unfolding get_tunings
  tuned k q =
      let found = both_accepted t (λ (l m : Layout). given (tunings_of l m)) k (sym q) in
      subst Tuned (given_same found.4) (tuned_both t found.0 found.1 found.2 found.3)
