-- What it takes for a layout to be accepted, and what the questions answer: by cases on the generator's outcome.
use Rattle.std.specs.Prelude.{Option, None, Some}
use Prim.Native.Nat.{ℕ, ◌-◌, ◌%◌, ◌≤◌, ◌<◌}
use mathlib.Core.Path.{◌≡◌, refl, sym, ap, ap₂, ◌∙◌, subst}
use native.Mathlib.Omega.{arith}
use lib.Dec.{ltb, leb}
use borrow.Author.Tests.{ltb-true, leb-true}
use Rattle.answer.specs.Outcome.{Outcome, given, refused, ask, and_then}
use Rattle.answer.proofs.Questions.{ask_above, ask_below}
use Rattle.answer.proofs.Asked.{given_same, asked_yes, asked_rest}
use Rattle.genchain.specs.Chains.{chain_of}
use Rattle.genchain.specs.Answers.{generator_outcome}
use Rattle.genchain.proofs.GoodChains.{chains_are_good}
use Rattle.mos.specs.declared.Mos.{Mos}
use Rattle.mos.specs.Patterns.{mos, genesis}
use Rattle.mos.specs.Walks.{children, first_with}
use Rattle.layout.specs.Layouts.{Layout, letters_of, layout_with, with_pattern, layout_outcome, Accepted, default_layout}
use Rattle.layout.specs.Theorems.{first_with_pattern, first_layout, DefaultStartStays}
use Rattle.layout.specs.Parts.{Laid}
use Rattle.layout.specs.declared.IsomorphicLayout.{IsomorphicLayout}

-- ---- what a given generator tells

pub record Generated (code octave : ℕ) : Type 0 where
  pub chain : code < 6
  pub positive : 0 < octave

pub generated : (code octave tritave G : ℕ) → generator_outcome code octave tritave ≡ given G → Generated code octave
unfolding generator_outcome
generated code octave tritave G e =
    record {
      chain = ltb-true code 6 (asked_yes 1 (ltb code 6) _ e);
      positive = leb-true 1 octave (asked_yes 2 (leb 1 octave) _ (asked_rest 1 (ltb code 6) _ e));
    }

-- ---- what the questions answer

abbrev pub generator_of : IsomorphicLayout → Outcome ℕ
generator_of r = generator_outcome r.genchain r.octave r.tritave

abbrev pub walked : IsomorphicLayout → ℕ → Option Mos
walked r G = first_with (letters_of r.genchain) (children (genesis r.octave G))

module _ (r : IsomorphicLayout) where
  pub ask_refused : (n : ℕ) → refused n ≡ generator_of r → refused n ≡ layout_outcome r
  unfolding layout_outcome
  ask_refused n e = ap (λ (o : Outcome ℕ). and_then o (λ (G : ℕ). with_pattern r G (walked r G))) e

  pub ask_given : (G : ℕ) (x : Outcome Layout) → given G ≡ generator_of r → x ≡ with_pattern r G (walked r G) → x ≡ layout_outcome r
  unfolding layout_outcome
  ask_given G x e p = p ∙ ap (λ (o : Outcome ℕ). and_then o (λ (H : ℕ). with_pattern r H (walked r H))) e

  -- with the chain's number of letters N, and the walk from the generator within the octave
  module _ (N : ℕ) (count : N ≡ letters_of r.genchain) (G step : ℕ) (within : step ≡ G % r.octave) where
    abbrev walked_from : Option Mos
    walked_from = first_with N (children (mos 1 1 step (r.octave - step)))

    abbrev made_of : Mos → ℕ → Layout
    made_of m letters =
        record { chain = r.genchain; octave = r.octave; generator = G; letters = letters; start = r.start; pattern = m }

    same_walk : walked_from ≡ walked r G
    same_walk = ap₂ (λ (n k : ℕ). first_with n (children (mos 1 1 k (r.octave - k)))) count within

    met : (m : Mos) → Some m ≡ walked_from → ask 18 (ltb r.start N) (given (made_of m N)) ≡ with_pattern r G (walked r G)
    met m e = ap (λ (n : ℕ). ask 18 (ltb r.start n) (given (made_of m n))) count ∙ ap (with_pattern r G) (e ∙ same_walk)

    pub walk_met : (m : Mos) → Some m ≡ walked_from → r.start < N → given (made_of m N) ≡ with_pattern r G (walked r G)
    walk_met m e h = sym (ask_below 18 r.start N _ h) ∙ met m e

    pub no_start : (m : Mos) → Some m ≡ walked_from → N ≤ r.start → refused 18 ≡ with_pattern r G (walked r G)
    no_start m e h = sym (ask_above 18 r.start N _ h) ∙ met m e

    pub walk_without : None ≡ walked_from → refused 4 ≡ with_pattern r G (walked r G)
    walk_without e = ap (with_pattern r G) (e ∙ same_walk)

-- ---- what an accepted layout is

pub record Parts (l : Layout) : Type 0 where
  pub chain : l.chain < 6
  pub positive : 0 < l.octave
  pub letters_are : l.letters ≡ letters_of l.chain
  pub start_below : l.start < l.letters
  pub pattern : first_with l.letters (children (genesis l.octave l.generator)) ≡ Some l.pattern

-- what holds of all layouts that the questions make holds of the accepted one
made : (r : IsomorphicLayout) (l : Layout) (Q : Layout → Type 0)
    → ((G : ℕ) (m : Mos) → generator_of r ≡ given G → walked r G ≡ Some m → r.start < letters_of r.genchain → Q (layout_with r G m))
    → Accepted r l → Q l
unfolding layout_outcome
made r l Q f e = by (generator_of r) refl e
  where
    of : (G : ℕ) (o : Option Mos) → generator_of r ≡ given G → walked r G ≡ o → with_pattern r G o ≡ given l → Q l
    of G None g w q = absurd (let z : ◌≡◌ {A = ℕ} 0 1 = cc in omega arith)
    of G (Some m) g w q =
        let N = letters_of r.genchain in
        subst Q (given_same (asked_rest 18 (ltb r.start N) _ q))
        (f G m g w (ltb-true r.start N (asked_yes 18 (ltb r.start N) _ q)))

    by : (o : Outcome ℕ) → generator_of r ≡ o → and_then o (λ (G : ℕ). with_pattern r G (walked r G)) ≡ given l → Q l
    by (given G) g q = of G (walked r G) g refl q
    by (refused n) g q = absurd (let z : ◌≡◌ {A = ℕ} 0 1 = cc in omega arith)

pub accepted : (r : IsomorphicLayout) (l : Layout) → Accepted r l → Parts l
accepted r l =
    made r l Parts
    (λ G m g w s.
    let asked = generated r.genchain r.octave r.tritave G g in
    record {
      chain = asked.chain;
      positive = asked.positive;
      letters_are = refl;
      start_below = s;
      pattern = w;
    })

pub laid : (l : Layout) → Laid l → Parts l
laid l h = accepted h.caller l h.accepted

-- what it has of its caller's record
pub chain_is : (r : IsomorphicLayout) (l : Layout) → Accepted r l → l.chain ≡ r.genchain
chain_is r l = made r l (λ (k : Layout). k.chain ≡ r.genchain) (λ G m g w s. refl)

pub octave_is : (r : IsomorphicLayout) (l : Layout) → Accepted r l → l.octave ≡ r.octave
octave_is r l = made r l (λ (k : Layout). k.octave ≡ r.octave) (λ G m g w s. refl)

pub start_is : (r : IsomorphicLayout) (l : Layout) → Accepted r l → l.start ≡ r.start
start_is r l = made r l (λ (k : Layout). k.start ≡ r.start) (λ G m g w s. refl)

-- ---- the chain's own start passes question 18

pub default_start_stays : DefaultStartStays
unfolding layout_outcome first_layout
default_start_stays code octave tritave = by (generator_outcome code octave tritave) refl
  where
    r : IsomorphicLayout
    r = default_layout code octave tritave

    of : (G : ℕ) → code < 6 → (o : Option Mos) → with_pattern r G o ≡ first_with_pattern r G o
    of G h None = refl
    of G h (Some m) = ask_below 18 (chain_of code).start (letters_of code) _ (chains_are_good code h).start_below

    by : (o : Outcome ℕ) → generator_outcome code octave tritave ≡ o
        → and_then o (λ (G : ℕ). with_pattern r G (walked r G)) ≡ and_then o (λ (G : ℕ). first_with_pattern r G (walked r G))
    by (given G) e = of G (generated code octave tritave G e).chain (walked r G)
    by (refused n) e = refl
