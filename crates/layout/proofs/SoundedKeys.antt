-- The key that a spelling sounds: one law for each way in which the call ends, and which spellings have a key.
use Prim.Native.Nat.{ℕ, ◌≤◌, ◌<◌}
use mathlib.Core.Path.{◌≡◌, refl, sym, ap, ◌∙◌}
use native.Mathlib.Omega.{arith}
use lib.Dec.{ltb}
use lib.IntN.{ℤ}
use borrow.Author.Tests.{ltb-true}
use Rattle.answer.specs.Outcome.{Outcome, given, refused, and_then}
use Rattle.answer.proofs.Asked.{given_same, asked_yes, asked_rest}
use Rattle.answer.proofs.Questions.{ask_above, ask_below}
use Rattle.math.specs.Gcd.{gcd_or_one}
use Rattle.pergen.specs.Spelling.{place, sounds}
use Rattle.pergen.specs.declared.Spelling.{Spelling}
use Rattle.pergen.proofs.Calls.{cycles_found}
use Rattle.layout.specs.Layouts.{Layout, layout_outcome, Accepted, cycles_in}
use Rattle.layout.specs.Names.{IsSpelling, key_of}
use Rattle.layout.specs.Answers.{sounded_in, get_sounded_key}
use Rattle.layout.specs.Parts.{Laid}
use Rattle.layout.specs.Theorems.{SpellingsHaveAKey}
use Rattle.layout.specs.declared.IsomorphicLayout.{IsomorphicLayout}
use Rattle.layout.proofs.Finding.{laid}
use Rattle.layout.proofs.Calls.{of_refused, of_given}

-- ---- in a layout

module _ (l : Layout) (x : Spelling) where
  pub no_letter : l.letters ≤ x.index → refused 16 ≡ sounded_in l x
  unfolding sounded_in
  no_letter h = sym (ask_above 16 x.index l.letters _ h)

  module _ (h : Laid l) (lettered : x.index < l.letters) (n : ℕ) (found : n ≡ gcd_or_one l.octave l.generator) where
    n_is : n ≡ cycles_in l
    n_is = cycles_found l.octave l.generator n (λ z. let p = (laid l h).positive in let w : ⊥ = omega arith in w) found

    pub many_stars : n ≤ x.stars → refused 21 ≡ sounded_in l x
    unfolding sounded_in
    many_stars k = sym (ask_below 16 x.index l.letters _ lettered ∙ ask_above 21 x.stars _ _ (rw (sym n_is) k))

    pub key_sounded : (key : ℕ) (z : ℤ) → x.stars < n → place l.letters l.start x ≡ z
        → key ≡ sounds l.octave l.generator z x.stars → given key ≡ sounded_in l x
    unfolding sounded_in key_of
    key_sounded key z k at e =
        ap given (e ∙ ap (λ (p : ℤ). sounds l.octave l.generator p x.stars) (sym at))
        ∙ sym (ask_below 16 x.index l.letters _ lettered ∙ ask_below 21 x.stars _ _ (rw (sym n_is) k))

-- ---- the call

module _ (r : IsomorphicLayout) (x : Spelling) where
  pub sounded_refused : (n : ℕ) → refused n ≡ layout_outcome r → refused n ≡ get_sounded_key r x
  unfolding get_sounded_key
  sounded_refused n e = of_refused r _ n e

  pub sounded_given : (l : Layout) → given l ≡ layout_outcome r → (o : Outcome ℕ) → o ≡ sounded_in l x → o ≡ get_sounded_key r x
  unfolding get_sounded_key
  sounded_given l e o q = q ∙ of_given r _ l e

-- ---- which spellings have a key

module _ (r : IsomorphicLayout) (x : Spelling) (key : ℕ) where
  abbrev Sounded : Type 0
  Sounded = (l : Layout) × Accepted r l × IsSpelling l x × (key ≡ key_of l x)

  answered : (l : Layout) → Accepted r l → sounded_in l x ≡ given key → Sounded
  unfolding sounded_in
  answered l a e =
      let rest = asked_rest 16 (ltb x.index l.letters) _ e in (
        l,
        a,
        record {
          letter = ltb-true x.index l.letters (asked_yes 16 (ltb x.index l.letters) _ e);
          stars = ltb-true x.stars _ (asked_yes 21 (ltb x.stars (cycles_in l)) _ rest);
        },
        sym (given_same (asked_rest 21 (ltb x.stars (cycles_in l)) _ rest)),
      )

  has_key : Sounded → get_sounded_key r x ≡ given key
  unfolding get_sounded_key sounded_in
  has_key (l, a, s, e) =
      sym (of_given r _ l (sym a))
      ∙ ask_below 16 x.index _ _ s.letter
      ∙ ask_below 21 x.stars _ _ s.stars
      ∙ ap given (sym e)

  of_a_spelling : get_sounded_key r x ≡ given key → Sounded
  unfolding get_sounded_key
  of_a_spelling e = by (layout_outcome r) refl e
    where
      by : (o : Outcome Layout) → layout_outcome r ≡ o → and_then o (λ (l : Layout). sounded_in l x) ≡ given key → Sounded
      by (given l) a q = answered l a q
      by (refused n) a q = absurd (let z : ◌≡◌ {A = ℕ} 0 1 = cc in omega arith)

pub spellings_have_a_key : SpellingsHaveAKey
spellings_have_a_key r x key = (of_a_spelling r x key, has_key r x key)
