-- The key of a spelling that was read, by what the code computes.
use Prim.Native.Nat.{ℕ}
use mathlib.Core.Path.{◌≡◌, sym, ap, ◌∙◌}
use mathlib.Core.Bool.{Bool}
use lib.IntN.{ℤ}
use borrow.Author.Tests.{eq-eqb, ne_eqb}
use Rattle.answer.specs.Outcome.{given, refused, ask}
use Rattle.pergen.specs.declared.Spelling.{Spelling}
use Rattle.pergen.specs.Spelling.{place, sounds}
use Rattle.layout.specs.Layouts.{Layout}
use Rattle.layout.specs.Names.{key_of}
use Rattle.layout_reading.specs.Answers.{with_stars, key_of_both}

pub key_is : (l : Layout) (x : Spelling) (key : ℕ) (z : ℤ) → place l.letters l.start x ≡ z
    → key ≡ sounds l.octave l.generator z x.stars → key ≡ key_of l x
unfolding key_of
key_is l x key z at e = e ∙ ap (λ (p : ℤ). sounds l.octave l.generator p x.stars) (sym at)

module _ (l : Layout) (stars : ℕ) (x y : Spelling) (one other : ℕ)
    (first : one ≡ key_of l (with_stars stars x)) (second : other ≡ key_of l (with_stars stars y)) where
  pub same_key : one ≡ other → given one ≡ key_of_both l stars x y
  unfolding key_of_both
  same_key e =
      sym (ap (λ (b : Bool). ask 24 b (given (key_of l (with_stars stars x)))) (eq-eqb _ _ (sym first ∙ e ∙ second)) ∙ ap given (sym first))

  pub two_keys : (one ≡ other → ⊥) → refused 24 ≡ key_of_both l stars x y
  unfolding key_of_both
  two_keys n =
      sym (ap (λ (b : Bool). ask 24 b (given (key_of l (with_stars stars x)))) (ne_eqb _ _ (λ e. n (first ∙ e ∙ sym second))))
