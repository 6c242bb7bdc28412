-- What a line says, by the tests in turn.
use Prim.Native.Nat.{ℕ, ◌<◌}
use native.Mathlib.Omega.{arith}
use mathlib.Core.Bool.{Bool, true, false}
use mathlib.Core.Path.{◌≡◌, refl, sym, ap, ◌∙◌}
use mathlib.Core.List.{List, [], ◌∷◌}
use lib.ListN.{length, get_or}
use borrow.Author.Tests.{eq-eqb, ne_eqb}
use Rattle.text.specs.Decimal.{value}
use Rattle.answer.specs.Choice.{pick}
use Rattle.kbm_text.specs.Kinds.{same_bytes, says_number, mark, frequency, kind_of}
use Rattle.kbm_text.specs.Parts.{NumberRead}
use Rattle.std.specs.Prelude.{Option, Some, None}
use Rattle.kbm_text.specs.declared.kinds.Kind.TheVariants.{Number, Frequency, Mark, Comment, Other}

pub kind_short : (line : List ℕ) → length line < 1 → Other ≡ kind_of line
unfolding kind_of
kind_short [] h = refl
kind_short (b ∷ rest) h = absurd (omega arith)

module _ (line : List ℕ) where
  pub kind_comment : get_or line 0 0 ≡ 33 → Comment ≡ kind_of line
  unfolding kind_of
  kind_comment e = simp (eq-eqb (get_or line 0 0) 33 e)

  module _ (n₁ : get_or line 0 0 ≡ 33 → ⊥) where
    pub kind_mark : same_bytes line mark ≡ true → Mark ≡ kind_of line
    unfolding kind_of
    kind_mark e = simp (ne_eqb (get_or line 0 0) 33 n₁, e)

    module _ (n₂ : same_bytes line mark ≡ false) where
      pub kind_frequency : same_bytes line frequency ≡ true → Frequency ≡ kind_of line
      unfolding kind_of
      kind_frequency e = simp (ne_eqb (get_or line 0 0) 33 n₁, n₂, e)

      module _ (n₃ : same_bytes line frequency ≡ false) where
        number_or_other : kind_of line ≡ pick (says_number line) (Number (value line)) Other
        unfolding kind_of
        number_or_other = simp (ne_eqb (get_or line 0 0) 33 n₁, n₂, n₃)

        by_number : (r : ℕ) → NumberRead line (Some r) → (test : Bool) → says_number line ≡ test → Number r ≡ kind_of line
        by_number r n true e = let same : r ≡ value line = cc (n.yes e) in ap Number same ∙ sym (number_or_other ∙ ap (λ (t : Bool). pick t (Number (value line)) Other) e)
        by_number r n false e = let none : ◌≡◌ {A = Option ℕ} (Some r) None = n.no e in absurd (cc)

        by_other : NumberRead line None → (test : Bool) → says_number line ≡ test → Other ≡ kind_of line
        by_other n true e = let some : None ≡ Some (value line) = n.yes e in absurd (cc)
        by_other n false e = sym (number_or_other ∙ ap (λ (t : Bool). pick t (Number (value line)) Other) e)

        pub kind_number_lem : (r : ℕ) → NumberRead line (Some r) → Number r ≡ kind_of line
        kind_number_lem r n = by_number r n (says_number line) refl

        pub kind_other : NumberRead line None → Other ≡ kind_of line
        kind_other n = by_other n (says_number line) refl
