-- The whole line, from the three numbers that were read: one law for each way in which it ends.
use Prim.Native.Nat.{ℕ, ◌+◌, ◌≤◌, ◌<◌}
use native.Mathlib.Omega.{arith}
use mathlib.Core.Bool.{Bool, true, false, ◌&&◌, and-false}
use mathlib.Core.Path.{◌≡◌, refl, sym, ap, ◌∙◌, subst}
use mathlib.Core.List.{List}
use lib.Dec.{leb}
use borrow.Author.Tests.{le-leb, lt-leb, leb-true, leb-false}
use Rattle.answer.specs.Outcome.{given, refused, ask}
use Rattle.line.specs.Lines.{is_field, field_at, space, line_feed, octave_at, tritave_at, is_line, line_outcome}
use Rattle.text.specs.Decimal.{value_at, end_at}
use Rattle.line.specs.declared.Line.{Line}
use Rattle.std.specs.Prelude.{Option, Some, None}
use Rattle.text.specs.Decimal.{numeral}
use Rattle.text.proofs.Numbers.{Picked, picked, picked_none}

-- ---- one reading, back to its tests

abbrev pub Is : List ℕ → ℕ → ℕ → ℕ → ℕ → Type 0
Is line at behind number next = Picked (is_field line at behind) (value_at line at) (end_at line at + 1) number next

pub field_is : (line : List ℕ) (at behind number next : ℕ) → numeral number next ≡ field_at line at behind → Is line at behind number next
unfolding field_at
field_is line at behind number next e = picked (is_field line at behind) (value_at line at) (end_at line at + 1) number next e

pub nothing_is : (line : List ℕ) (at behind : ℕ) → None ≡ field_at line at behind → is_field line at behind ≡ false
unfolding field_at
nothing_is line at behind e = picked_none (is_field line at behind) (value_at line at) (end_at line at + 1) e

-- ---- four tests in a row

no_1 : (a b c d : Bool) → a ≡ false → (a && b && c && d) ≡ false
no_1 a b c d e = simp e

no_2 : (a b c d : Bool) → b ≡ false → (a && b && c && d) ≡ false
no_2 a b c d e = simp (e, and-false)

no_3 : (a b c d : Bool) → c ≡ false → (a && b && c && d) ≡ false
no_3 a b c d e = simp (e, and-false)

no_4 : (a b c d : Bool) → d ≡ false → (a && b && c && d) ≡ false
no_4 a b c d e = simp (e, and-false)

all_4 : (a b c d : Bool) → a ≡ true → b ≡ true → c ≡ true → d ≡ true → (a && b && c && d) ≡ true
all_4 a b c d e f g h = simp (e, f, g, h)

-- ---- the line

abbrev line_of : List ℕ → Line
line_of line = record { genchain = value_at line 0; octave = value_at line (octave_at line); tritave = value_at line (tritave_at line) }

module _ (line : List ℕ) where
  tests : is_line line ≡ (is_field line 0 space && is_field line (octave_at line) space && is_field line (tritave_at line) line_feed && leb (value_at line (octave_at line)) 4096)
  unfolding is_line
  tests = refl

  octave_at_lem : octave_at line ≡ end_at line 0 + 1
  unfolding octave_at
  octave_at_lem = refl

  tritave_at_lem : tritave_at line ≡ end_at line (octave_at line) + 1
  unfolding tritave_at
  tritave_at_lem = refl

  refuses : is_line line ≡ false → refused 14 ≡ line_outcome line
  unfolding line_outcome
  refuses e = sym (ap (λ (test : Bool). ask 14 test (given (line_of line))) e)

  pub gives : is_line line ≡ true → line_outcome line ≡ given (line_of line)
  unfolding line_outcome
  gives e = ap (λ (test : Bool). ask 14 test (given (line_of line))) e

  pub no_first : None ≡ field_at line 0 space → refused 14 ≡ line_outcome line
  no_first e = refuses (tests ∙ no_1 _ _ _ _ (nothing_is line 0 space e))

  module _ (a second : ℕ) (first : numeral a second ≡ field_at line 0 space) where
    second_is : second ≡ octave_at line
    second_is = (field_is line 0 space a second first).is_next ∙ sym octave_at_lem

    pub no_second : None ≡ field_at line second space → refused 14 ≡ line_outcome line
    no_second e =
        refuses
        (tests
        ∙ no_2 (is_field line 0 space) _ _ _
        (ap (λ (at : ℕ). is_field line at space) (sym second_is) ∙ nothing_is line second space e))

    module _ (b third : ℕ) (next : numeral b third ≡ field_at line second space) where
      octave_is : Is line (octave_at line) space b third
      octave_is = subst (λ (at : ℕ). Is line at space b third) second_is (field_is line second space b third next)

      third_is : third ≡ tritave_at line
      third_is = octave_is.is_next ∙ sym tritave_at_lem

      pub no_third : None ≡ field_at line third line_feed → refused 14 ≡ line_outcome line
      no_third e =
          refuses
          (tests
          ∙ no_3 (is_field line 0 space) (is_field line (octave_at line) space) _ _
          (ap (λ (at : ℕ). is_field line at line_feed) (sym third_is) ∙ nothing_is line third line_feed e))

      module _ (c end : ℕ) (last : numeral c end ≡ field_at line third line_feed) where
        tritave_is : Is line (tritave_at line) line_feed c end
        tritave_is = subst (λ (at : ℕ). Is line at line_feed c end) third_is (field_is line third line_feed c end last)

        pub octave_too_large : 4096 < b → refused 14 ≡ line_outcome line
        octave_too_large h =
            refuses
            (tests
            ∙ no_4 (is_field line 0 space) (is_field line (octave_at line) space) (is_field line (tritave_at line) line_feed) _
            (lt-leb (value_at line (octave_at line)) 4096 (omega (arith, octave_is.is_value))))

        pub line_given : b ≤ 4096 → given (record { genchain = a; octave = b; tritave = c }) ≡ line_outcome line
        line_given h =
            ap (λ (n : ℕ). given (record { genchain = n; octave = b; tritave = c })) (field_is line 0 space a second first).is_value
            ∙ ap (λ (n : ℕ). given (record { genchain = value_at line 0; octave = n; tritave = c })) octave_is.is_value
            ∙ ap (λ (n : ℕ). given (record { genchain = value_at line 0; octave = value_at line (octave_at line); tritave = n })) tritave_is.is_value
            ∙ sym
            (gives
            (tests
            ∙ all_4 _ _ _ _ (field_is line 0 space a second first).yes octave_is.yes tritave_is.yes
            (le-leb (value_at line (octave_at line)) 4096 (omega (arith, octave_is.is_value)))))

-- ---- two lines on which each number reads the same have the same outcome

module _ (line other : List ℕ) (first : field_at line 0 space ≡ field_at other 0 space)
    (second : (a at : ℕ) → numeral a at ≡ field_at line 0 space → field_at line at space ≡ field_at other at space)
    (third : (a b at next : ℕ) → numeral a at ≡ field_at line 0 space → numeral b next ≡ field_at line at space → field_at line next line_feed ≡ field_at other next line_feed)
  where
    small_octave : (a at b next c end : ℕ) → numeral a at ≡ field_at line 0 space → numeral b next ≡ field_at line at space → numeral c end ≡ field_at line next line_feed
        → (test : Bool) → leb b 4096 ≡ test → line_outcome line ≡ line_outcome other
    small_octave a at b next c end e f g true t =
        let h = leb-true b 4096 t in
        sym (line_given line a at e b next f c end g h)
        ∙ line_given other a at (e ∙ first) b next (f ∙ second a at e) c end (g ∙ third a b at next e f) h
    small_octave a at b next c end e f g false t =
        let h = leb-false b 4096 t in
        sym (octave_too_large line a at e b next f c end g h)
        ∙ octave_too_large other a at (e ∙ first) b next (f ∙ second a at e) c end (g ∙ third a b at next e f) h

    by_third : (a at b next : ℕ) → numeral a at ≡ field_at line 0 space → numeral b next ≡ field_at line at space
        → (r : Option (ℕ × ℕ)) → r ≡ field_at line next line_feed → line_outcome line ≡ line_outcome other
    by_third a at b next e f None g =
        sym (no_third line a at e b next f g)
        ∙ no_third other a at (e ∙ first) b next (f ∙ second a at e) (g ∙ third a b at next e f)
    by_third a at b next e f (Some (c, end)) g = small_octave a at b next c end e f g (leb b 4096) refl

    by_second : (a at : ℕ) → numeral a at ≡ field_at line 0 space → (r : Option (ℕ × ℕ)) → r ≡ field_at line at space → line_outcome line ≡ line_outcome other
    by_second a at e None f = sym (no_second line a at e f) ∙ no_second other a at (e ∙ first) (f ∙ second a at e)
    by_second a at e (Some (b, next)) f = by_third a at b next e f (field_at line next line_feed) refl

    by_first : (r : Option (ℕ × ℕ)) → r ≡ field_at line 0 space → line_outcome line ≡ line_outcome other
    by_first None e = sym (no_first line e) ∙ no_first other (e ∙ first)
    by_first (Some (a, at)) e = by_second a at e (field_at line at space) refl

    pub same_outcome : line_outcome line ≡ line_outcome other
    same_outcome = by_first (field_at line 0 space) refl
