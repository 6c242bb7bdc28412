-- The questions of the reader in turn, by what the code tests.
use Prim.Native.Nat.{ℕ, ◌+◌, ◌-◌, ◌<◌, ◌≤◌}
use native.Mathlib.Omega.{arith}
use mathlib.Core.Bool.{Bool, true, false, not, ◌&&◌, and-false, true≢false}
use mathlib.Core.Path.{◌≡◌, refl, sym, ap, ◌∙◌}
use mathlib.Core.List.{List, [], ◌∷◌}
use lib.ListN.{length, get_or}
use lib.Dec.{eqb}
use borrow.Author.Tests.{eq-eqb, ne_eqb}
use Rattle.answer.specs.Outcome.{Outcome, given, refused, ask, and_then}
use Rattle.answer.specs.Lent.{held_in}
use Rattle.answer.proofs.Lent.{held, not_held}
use Rattle.kbm_text.specs.Lines.{lines, is_closed}
use Rattle.kbm_text.specs.Reading.{said, all_fit, all_agree, keys_from, read_outcome, read_in}
use Rattle.kbm_text.specs.Parts.{Closed, Scanned}
use Rattle.kbm_text.specs.declared.scan.Scan.{Scan}
use Rattle.kbm_text.proofs.Bytes.{in_list}

-- a flag, by the test of its contrary
pub set : (flag : Bool) → not flag ≡ false → flag ≡ true
set true e = refl
set false e = absurd (true≢false e)

pub unset : (flag : Bool) → not flag ≡ true → flag ≡ false
unset true e = absurd (true≢false (sym e))
unset false e = refl

none_said : (text : List ℕ) → length text < 1 → length (said (lines text)) ≡ 0
unfolding lines said
none_said [] h = refl
none_said (b ∷ rest) h = absurd (omega arith)

pub closed : (text : List ℕ) → 1 ≤ length text → get_or text (length text - 1) 0 ≡ 10 → Closed text
closed text h e = record { some = h; feed = e }

module _ (octave : ℕ) (text : List ℕ) (room : ℕ) where
  abbrev asked : Bool → Bool → Bool → Bool → Outcome (List ℕ)
  asked closed count fit agree =
      and_then (ask 19 (closed && count && fit) (ask 20 agree (given (keys_from 0 (said (lines text)))))) (held_in room)

  reads : read_in octave text room
      ≡ asked (is_closed text) (eqb (length (said (lines text))) (7 + octave)) (all_fit 0 (said (lines text))) (all_agree octave 0 (said (lines text)))
  unfolding read_outcome
  reads = refl

  open_refused : is_closed text ≡ false → read_in octave text room ≡ refused 19
  open_refused e = reads ∙ simp e

  pub no_text_lem : length text < 1 → read_in octave text room ≡ refused 19
  no_text_lem h = reads ∙ simp (ne_eqb (length (said (lines text))) (7 + octave) (λ e. omega (arith, none_said text h)), and-false)

  pub left_over : 1 ≤ length text → (get_or text (length text - 1) 0 ≡ 10 → ⊥) → read_in octave text room ≡ refused 19
  unfolding is_closed
  left_over l h =
      open_refused (ap (λ (b : ℕ). eqb b 10) (in_list text (length text - 1) 10 0 (omega arith)) ∙ ne_eqb (get_or text (length text - 1) 0) 10 h)

  module _ (c : Closed text) (s : Scan) (g : Scanned octave text s) where
    is_closed_lem : is_closed text ≡ true
    unfolding is_closed
    is_closed_lem =
        ap (λ (b : ℕ). eqb b 10) (in_list text (length text - 1) 10 0 (omega (arith, c.some)))
        ∙ eq-eqb (get_or text (length text - 1) 0) 10 c.feed

    pub other_count : (s.line ≡ 7 + octave → ⊥) → read_in octave text room ≡ refused 19
    other_count h = reads ∙ simp (is_closed_lem, ne_eqb (length (said (lines text))) (7 + octave) (λ e. h (sym g.count ∙ e)))

    module _ (e : s.line ≡ 7 + octave) where
      counted : eqb (length (said (lines text))) (7 + octave) ≡ true
      counted = eq-eqb (length (said (lines text))) (7 + octave) (g.count ∙ e)

      pub unfit : s.fits ≡ false → read_in octave text room ≡ refused 19
      unfit f = reads ∙ simp (is_closed_lem, counted, g.fit ∙ f)

      module _ (f : s.fits ≡ true) where
        pub differs : s.agrees ≡ false → read_in octave text room ≡ refused 20
        differs a = reads ∙ simp (is_closed_lem, counted, g.fit ∙ f, g.agree ∙ a)

        module _ (a : s.agrees ≡ true) where
          held_in_lem : read_in octave text room ≡ held_in room (keys_from 0 (said (lines text)))
          held_in_lem = reads ∙ simp (is_closed_lem, counted, g.fit ∙ f, g.agree ∙ a)

          pub no_room : room < s.keys → read_in octave text room ≡ refused 10
          no_room h = held_in_lem ∙ not_held room (keys_from 0 (said (lines text))) (omega (arith, g.mapped))

          pub enough : s.keys ≤ room → read_in octave text room ≡ given (keys_from 0 (said (lines text)))
          enough h = held_in_lem ∙ held room (keys_from 0 (said (lines text))) (omega (arith, g.mapped))
