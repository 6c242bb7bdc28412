-- The questions in turn, a law for each way in which they end.
use native.Mathlib.Omega.{arith}
use Prim.Native.Nat.{ℕ}
use mathlib.Core.Path.{refl, ap, ◌∙◌}
use native.Mathlib.Nat.{zero-add}
use Rattle.answer.specs.Outcome.{given}
use Rattle.answer.proofs.Lent.{filled_refused}
use Rattle.text.proofs.Writing.{filled_given}
use Rattle.kbm_text.proofs.Reading.{no_text_lem, left_over, closed, other_count, unfit, differs, no_room, enough, set, unset}
use Rattle.kbm_text.proofs.read_keys.Goals as goal

pub returns-then-len-lt1 : goal.returns-then-len-lt1
returns-then-len-lt1 c = filled_refused 19 _ (no_text_lem _ _ _ c.if-len-lt1.true) refl

pub returns-then-text-len-ne10 : goal.returns-then-text-len-ne10
returns-then-text-len-ne10 c = filled_refused 19 _ (left_over _ _ _ c.if-len-lt1.false c.if-text-len-ne10.true) refl

pub returns-then-s-octave : goal.returns-then-s-octave
returns-then-s-octave c =
    filled_refused 19 _ (other_count _ _ _ (closed _ c.if-len-lt1.false c.if-text-len-ne10.false) _ c.scan_all-s.ensures c.if-s-octave.true) refl

pub returns-then-not-s : goal.returns-then-not-s
returns-then-not-s c =
    filled_refused 19 _ (unfit _ _ _ (closed _ c.if-len-lt1.false c.if-text-len-ne10.false) _ c.scan_all-s.ensures c.if-s-octave.false (unset _ c.if-not-s.true)) refl

pub returns-then-not-s-2 : goal.returns-then-not-s-2
returns-then-not-s-2 c =
    filled_refused 20 _ (differs _ _ _ (closed _ c.if-len-lt1.false c.if-text-len-ne10.false) _ c.scan_all-s.ensures c.if-s-octave.false (set _ c.if-not-s.false) (unset _ c.if-not-s-2.true)) refl

pub returns-then-out-s : goal.returns-then-out-s
returns-then-out-s c =
    filled_refused 10 _ (no_room _ _ _ (closed _ c.if-len-lt1.false c.if-text-len-ne10.false) _ c.scan_all-s.ensures c.if-s-octave.false (set _ c.if-not-s.false) (set _ c.if-not-s-2.false) c.if-out-s.true) refl

pub returns : goal.returns
returns c =
    filled_given
    (enough _ _ _ (closed _ c.if-len-lt1.false c.if-text-len-ne10.false) _ c.scan_all-s.ensures c.if-s-octave.false (set _ c.if-not-s.false) (set _ c.if-not-s-2.false) c.if-out-s.false)
    (ap (λ (n : ℕ). given n) (c.put_keys.ensures.end ∙ zero-add _))
    (omega (arith, c.scan_all-s.ensures.mapped, c.if-out-s.false))
    c.put_keys.ensures
