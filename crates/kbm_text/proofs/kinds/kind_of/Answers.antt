-- The tests in turn, a law for each way in which they end.
use Rattle.kbm_text.proofs.Bytes.{compared_with}
use Rattle.kbm_text.proofs.KindLaws.{kind_short, kind_comment, kind_mark, kind_frequency, kind_number_lem, kind_other}
use Rattle.kbm_text.proofs.kinds.kind_of.Goals as goal

pub returns-then-line-lt1 : goal.returns-then-line-lt1
returns-then-line-lt1 c = kind_short _ c.if-line-lt1.true

pub returns-then-line-eq33 : goal.returns-then-line-eq33
returns-then-line-eq33 c = kind_comment _ c.if-line-eq33.true

pub returns-then-eq : goal.returns-then-eq
returns-then-eq c = kind_mark _ c.if-line-eq33.false (compared_with _ _ c.eq.ensures c.as_slice.ensures c.if-eq.true)

pub returns-then-eq-2 : goal.returns-then-eq-2
returns-then-eq-2 c =
    kind_frequency _ c.if-line-eq33.false (compared_with _ _ c.eq.ensures c.as_slice.ensures c.if-eq.false)
    (compared_with _ _ c.eq-2.ensures c.as_slice-2.ensures c.if-eq-2.true)

pub returns-in-Some : goal.returns-in-Some
returns-in-Some c =
    kind_number_lem _ c.if-line-eq33.false (compared_with _ _ c.eq.ensures c.as_slice.ensures c.if-eq.false)
    (compared_with _ _ c.eq-2.ensures c.as_slice-2.ensures c.if-eq-2.false) _ c.in-Some.ensures

pub returns-in-None : goal.returns-in-None
returns-in-None c =
    kind_other _ c.if-line-eq33.false (compared_with _ _ c.eq.ensures c.as_slice.ensures c.if-eq.false)
    (compared_with _ _ c.eq-2.ensures c.as_slice-2.ensures c.if-eq-2.false) c.in-None.ensures
