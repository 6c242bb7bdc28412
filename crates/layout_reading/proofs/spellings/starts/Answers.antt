-- One byte is compared, or two.
use Rattle.layout_reading.proofs.FrontLetters.{starts_one_short, starts_one, starts_two_short, starts_two_not, starts_two}
use Rattle.layout_reading.proofs.spellings.starts.Goals as goal

pub returns-then-text-lt1 : goal.returns-then-text-lt1
returns-then-text-lt1 c = starts_one_short _ _ c.if-letter-lt128.true c.if-text-lt1.true

pub returns-then-letter-lt128 : goal.returns-then-letter-lt128
returns-then-letter-lt128 c = starts_one _ _ c.if-letter-lt128.true c.if-text-lt1.false _ c.from.ensures

pub returns-then-text-lt2 : goal.returns-then-text-lt2
returns-then-text-lt2 c = starts_two_short _ _ c.if-letter-lt128.false c.if-text-lt2.true

pub returns-then-from-letter : goal.returns-then-from-letter
returns-then-from-letter c = starts_two_not _ _ c.if-letter-lt128.false c.if-text-lt2.false _ c.from-2.ensures c.if-from-letter.true

pub returns : goal.returns
returns c = starts_two _ _ c.if-letter-lt128.false c.if-text-lt2.false _ c.from-2.ensures c.if-from-letter.false _ c.from-3.ensures
