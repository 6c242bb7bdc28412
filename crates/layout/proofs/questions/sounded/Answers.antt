-- Questions 16 and 21, then the key at the difference of the sides.
use Rattle.layout.proofs.Kept.{found_laid, parts_found}
use Rattle.layout.proofs.SoundedKeys.{no_letter, many_stars, key_sounded}
use Rattle.layout.proofs.questions.sounded.Goals as goal

pub returns-then-found-spelling : goal.returns-then-found-spelling
returns-then-found-spelling c = no_letter _ _ c.if-found-spelling.true

pub returns-then-gcd_u16-stars : goal.returns-then-gcd_u16-stars
returns-then-gcd_u16-stars c = many_stars _ _ (found_laid c.args.found) c.if-found-spelling.false _ c.gcd_u16.ensures.is c.if-gcd_u16-stars.true

pub sounded-requires : goal.sounded-requires
sounded-requires c = (parts_found c.args.found).positive

pub returns : goal.returns
returns c =
    key_sounded _ _ (found_laid c.args.found) c.if-found-spelling.false _ c.gcd_u16.ensures.is _ _ c.if-gcd_u16-stars.false
    c.sides_of-sides.ensures.difference
    c.sounded.ensures
