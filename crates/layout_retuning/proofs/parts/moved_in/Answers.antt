-- Question 16, question 21 of both tunings, then the distance.
use Rattle.layout_retuning.proofs.Calls.{no_letter, many_stars_first, many_stars_second, move_given}
use Rattle.layout_retuning.proofs.parts.moved_in.Goals as goal
use Rattle.layout_retuning.proofs.parts.moved_in.Goals.{then-gcd_u16-stars-via-then-gcd_u16-stars, then-gcd_u16-stars-via-else-gcd_u16-stars+then-gcd_u16-stars-2}

pub returns-then-tunings-spelling : goal.returns-then-tunings-spelling
returns-then-tunings-spelling c = no_letter _ _ c.if-tunings-spelling.true

pub returns-then-gcd_u16-stars : goal.returns-then-gcd_u16-stars
returns-then-gcd_u16-stars c =
    elim c.then-gcd_u16-stars.branch [
      | then-gcd_u16-stars-via-then-gcd_u16-stars w ↦
          many_stars_first _ _ c.args.tunings.positive c.if-tunings-spelling.false _ c.gcd_u16.ensures w.if-gcd_u16-stars.true
      | then-gcd_u16-stars-via-else-gcd_u16-stars+then-gcd_u16-stars-2 w ↦
          many_stars_second _ _ c.args.tunings.positive c.if-tunings-spelling.false _ w.gcd_u16-else-gcd_u16-stars.ensures w.if-gcd_u16-stars-2.true
    ]

pub returns : goal.returns
returns c =
    move_given _ _ c.args.tunings.positive c.if-tunings-spelling.false _ _ c.gcd_u16.ensures c.gcd_u16-else-gcd_u16-stars.ensures
    c.if-gcd_u16-stars.false c.if-gcd_u16-stars-2.false _ c.steps.ensures
