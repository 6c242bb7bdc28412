-- Both spellings between parentheses.
use native.Mathlib.Omega.{arith}
use Rattle.text.proofs.Writing.{then}
use Rattle.notes.specs.Parts.{bracketed_text}
use Rattle.notes.proofs.Lengths.{length_bracketed}
use Rattle.notes.proofs.texts.put_bracketed.Goals as goal

pub put_parenthesis-next-requires : goal.put_parenthesis-next-requires
put_parenthesis-next-requires c = omega (arith, length_bracketed c.args.plan)

pub put_two-after-requires : goal.put_two-after-requires
put_two-after-requires c =
    (c.requires.0, omega (arith, length_bracketed c.args.plan))

pub put_parenthesis-requires : goal.put_parenthesis-requires
put_parenthesis-requires c =
    omega (arith, length_bracketed c.args.plan)

pub returns : goal.returns
unfolding bracketed_text
returns c =
    then
    (then
    c.put_parenthesis-next.ensures
    c.put_two-after.ensures)
    c.put_parenthesis.ensures
