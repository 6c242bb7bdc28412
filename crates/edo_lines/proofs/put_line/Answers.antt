-- The numbers, then the names.
use native.Mathlib.Omega.{arith}
use Rattle.text.proofs.Writing.{then, wrote_as}
use Rattle.edo_lines.specs.Lines.{line_with}
use Rattle.edo_lines.proofs.LineLaws.{line_of}
use Rattle.edo_lines.proofs.put_line.Goals as goal

pub returns : goal.returns
unfolding line_with
returns c = (
  wrote_as (line_of c.args.found c.requires.0 _ c.place_of-scale.ensures) (then c.put_numbers-next.ensures.0 c.put_names.ensures.0),
  omega (arith, c.put_numbers-next.ensures.1, c.put_names.ensures.1),
)
