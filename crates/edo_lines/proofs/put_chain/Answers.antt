-- No line, or one.
use native.Mathlib.Omega.{arith}
use Rattle.text.proofs.Writing.{wrote_none, wrote_as}
use Rattle.edo_lines.proofs.LineLaws.{no_line_lem, line_is, of_known_chain}
use Rattle.edo_lines.proofs.put_chain.Goals as goal

pub returns-in-Err : goal.returns-in-Err
returns-in-Err c = (wrote_as (no_line_lem _ _ _ _ c.in-Err.ensures) (wrote_none _ _), omega arith)

pub put_line-requires : goal.put_line-requires
put_line-requires c = (of_known_chain _ _ _ _ c.in-Ok.ensures c.requires.0, c.requires.1)

pub returns-in-Ok : goal.returns-in-Ok
returns-in-Ok c =
    let w = c.put_line.ensures in (wrote_as (line_is _ _ _ _ c.in-Ok.ensures) w.0, w.1)
