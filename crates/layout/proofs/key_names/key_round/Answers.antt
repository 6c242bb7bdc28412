-- The remainder, and the key that has it as its number.
use Rattle.layout.proofs.Kept.{parts_found, made_ready}
use mir.Syntax.{w32}
use mathlib.Core.Path.{◌∙◌}
use Rattle.math.proofs.Answers.{remainder_read}
use Rattle.layout.proofs.Readiness.{found_round}
use Rattle.layout.proofs.key_names.key_round.Goals as goal

pub rem_u16-index-requires : goal.rem_u16-index-requires
rem_u16-index-requires c = (parts_found c.args.prepared.found).positive

pub key_at-requires : goal.key_at-requires
key_at-requires c =
    let number = c.args.number in
    found_round _ (made_ready c.args.prepared) number _ (remainder_read w32 number c.ranges.number _ _ c.rem_u16-index.ensures)

pub returns : goal.returns
returns c =
    let number = c.args.number in (
      c.key_at.ensures.0,
      c.key_at.ensures.1 ∙ remainder_read w32 number c.ranges.number _ _ c.rem_u16-index.ensures,
    )
