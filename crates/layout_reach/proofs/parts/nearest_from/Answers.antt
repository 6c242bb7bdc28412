-- The letter's keys begin at the one without stars, and there are as many as cycles.
use mir.Syntax.{w32}
use Rattle.math.proofs.Answers.{remainder_read}
use Rattle.layout.proofs.Kept.{parts_found}
use Rattle.layout_reach.proofs.Distances.{round_below}
use Rattle.layout_reach.proofs.Nearest.{block, nearest_from}
use Rattle.layout_reach.proofs.parts.nearest_from.Goals as goal

pub nearest_in-requires : goal.nearest_in-requires
nearest_in-requires c =
    let round = remainder_read w32 c.args.key c.ranges.key _ _ c.rem_u16.ensures in (
      block _ _ c.args.letter c.args.found.start _ _ c.args.key _ (parts_found c.args.found).positive c.sounded-base.ensures c.gcd_u16.ensures round,
      round_below _ (parts_found c.args.found).positive c.args.key _ round,
    )

pub returns : goal.returns
returns c =
    let round = remainder_read w32 c.args.key c.ranges.key _ _ c.rem_u16.ensures in
    nearest_from _ _ c.args.letter c.args.found.start _ _ c.args.key _ (parts_found c.args.found).positive c.sounded-base.ensures c.gcd_u16.ensures round
    _ c.nearest_in.ensures

pub sounded-base-requires : goal.sounded-base-requires
sounded-base-requires c = (parts_found c.args.found).positive

pub rem_u16-requires : goal.rem_u16-requires
rem_u16-requires c = (parts_found c.args.found).positive
