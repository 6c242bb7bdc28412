-- The sides of both places, and what follows from them.
use Rattle.layout.specs.Parts.{layout_of}
use Rattle.layout.proofs.Kept.{parts_found}
use Rattle.layout_explaining.proofs.Numbers.{cycles_some, round_some, explanation_is}
use Rattle.layout_explaining.proofs.counting.explanation.Goals as goal

pub nonzero_div-reduced_period : goal.nonzero_div-reduced_period
nonzero_div-reduced_period c = cycles_some (layout_of c.args.reader.found) (parts_found c.args.reader.found).positive _ c.args.reader.cycles_are

pub verdict-requires : goal.verdict-requires
verdict-requires c =
    round_some (layout_of c.args.reader.found) (parts_found c.args.reader.found).positive _ c.args.reader.cycles_are

pub returns : goal.returns
returns c =
    explanation_is _ _ _ _ _ c.sides_in-first.ensures c.sides_in-second.ensures _ c.args.reader.cycles_are _ _ _ _ c.standing.ensures c.standing-2.ensures c.between-apart.ensures c.verdict.ensures
