-- Question 2, then degree and cycle of the key round the period, by what `solve` found.
use mir.Syntax.{w32}
use mathlib.Core.Path.{sym, ◌∙◌}
use Rattle.answer.proofs.Passing.{refusal_asked}
use Rattle.pergen.proofs.Calls.{no_generation, generation_given, generation_is}
use Rattle.pergen.proofs.CarriedWalk.{round_found}
use Rattle.math.proofs.Answers.{remainder_read}
use Rattle.pergen.proofs.PerGen.get_generation.Goals as goal

pub returns-in_err-asked : goal.returns-in_err-asked
returns-in_err-asked c =
    refusal_asked _ _ _ c.from_residual.ensures c.in_err-asked.ensures.0 ∙ no_generation _ c.in_err-asked.ensures.1 _

pub key_at-found-requires : goal.key_at-found-requires
key_at-found-requires c =
    let key = c.args.key in
    round_found _ _ c.in_ok-asked.ensures _ c.solve-solved.ensures key _
    (remainder_read w32 key c.ranges.key _ _ c.rem_u16-index.ensures)

pub generation-requires : goal.generation-requires
generation-requires c = c.key_at-found.ensures.0

pub returns : goal.returns
returns c =
    let key = c.args.key in
    generation_given _ c.in_ok-asked.ensures key _
    (generation_is _ _ _ c.solve-solved.ensures key _
    (remainder_read w32 key c.ranges.key _ _ c.rem_u16-index.ensures)
    _ (rw (sym c.key_at-found.ensures.1) c.generation.ensures))
