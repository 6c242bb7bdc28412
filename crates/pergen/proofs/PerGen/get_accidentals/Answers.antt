-- Questions 2, 5 and 6, then the two spellings of the degree and cycle of the key round the period.
use mir.Syntax.{w32}
use mathlib.Core.Path.{sym, ◌∙◌}
use Rattle.answer.proofs.Passing.{refusal_asked, refusal_passed}
use Rattle.pergen.proofs.Calls.{no_accidentals, accidentals_refused, accidentals_given, degree_small, accidentals_are}
use Rattle.pergen.proofs.CarriedWalk.{round_found}
use Rattle.math.proofs.Answers.{remainder_read}
use Rattle.pergen.proofs.PerGen.get_accidentals.Goals as goal

pub returns-in_err-asked : goal.returns-in_err-asked
returns-in_err-asked c =
    refusal_asked _ _ _ c.from_residual.ensures c.in_err-asked.ensures.0 ∙ no_accidentals _ c.in_err-asked.ensures.1 _ _

pub returns-in_err-asked-2 : goal.returns-in_err-asked-2
returns-in_err-asked-2 c =
    refusal_passed _ _ c.from_residual-in_err-asked-2.ensures ∙ accidentals_refused _ _ c.in_ok-asked.ensures _ _ c.in_err-asked-2.ensures.answered

pub key_at-found-requires : goal.key_at-found-requires
key_at-found-requires c =
    let key = c.args.key in
    round_found _ _ c.in_ok-asked.ensures _ c.solve-solved.ensures key _
    (remainder_read w32 key c.ranges.key _ _ c.rem_u16-in_period.ensures)

pub generation-generation-requires : goal.generation-generation-requires
generation-generation-requires c = c.key_at-found.ensures.0

pub accidentals-requires : goal.accidentals-requires
accidentals-requires c = (
  c.in_ok-asked-2.ensures.below,
  degree_small _ _ _ c.solve-solved.ensures _ _ c.in_ok-asked.ensures
      c.generation-generation.ensures,
)

pub returns : goal.returns
returns c =
    let key = c.args.key in
    accidentals_given _ _ c.in_ok-asked.ensures c.in_ok-asked-2.ensures.below key _
    (accidentals_are _ _ _ c.solve-solved.ensures key _
    (remainder_read w32 key c.ranges.key _ _ c.rem_u16-in_period.ensures)
    _ _ _ _ (rw (sym c.key_at-found.ensures.1) c.generation-generation.ensures) c.accidentals.ensures)
