use Rattle.layout_explaining.proofs.Holding.{
  verdicts_hold,
  explanations_hold,
  all_spellings_are_explained,
  texts_tell_the_explanation,
  sentences_hold,
}
use Rattle.claims.proofs.beyond.explanations.Goals as goal

pub returns : goal.returns
returns c = (verdicts_hold, explanations_hold, all_spellings_are_explained, texts_tell_the_explanation, sentences_hold)
