-- The record with the chain's own start.
use mathlib.Core.Path.{ap, ◌∙◌}
use Rattle.layout.specs.Answers.{create_outcome}
use Rattle.layout.proofs.create_layout.Goals as goal

pub returns : goal.returns
returns c = c.accept.ensures ∙ ap create_outcome c.default_layout.ensures
