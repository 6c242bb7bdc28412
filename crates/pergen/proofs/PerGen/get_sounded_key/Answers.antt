-- Questions 2, 5 and 6, then the key at the difference of the sides.
use mathlib.Core.Path.{sym, ap, ◌∙◌}
use lib.IntN.{ℤ}
use Rattle.answer.proofs.Passing.{refusal_asked, refusal_passed}
use Rattle.pergen.specs.Spelling.{sounds, sounded_key}
use Rattle.pergen.proofs.Calls.{no_key, key_refused, key_given}
use Rattle.pergen.proofs.PerGen.get_sounded_key.Goals as goal

pub returns-in_err-asked : goal.returns-in_err-asked
returns-in_err-asked c =
    refusal_asked _ _ _ c.from_residual.ensures c.in_err-asked.ensures.0 ∙ no_key _ c.in_err-asked.ensures.1 _ _

pub returns-in_err-asked-2 : goal.returns-in_err-asked-2
returns-in_err-asked-2 c =
    refusal_passed _ _ c.from_residual-in_err-asked-2.ensures ∙ key_refused _ _ c.in_ok-asked.ensures _ _ c.in_err-asked-2.ensures.answered

pub returns : goal.returns
unfolding sounded_key
returns c =
    key_given _ _ c.in_ok-asked.ensures c.in_ok-asked-2.ensures.below _ _
    (c.sounded.ensures
    ∙ ap (λ (z : ℤ). sounds c.args.self.period c.args.self.generator z c.args.spelling.stars)
    (sym c.sides_of-sides.ensures.difference))
