-- A sentence for each verdict.
use native.Mathlib.Omega.{arith}
use Rattle.text.proofs.Writing.{wrote_as}
use Rattle.layout_explaining.proofs.Wording.{verdict_as}
use Rattle.layout_explaining.specs.Sentences.{verdict_text}
use Rattle.layout_explaining.proofs.sentences.put_verdict.Goals as goal

pub returns-in-OneKey : goal.returns-in-OneKey
returns-in-OneKey c =
    (wrote_as (verdict_as _ _ _ _ c.in-OneKey.is) c.put_one_key.ensures.0, c.put_one_key.ensures.1)

pub returns-in-OneChain : goal.returns-in-OneChain
returns-in-OneChain c =
    (wrote_as (verdict_as _ _ _ _ c.in-OneChain.is) c.put_two_keys.ensures.0, c.put_two_keys.ensures.1)

pub returns-in-TwoChains : goal.returns-in-TwoChains
unfolding verdict_text
returns-in-TwoChains c = (
  wrote_as (verdict_as _ _ _ _ c.in-TwoChains.is) c.put_text.ensures,
  omega (arith, c.put_text.ensures.end),
)
