-- Two comparisons with the infinities, and one of the remainder with 0.
use mathlib.Core.Path.{ap, sym, ◌∙◌}
use lib.Ieee.{Float, binary64, of_bits, neg, div, add, lt}
use Rattle.mos_fractional.specs.Fractional.{nought, one}
use Rattle.mos_fractional.proofs.Descent.{finite, no_number_high, no_number_low, raised, kept, genesis_made}
use Rattle.mos_fractional.proofs.FractionalMos.new_genesis.Goals as goal

pub remainder_by_one-rest-requires : goal.remainder_by_one-rest-requires
unfolding of_bits neg div
remainder_by_one-rest-requires c = finite _ c.if-generator-infinity.true c.if-infinity-generator.true

pub returns-then-rest : goal.returns-then-rest
unfolding of_bits neg div
returns-then-rest c =
    let r = c.remainder_by_one-rest.ensures in
    genesis_made _ _ (finite _ c.if-generator-infinity.true c.if-infinity-generator.true)
    (raised c.args.generator (ap (λ (x : Float). lt x nought) (sym r) ∙ c.if-rest.true) ∙ ap (λ (x : Float). add binary64 x one) (sym r))

pub returns-then-infinity-generator : goal.returns-then-infinity-generator
unfolding of_bits neg div
returns-then-infinity-generator c =
    let r = c.remainder_by_one-rest.ensures in
    genesis_made _ _ (finite _ c.if-generator-infinity.true c.if-infinity-generator.true)
    (kept c.args.generator (ap (λ (x : Float). lt x nought) (sym r) ∙ c.if-rest.false) ∙ sym r)

pub returns-else-infinity-generator : goal.returns-else-infinity-generator
unfolding of_bits neg div
returns-else-infinity-generator c = no_number_low _ c.if-infinity-generator.false

pub returns-else-generator-infinity : goal.returns-else-generator-infinity
unfolding of_bits neg div
returns-else-generator-infinity c = no_number_high _ c.if-generator-infinity.false
