-- The two layers alternate with the parity of the definition.
use Rattle.layout.proofs.Kept.{made_ready}
use Prim.Native.Nat.{ℕ}
use mathlib.Core.Path.{ap, ◌∙◌}
use Rattle.mos.specs.Patterns.{secondaries}
use Rattle.layout_layers.specs.KeyLayers.{alternating}
use Rattle.layout_layers.proofs.PreparedLayers.{offset_asked, alternate_asked, offset_is}
use Rattle.layout_layers.proofs.keys.alternate_layer.Goals as goal

pub offset_of-offset-requires : goal.offset_of-offset-requires
offset_of-offset-requires c = offset_asked c.args.prepared (made_ready c.args.prepared)

pub alternate-requires : goal.alternate-requires
alternate-requires c =
    let asked = alternate_asked c.args.prepared (made_ready c.args.prepared) in
    (asked.0, asked.1, c.offset_of-offset.ensures.1, c.requires)

pub returns : goal.returns
returns c =
    let found = c.args.prepared.found in
    c.alternate.ensures
    ∙ ap (λ (k : ℕ). alternating found.num_letters (secondaries found.pattern) k c.args.group)
    (offset_is c.args.prepared (made_ready c.args.prepared) _ c.offset_of-offset.ensures.0)
