-- The key's degree and cycle, then their two spellings.
use Prim.Native.Nat.{◌<◌}
use mathlib.Core.Path.{ap, ◌∙◌}
use native.Mathlib.Nat.{mod-lt}
use native.Mathlib.Omega.{arith}
use Rattle.pergen.specs.declared.Generation.{Generation}
use Rattle.pergen.specs.Spelling.{accidentals_of}
use Rattle.pergen.specs.Parts.{generation_from}
use Rattle.layout.proofs.key_names.spelled_at.Goals as goal

pub accidentals-requires : goal.accidentals-requires
unfolding generation_from
accidentals-requires c =
    let some : 0 < c.args.solved.reduced_period = omega (arith, c.requires.1.below) in
    (c.requires.0, rw c.generation-generation.ensures (mod-lt _ some))

pub returns : goal.returns
returns c =
    let args = c.args in
    c.accidentals.ensures
    ∙ ap (λ (g : Generation). accidentals_of args.solved.reduced_period args.num_letters args.start g.degree g.cycle) c.generation-generation.ensures
