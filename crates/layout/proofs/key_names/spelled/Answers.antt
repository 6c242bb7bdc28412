-- Of the key with that number.
use Prim.Native.Nat.{ℕ}
use mathlib.Core.Path.{ap, ◌∙◌}
use Rattle.layout.specs.Parts.{spelled_by}
use Rattle.layout.proofs.key_names.spelled.Goals as goal

pub spelled_at-requires : goal.spelled_at-requires
spelled_at-requires c = (c.requires.0, c.requires.1, c.key_at-key.ensures.0)

pub returns : goal.returns
returns c =
    let args = c.args in
    c.spelled_at.ensures ∙ ap (λ (i : ℕ). spelled_by args.solved args.num_letters args.start i) c.key_at-key.ensures.1
