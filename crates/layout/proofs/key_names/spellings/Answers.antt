-- By what was solved.
use mathlib.Core.Path.{refl}
use Rattle.layout.proofs.Kept.{parts_found, made_ready}
use Rattle.layout.proofs.Readiness.{ready_walkable, spellings_are}
use Rattle.layout.proofs.key_names.spellings.Goals as goal

pub spelled_at-requires : goal.spelled_at-requires
spelled_at-requires c =
    let p = c.args.prepared in
    ((parts_found p.found).start_below, ready_walkable p (made_ready p), c.requires)

pub returns : goal.returns
returns c =
    let p = c.args.prepared in
    spellings_are p (made_ready p) _ _ refl _ c.spelled_at.ensures
