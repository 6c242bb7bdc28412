-- A run of empty layers is dropped; any other is written whole.
use mathlib.Core.Path.{sym, subst}
use Rattle.text.specs.Writing.{Room}
use Rattle.text.proofs.Writing.{wrote_as, wrote_none}
use Rattle.mos_layers.proofs.Sizes.{drop_none, drop_all}
use Rattle.mos_layers.proofs.parts.put_sizes.Goals as goal

pub returns-then-size-eq0 : goal.returns-then-size-eq0
returns-then-size-eq0 c = wrote_as (sym (drop_none c.args.times c.args.size c.if-size-eq0.true)) (wrote_none _ _)

pub put_run-requires : goal.put_run-requires
put_run-requires c = subst (Room c.args.out.now c.args.at) (drop_all c.args.times c.args.size c.if-size-eq0.false) c.requires

pub returns : goal.returns
returns c = wrote_as (sym (drop_all c.args.times c.args.size c.if-size-eq0.false)) c.put_run.ensures
