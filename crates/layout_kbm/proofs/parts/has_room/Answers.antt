-- Room for any file of so many keys, or for this one.
use Rattle.layout_kbm.proofs.Calls.{surely_held}
use Rattle.layout.specs.Parts.{layout_in}
use borrow.Author.Rules.{rules}
use Rattle.layout_kbm.proofs.parts.has_room.Goals as goal

pub returns-then-prepared-room : goal.returns-then-prepared-room
returns-then-prepared-room c = surely_held (layout_in c.args.prepared) _ (search rules) c.if-prepared-room.true
