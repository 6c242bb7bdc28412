-- The spellings of the key, its stars, its lamp.
use mathlib.Core.Path.{refl}
use mir.Syntax.{w32}
use Rattle.math.proofs.Signed.{read_back_lem}
use Rattle.layout.proofs.Kept.{made_ready}
use Rattle.layout_layers.proofs.PreparedPlans.{entry_below}
use Rattle.layout_sheet.proofs.Records.{record_filled}
use borrow.Author.Rules.{rules}
use Rattle.layout_sheet.proofs.parts.record_at.Goals as goal

pub lamp_of-lamp-requires : goal.lamp_of-lamp-requires
lamp_of-lamp-requires c =
    let source = c.args.source in
    let ready = made_ready source.prepared in
    (source.counted, c.requires.0.0, entry_below source.prepared ready c.args.asked.key _ _ refl c.requires.1)

pub returns : goal.returns
returns c =
    record_filled c.args.source.prepared (made_ready c.args.source.prepared) c.args.asked _ c.requires.1
    _ c.spellings-spelled.ensures _ c.unwrap_or-stars.ensures _ c.lamp_of-lamp.ensures
    _ (read_back_lem w32 c.args.asked.key (search rules))
