-- Natural; at the half; on either side of it.
use Rattle.layout_layers.proofs.LampCodeLaws.{code_first, code_half, code_side}
use Rattle.layout_layers.proofs.parts.code.Goals as goal

pub returns-then-number-eq0 : goal.returns-then-number-eq0
returns-then-number-eq0 c = code_first c.args.total c.args.number c.requires c.if-number-eq0.true

pub returns-then-number-left : goal.returns-then-number-left
returns-then-number-left c =
    code_half c.args.total c.args.number c.requires c.if-number-eq0.false c.if-number-left.true

pub returns : goal.returns
returns c =
    code_side c.args.total c.args.number c.requires c.if-number-eq0.false c.if-number-left.false _
    c.side_code.ensures
