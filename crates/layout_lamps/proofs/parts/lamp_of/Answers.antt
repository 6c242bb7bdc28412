-- Home, or the code of the key's layer.
use mathlib.Core.Path.{sym, ◌∙◌}
use native.Mathlib.Omega.{arith}
use Rattle.layout.specs.Parts.{layout_in}
use Rattle.layout.proofs.Kept.{found_laid}
use borrow.Author.Tests.{eqb-true, eqb-false}
use Rattle.layout_layers.proofs.Theorems.{numbers_are_below}
use Rattle.layout_lamps.proofs.StripLaws.{lamp_home, lamp_other}
use Rattle.layout_lamps.proofs.parts.lamp_of.Goals as goal

pub returns-then-is_home : goal.returns-then-is_home
returns-then-is_home c =
    let args = c.args in
    lamp_home (layout_in args.prepared) args.key.number (eqb-true _ 0 (sym c.is_home.ensures ∙ c.if-is_home.true))

pub code-requires : goal.code-requires
code-requires c =
    let laid = found_laid c.args.prepared.found in
    let below = numbers_are_below laid.caller (layout_in c.args.prepared) laid.accepted c.args.key.number in
    omega (arith, below, c.number_of.ensures, c.requires.0)

pub returns : goal.returns
returns c =
    let args = c.args in
    lamp_other (layout_in args.prepared) args.key.number _ _ _
    (eqb-false _ 0 (sym c.is_home.ensures ∙ c.if-is_home.false))
    c.requires.0 c.number_of.ensures c.code.ensures
