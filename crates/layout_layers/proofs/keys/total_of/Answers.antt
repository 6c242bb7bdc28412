-- Two layers, or as many as there are, in each cycle.
use Rattle.layout.proofs.Kept.{made_ready}
use mathlib.Core.Path.{sym, ◌∙◌}
use native.Mathlib.Omega.{arith}
use borrow.Author.Rules.{rules}
use Rattle.layout_layers.proofs.PreparedLayers.{total_alternates, total_listed, total_fits}
use Rattle.layout_layers.proofs.keys.total_of.Goals as goal

pub overflow_mul-result : goal.overflow_mul-result
overflow_mul-result c =
    let prepared = c.args.prepared in
    let total = total_alternates prepared (made_ready c.args.prepared) (sym c.if-is_equalized.true ∙ c.is_equalized.ensures) in
    omega (arith, total_fits prepared (made_ready c.args.prepared) (search rules) _ total)

pub returns-then-is_equalized : goal.returns-then-is_equalized
returns-then-is_equalized c = total_alternates c.args.prepared (made_ready c.args.prepared) (sym c.if-is_equalized.true ∙ c.is_equalized.ensures)

pub count_of-requires : goal.count_of-requires
count_of-requires c = c.sizes_of.ensures.countable

pub overflow_mul-result-2 : goal.overflow_mul-result-2
overflow_mul-result-2 c =
    let prepared = c.args.prepared in
    let total = total_listed prepared (made_ready c.args.prepared) (sym c.if-is_equalized.false ∙ c.is_equalized.ensures) _ c.sizes_of.ensures _ c.count_of.ensures in
    omega (arith, total_fits prepared (made_ready c.args.prepared) (search rules) _ total)

pub returns : goal.returns
returns c =
    total_listed c.args.prepared (made_ready c.args.prepared) (sym c.if-is_equalized.false ∙ c.is_equalized.ensures) _ c.sizes_of.ensures _ c.count_of.ensures
