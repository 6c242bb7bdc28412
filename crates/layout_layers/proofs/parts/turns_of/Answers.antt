-- Twice the reduced period where the scale is equalized.
use Prim.Native.Nat.{◌*◌}
use mathlib.Core.Bool.{Bool}
use mathlib.Core.Path.{sym, ap}
use borrow.Author.Rules.{rules}
use Rattle.answer.specs.Choice.{pick}
use Rattle.layout_layers.proofs.parts.turns_of.Goals as goal

pub returns-then-equalized : goal.returns-then-equalized
returns-then-equalized c =
    let R = c.args.chain.reduced_period in (ap (λ (b : Bool). pick b (2 * R) R) (sym c.if-equalized.true), search rules)

pub returns : goal.returns
returns c = let R = c.args.chain.reduced_period in (ap (λ (b : Bool). pick b (2 * R) R) (sym c.if-equalized.false), search rules)
