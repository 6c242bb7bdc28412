-- The comparison chooses.
use mathlib.Core.Path.{refl}
use borrow.Author.Tests.{lt-ltb, le-ltb}
use Rattle.layout_layers.proofs.parts.side_code.Goals as goal

pub returns-then-number-left : goal.returns-then-number-left
returns-then-number-left c = rw (lt-ltb _ _ c.if-number-left.true) refl

pub returns : goal.returns
returns c = rw (le-ltb _ _ c.if-number-left.false) refl
