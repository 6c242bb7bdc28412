-- Which step is longer says whose count is left over.
use native.Mathlib.Omega.{arith}
use borrow.Author.Rules.{rules}
use Rattle.layout_layers.proofs.LayerSizes.{counts_fit, sizes_first, sizes_second}
use Rattle.layout_layers.proofs.keys.sizes_by.Goals as goal

pub overflow_add-letters : goal.overflow_add-letters
overflow_add-letters c =
    let asked = c.requires in omega (arith, (counts_fit _ _ _ _ _ asked.0 asked.1 asked.2 asked.3 asked.4 (search rules)).0)

pub overflow_add-first : goal.overflow_add-first
overflow_add-first c =
    let asked = c.requires in omega (arith, (counts_fit _ _ _ _ _ asked.0 asked.1 asked.2 asked.3 asked.4 (search rules)).1)

pub overflow_add-second : goal.overflow_add-second
overflow_add-second c =
    let asked = c.requires in omega (arith, (counts_fit _ _ _ _ _ asked.0 asked.1 asked.2 asked.3 asked.4 (search rules)).2)

pub returns-then-first-second : goal.returns-then-first-second
returns-then-first-second c =
    let asked = c.requires in
    sizes_second _ _ _ _ _ asked.0 asked.1 asked.2 asked.3 asked.4 (search rules) c.if-first-second.true

pub returns : goal.returns
returns c =
    let asked = c.requires in
    sizes_first _ _ _ _ _ asked.0 asked.1 asked.2 asked.3 asked.4 (search rules) c.if-first-second.false
