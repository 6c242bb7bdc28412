-- After `cycle` turns the pairs and names of the cycles before it stand side by side.
-- the first k pairs and names
use Prim.Native.Nat.{ℕ}
use mathlib.Core.List.{List}
use Rattle.text.specs.Writing.{joined}
use Rattle.notes.specs.declared.plans.NamePlan.{NamePlan}
use Rattle.notes.specs.Parts.{starred_text}
use Rattle.layout_book.specs.Parts.{starred_pair, Beside}
use Rattle.layout_book.proofs.parts.put_cycles.Given as goal

abbrev pub Written : NamePlan → ℕ → ℕ → List ℕ → ℕ → List ℕ → ℕ → ℕ → Type 0
Written plan pair text before k after front behind =
    Beside before pair (joined (starred_pair plan text) k) text (joined (starred_text plan) k) after front behind

abbrev pub invariant-loop-cycle : goal.invariant-loop-cycle
invariant-loop-cycle l = Written l.plan l.pair l.text l.initial.out l.cycle l.out l.front l.behind
