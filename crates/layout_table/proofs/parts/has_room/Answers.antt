-- Room for any table of so many keys, or for this one.
use Prim.Native.Nat.{ℕ, ◌+◌, ◌/◌, ◌≤◌}
use mathlib.Core.Path.{ap}
use native.Mathlib.Nat.{mul-le-mul}
use native.Mathlib.Omega.{arith}
use lib.Dec.{leb}
use Rattle.layout.specs.Parts.{layout_in}
use Rattle.layout.proofs.Kept.{found_laid}
use Rattle.layout_table.proofs.Fitting.{surely_held}
use borrow.Author.Rules.{rules}
use Rattle.layout_table.proofs.parts.has_room.Goals as goal

pub overflow_mul-keys : goal.overflow_mul-keys
overflow_mul-keys c =
    let k = c.args.prepared.found.octave in
    let few : k ≤ 65535 = search rules in
    omega (arith, mul-le-mul {n₁ = k / 5 + 21} {m₁ = k} {n₂ = 13128} {m₂ = 65535} (omega (arith, few)) few)

pub returns-then-keys-room : goal.returns-then-keys-room
returns-then-keys-room c =
    surely_held (layout_in c.args.prepared) (found_laid c.args.prepared.found) (search rules) _ c.if-keys-room.true

pub returns : goal.returns
returns c = ap (λ (n : ℕ). leb n c.args.room) c.lines_length.ensures
