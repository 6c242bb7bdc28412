-- What is written is the numbers of the chains so far.
use Prim.Native.Nat.{◌*◌, ◌≤◌}
use mathlib.Core.Path.{◌≡◌}
use lib.ListN.{length}
use Rattle.text.specs.Writing.{Wrote, joined}
use Rattle.edo_layouts.specs.Parts.{chain_numbers}
use Rattle.edo_layouts.proofs.parts.put_chains.Given as goal

abbrev pub invariant-loop-genchain : goal.invariant-loop-genchain
invariant-loop-genchain l =
    Wrote l.initial.out 0 (joined (chain_numbers l.n l.choices) l.genchain) l.out l.place × (l.place ≤ 3 * l.genchain) × (length l.out ≡ length l.initial.out)
