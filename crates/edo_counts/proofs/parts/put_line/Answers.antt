-- Four numbers, each with the byte behind it, one after the other.
use Prim.Native.Nat.{◌≤◌}
use native.Mathlib.Omega.{arith}
use Rattle.text.proofs.Writing.{then}
use Rattle.line.specs.Lines.{space, line_feed}
use Rattle.edo_counts.specs.Counts.{report_line}
use Rattle.edo_counts.proofs.Lines.{short}
use borrow.Author.Rules.{rules}
use Rattle.edo_counts.proofs.parts.put_line.Goals as goal

pub put_number_then-first-requires : goal.put_number_then-first-requires
put_number_then-first-requires c =
    let h0 : c.args.genchain ≤ 65535 = search rules in
    omega (arith, short c.args.genchain space h0)

pub put_number_then-second-requires : goal.put_number_then-second-requires
put_number_then-second-requires c =
    let h0 : c.args.genchain ≤ 65535 = search rules in
    let h1 : c.args.tally.above ≤ 65535 = search rules in
    omega (arith, short c.args.genchain space h0, short c.args.tally.above space h1)

pub put_number_then-third-requires : goal.put_number_then-third-requires
put_number_then-third-requires c =
    let h0 : c.args.genchain ≤ 65535 = search rules in
    let h1 : c.args.tally.above ≤ 65535 = search rules in
    let h2 : c.args.tally.below ≤ 65535 = search rules in
    omega (arith, short c.args.genchain space h0, short c.args.tally.above space h1, short c.args.tally.below space h2)

pub put_number_then-requires : goal.put_number_then-requires
put_number_then-requires c =
    let h0 : c.args.genchain ≤ 65535 = search rules in
    let h1 : c.args.tally.above ≤ 65535 = search rules in
    let h2 : c.args.tally.below ≤ 65535 = search rules in
    let h3 : c.args.tally.equal ≤ 65535 = search rules in
    omega (arith, short c.args.genchain space h0, short c.args.tally.above space h1, short c.args.tally.below space h2, short c.args.tally.equal line_feed h3)

pub returns : goal.returns
unfolding report_line
returns c =
    then
    (then (then c.put_number_then-first.ensures c.put_number_then-second.ensures) c.put_number_then-third.ensures)
    c.put_number_then.ensures
