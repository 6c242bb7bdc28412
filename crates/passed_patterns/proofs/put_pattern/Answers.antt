-- Four numbers, each with a byte behind it.
use Prim.Native.Nat.{◌≤◌}
use native.Mathlib.Omega.{arith}
use Rattle.text.proofs.Writing.{then}
use Rattle.line.specs.Lines.{space, line_feed}
use Rattle.passed_patterns.specs.Printing.{pattern_line}
use Rattle.passed_patterns.proofs.Showing.{short}
use borrow.Author.Rules.{rules}
use Rattle.passed_patterns.proofs.put_pattern.Goals as goal

pub put_number_then-first-requires : goal.put_number_then-first-requires
put_number_then-first-requires c =
    let h0 : c.args.m.num_primary_steps ≤ 65535 = search rules in
    omega (arith, short c.args.m.num_primary_steps space h0)

pub put_number_then-second-requires : goal.put_number_then-second-requires
put_number_then-second-requires c =
    let h0 : c.args.m.num_primary_steps ≤ 65535 = search rules in
    let h1 : c.args.m.num_secondary_steps ≤ 65535 = search rules in
    omega (arith, short c.args.m.num_primary_steps space h0, short c.args.m.num_secondary_steps space h1)

pub put_number_then-third-requires : goal.put_number_then-third-requires
put_number_then-third-requires c =
    let h0 : c.args.m.num_primary_steps ≤ 65535 = search rules in
    let h1 : c.args.m.num_secondary_steps ≤ 65535 = search rules in
    let h2 : c.args.m.primary_step ≤ 65535 = search rules in
    omega (arith, short c.args.m.num_primary_steps space h0, short c.args.m.num_secondary_steps space h1, short c.args.m.primary_step space h2)

pub put_number_then-requires : goal.put_number_then-requires
put_number_then-requires c =
    let h0 : c.args.m.num_primary_steps ≤ 65535 = search rules in
    let h1 : c.args.m.num_secondary_steps ≤ 65535 = search rules in
    let h2 : c.args.m.primary_step ≤ 65535 = search rules in
    let h3 : c.args.m.secondary_step ≤ 65535 = search rules in
    omega (arith, short c.args.m.num_primary_steps space h0, short c.args.m.num_secondary_steps space h1, short c.args.m.primary_step space h2, short c.args.m.secondary_step line_feed h3)

pub returns : goal.returns
unfolding pattern_line
returns c =
    let h0 : c.args.m.num_primary_steps ≤ 65535 = search rules in
    let h1 : c.args.m.num_secondary_steps ≤ 65535 = search rules in
    let h2 : c.args.m.primary_step ≤ 65535 = search rules in
    let h3 : c.args.m.secondary_step ≤ 65535 = search rules in (
      then (then (then c.put_number_then-first.ensures c.put_number_then-second.ensures) c.put_number_then-third.ensures) c.put_number_then.ensures,
      omega (
        arith,
        c.put_number_then-first.ensures.end,
        c.put_number_then-second.ensures.end,
        c.put_number_then-third.ensures.end,
        c.put_number_then.ensures.end,
        short c.args.m.num_primary_steps space h0,
        short c.args.m.num_secondary_steps space h1,
        short c.args.m.primary_step space h2,
        short c.args.m.secondary_step line_feed h3,
      ),
    )
