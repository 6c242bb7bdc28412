-- Three numbers, each with a space behind it.
use Prim.Native.Nat.{◌≤◌}
use native.Mathlib.Omega.{arith}
use Rattle.text.proofs.Writing.{then}
use Rattle.line.specs.Lines.{space}
use Rattle.edo_lines.proofs.LineLaws.{short}
use borrow.Author.Rules.{rules}
use Rattle.edo_lines.proofs.put_numbers.Goals as goal

pub put_number_then-first-requires : goal.put_number_then-first-requires
put_number_then-first-requires c =
    let h0 : c.args.layout.genchain ≤ 65535 = search rules in
    omega (arith, short c.args.layout.genchain space h0)

pub put_number_then-second-requires : goal.put_number_then-second-requires
put_number_then-second-requires c =
    let h0 : c.args.layout.genchain ≤ 65535 = search rules in
    let h1 : c.args.layout.octave ≤ 65535 = search rules in
    omega (arith, short c.args.layout.genchain space h0, short c.args.layout.octave space h1)

pub put_number_then-requires : goal.put_number_then-requires
put_number_then-requires c =
    let h0 : c.args.layout.genchain ≤ 65535 = search rules in
    let h1 : c.args.layout.octave ≤ 65535 = search rules in
    let h2 : c.args.layout.tritave ≤ 65535 = search rules in
    omega (arith, short c.args.layout.genchain space h0, short c.args.layout.octave space h1, short c.args.layout.tritave space h2)

pub returns : goal.returns
returns c =
    let h0 : c.args.layout.genchain ≤ 65535 = search rules in
    let h1 : c.args.layout.octave ≤ 65535 = search rules in
    let h2 : c.args.layout.tritave ≤ 65535 = search rules in (
      then (then c.put_number_then-first.ensures c.put_number_then-second.ensures) c.put_number_then.ensures,
      omega (
        arith,
        c.put_number_then-first.ensures.end,
        c.put_number_then-second.ensures.end,
        c.put_number_then.ensures.end,
        short c.args.layout.genchain space h0,
        short c.args.layout.octave space h1,
        short c.args.layout.tritave space h2,
      ),
    )
