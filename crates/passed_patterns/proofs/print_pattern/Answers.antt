-- The line is at the front of what was put.
use Prim.Native.Nat.{◌≤◌}
use native.Mathlib.Omega.{arith}
use lib.ListN.{length}
use Rattle.text.proofs.Writing.{put_there}
use Rattle.streams.proofs.Onward.{written_as}
use Rattle.passed_patterns.specs.Printing.{pattern_line}
use Rattle.passed_patterns.proofs.print_pattern.Goals as goal

pub returns : goal.returns
returns c =
    let put = c.put_pattern-bytes in
    let room : length (pattern_line c.args.m) ≤ 24 =
    omega (arith, put.ensures.0.end, put.ensures.1) in
    written_as (put_there room put.ensures.0).1 c.write_front.ensures
