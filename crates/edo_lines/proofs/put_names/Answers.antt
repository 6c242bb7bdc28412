-- Two names and the byte behind each.
use native.Mathlib.Omega.{arith}
use Rattle.text.proofs.Writing.{then}
use Rattle.edo_lines.proofs.LineLaws.{short_name}
use Rattle.edo_lines.proofs.put_names.Goals as goal

pub put-named-requires : goal.put-named-requires
put-named-requires c =
    let x = short_name c.args.chain c.requires.0 in
    let y = short_name c.args.scale c.requires.1 in
    (c.requires.0, omega (arith, x))

pub put_byte-between-requires : goal.put_byte-between-requires
put_byte-between-requires c =
    let x = short_name c.args.chain c.requires.0 in
    let y = short_name c.args.scale c.requires.1 in
    omega (arith, x)

pub put-scaled-requires : goal.put-scaled-requires
put-scaled-requires c =
    let x = short_name c.args.chain c.requires.0 in
    let y = short_name c.args.scale c.requires.1 in
    (c.requires.1, omega (arith, x, y))

pub put_byte-requires : goal.put_byte-requires
put_byte-requires c =
    let x = short_name c.args.chain c.requires.0 in
    let y = short_name c.args.scale c.requires.1 in
    omega (arith, x, y)

pub returns : goal.returns
returns c =
    let x = short_name c.args.chain c.requires.0 in
    let y = short_name c.args.scale c.requires.1 in (
      then (then (then c.put-named.ensures c.put_byte-between.ensures) c.put-scaled.ensures) c.put_byte.ensures,
      omega (arith, c.put-named.ensures.end, c.put_byte-between.ensures.end, c.put-scaled.ensures.end, c.put_byte.ensures.end, x, y),
    )
