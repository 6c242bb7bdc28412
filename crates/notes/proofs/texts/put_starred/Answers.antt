-- The printed spellings, then the stars.
use native.Mathlib.Omega.{arith}
use lib.ListN.{length-replicate}
use Prim.Native.Nat.{ℕ}
use Rattle.text.proofs.Writing.{then}
use Rattle.notes.specs.Parts.{starred_text}
use Rattle.notes.proofs.Lengths.{length_starred}
use Rattle.notes.proofs.texts.put_starred.Goals as goal

pub put_body-next-requires : goal.put_body-next-requires
put_body-next-requires c = (c.requires.0, omega (arith, length_starred c.args.plan c.args.stars))

pub put_run-requires : goal.put_run-requires
put_run-requires c =
    omega (arith, length_starred c.args.plan c.args.stars, length-replicate {A = ℕ} c.args.stars 42)

pub returns : goal.returns
unfolding starred_text
returns c = then c.put_body-next.ensures c.put_run.ensures
