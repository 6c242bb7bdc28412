-- A number of signs as one signed number: by its size, and what it adds to a place.
use Prim.Native.Nat.{suc}
use mathlib.Core.Path.{refl}
use lib.IntN.{pos, negsuc}
use native.Mathlib.Omega.{arith}
use Rattle.math.proofs.Integers.{rep_self, rep_pos, rep_neg, rep_mul, rep_agree}
use Rattle.pergen.specs.Theorems.{SignsAddToThePlace}

pub signs_add_to_the_place : SignsAddToThePlace
signs_add_to_the_place N (pos k) = refl
signs_add_to_the_place N (negsuc k) =
    rep_agree (rep_neg (rep_mul N (rep_pos (suc k)))) (rep_mul N (rep_self (negsuc k))) (omega arith)
