-- Step patterns with fractional steps (document 02, W-213). Steps go by IEEE 754 at double precision: `add`, `sub` and `rem` of the kit's
-- library, of which each is the exact result rounded once.
use Rattle.std.specs.Prelude.{ℕ, ◌+◌, Bool, true, false, ltb, pos, Float, Option, None, Some}
use Rattle.std.specs.Float.{nan, inf, fin, binary64}
use Rattle.std.specs.Float.Ieee.{add, sub, rem, lt, eq}
use Rattle.answer.specs.Choice.{pick}
use Rattle.mos_fractional.specs.declared.FractionalMos.{FractionalMos}

-- "a pattern with two counts .. and two double-precision steps": the counts a and b, the steps p and s.
abbrev pub fractional : (a b : ℕ) (p s : Float) → FractionalMos
fractional a b p s = record { num_primary_steps = a; num_secondary_steps = b; primary_step = p; secondary_step = s }

abbrev pub primaries : FractionalMos → ℕ
primaries m = m.num_primary_steps

abbrev pub secondaries : FractionalMos → ℕ
secondaries m = m.num_secondary_steps

abbrev pub primary : FractionalMos → Float
primary m = m.primary_step

abbrev pub secondary : FractionalMos → Float
secondary m = m.secondary_step

-- How many steps the pattern has.
abbrev pub count_of : FractionalMos → ℕ
count_of m = primaries m + secondaries m

-- 0 and 1.
abbrev pub nought : Float
nought = fin false 0 (pos 0)

abbrev pub one : Float
one = fin false 1 (pos 0)

-- Question 22: "the generator is infinite or not a number".
abbrev pub is_finite : Float → Bool
is_finite nan = false
is_finite (inf s) = false
is_finite (fin s m e) = true

-- "The first step is the generator's remainder by 1, with 1 added where that is below 0". The remainder has the generator's sign.
unfoldable pub first_step_of : Float → Float
first_step_of g = pick (lt (rem binary64 g one) nought) (add binary64 (rem binary64 g one) one) (rem binary64 g one)

-- "the second is 1 minus it"; counts 1 and 1, as of every genesis.
unfoldable pub genesis : Float → FractionalMos
unfolding first_step_of
genesis g = fractional 1 1 (first_step_of g) (sub binary64 one (first_step_of g))

-- Document 01's child "adds both counts into the count of the shorter step and replaces the longer step by the difference": where the
-- primary step is the longer, and where the secondary is.
abbrev pub off_primary : FractionalMos → FractionalMos
off_primary m = fractional (primaries m) (count_of m) (sub binary64 (primary m) (secondary m)) (secondary m)

abbrev pub off_secondary : FractionalMos → FractionalMos
off_secondary m = fractional (count_of m) (secondaries m) (primary m) (sub binary64 (secondary m) (primary m))

-- "There is none if a step is 0 or both are equal." And there is none "where a count would pass 65,535". Where a step is not a number,
-- neither is the shorter, and there is none.
unfoldable pub child_of : FractionalMos → Option FractionalMos
child_of m =
    pick (eq (primary m) nought) None
    (pick (eq (secondary m) nought) None
    (pick (ltb 65535 (count_of m)) None
    (pick (lt (secondary m) (primary m)) (Some (off_primary m))
    (pick (lt (primary m) (secondary m)) (Some (off_secondary m)) None))))
