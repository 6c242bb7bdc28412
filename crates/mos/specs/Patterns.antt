-- Step patterns (document 01, "Step patterns").
use Rattle.std.specs.Prelude.{ℕ, ◌+◌, ◌*◌, ◌-◌, ◌/◌, ◌%◌, Bool, ◌&&◌, eqb, ltb, leb, ℤ, pos, ◌+ℤ◌, ◌-ℤ◌, ◌*ℤ◌, Option, None, Some, option_map}
use Rattle.answer.specs.Choice.{pick}
use Rattle.math.specs.Gcd.{gcd_or_one}
use Rattle.mos.specs.declared.Mos.{Mos}

-- "A pattern has primary and secondary counts and steps": the counts a and b, the steps p and s.
abbrev pub mos : (a b p s : ℕ) → Mos
mos a b p s = record { num_primary_steps = a; num_secondary_steps = b; primary_step = p; secondary_step = s }

abbrev pub primaries : Mos → ℕ
primaries m = m.num_primary_steps

abbrev pub secondaries : Mos → ℕ
secondaries m = m.num_secondary_steps

abbrev pub primary : Mos → ℕ
primary m = m.primary_step

abbrev pub secondary : Mos → ℕ
secondary m = m.secondary_step

-- How many steps the pattern has: its letters.
abbrev pub count_of : Mos → ℕ
count_of m = primaries m + secondaries m

-- The sum of the two steps.
abbrev pub steps_of : Mos → ℕ
steps_of m = primary m + secondary m

-- "size is count × step summed"
unfoldable pub size_of : Mos → ℕ
size_of m = primaries m * primary m + secondaries m * secondary m

-- Question 7: "Are both products and the size of a given step pattern at most 65,535?"
unfoldable pub is_pattern : Mos → Bool
unfolding size_of
is_pattern m =
    leb (primaries m * primary m) 65535 && leb (secondaries m * secondary m) 65535 && leb (size_of m) 65535

-- "The genesis has counts 1 and 1, primary step G mod P, secondary P less that."
abbrev pub genesis : ℕ → ℕ → Mos
genesis P G = mos 1 1 (G % P) (P - G % P)

-- A collapsed pattern (`new_collapsed`): large steps of 1 and small steps of 0.
abbrev pub collapsed : ℕ → ℕ → Mos
collapsed large small = mos large small 1 0

-- "The child adds both counts into the count of the shorter step and replaces the longer step by the difference.
-- There is none if a step is 0 or both are equal."
unfoldable pub child_of : Mos → Option Mos
child_of m =
    pick (eqb (primary m) 0) None
    (pick (eqb (secondary m) 0) None
    (pick (ltb (secondary m) (primary m)) (Some (mos (primaries m) (count_of m) (primary m - secondary m) (secondary m)))
    (pick (ltb (primary m) (secondary m)) (Some (mos (count_of m) (secondaries m) (primary m) (secondary m - primary m)))
    None)))

-- Counts and steps change places (`dual`).
abbrev pub dual_of : Mos → Mos
dual_of m = mos (primary m) (secondary m) (primaries m) (secondaries m)

-- Primary and secondary change places (`mirror`).
abbrev pub mirror_of : Mos → Mos
mirror_of m = mos (secondaries m) (primaries m) (secondary m) (primary m)

-- "Parent: swap counts with steps, child, swap back."
unfoldable pub parent_of : Mos → Option Mos
unfolding child_of
parent_of m = option_map dual_of (child_of (dual_of m))

-- "Sharpness is primary minus secondary step, −65,535 to 65,535."
abbrev pub sharpness_of : Mos → ℤ
sharpness_of m = pos (primary m) -ℤ pos (secondary m)

-- The cycles (`num_cycles`): "the steps' greatest common divisor (1 where both are 0)".
unfoldable pub cycles_of : Mos → ℕ
unfolding gcd_or_one
cycles_of m = gcd_or_one (primary m) (secondary m)

-- The reduced size (`reduced_size`).
unfoldable pub reduced_size_of : Mos → ℕ
unfolding size_of cycles_of
reduced_size_of m = size_of m / cycles_of m

-- The key at a place of the keyboard (`get_key`): x primary and y secondary steps from the origin, each forward or, below 0, backward.
abbrev pub key_at : Mos → ℤ → ℤ → ℤ
key_at m x y = x *ℤ pos (primary m) +ℤ y *ℤ pos (secondary m)
