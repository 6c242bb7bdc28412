-- What the parts behind the calls promise: the definitions of Pergen and Spelling, by the numbers that the code carries.
use Rattle.std.specs.Prelude.{ℕ, ◌+◌, ◌*◌, ◌-◌, ◌/◌, ◌%◌, ◌≤◌, ◌<◌, ◌≡◌, Bool, true, false, not, pos, ◌-ℤ◌}
use Rattle.answer.specs.Choice.{pick}
use Rattle.math.specs.Gcd.{gcd}
use Rattle.pergen.specs.Pergen.{cycles, reduced, inverse, shown}
use Rattle.pergen.specs.Spelling.{place}
use Rattle.pergen.specs.declared.Generation.{Generation}
use Rattle.pergen.specs.declared.Spelling.{Spelling}
use Rattle.pergen.specs.declared.euclid.Bezout.{Bezout}
use Rattle.pergen.specs.declared.euclid.Remainders.{Remainders}
use Rattle.pergen.specs.declared.euclid.Solved.{Solved}
use Rattle.pergen.specs.declared.sounding.Sides.{Sides}
use Rattle.pergen.specs.declared.stepping.Key.{Key}

-- c generators forward leave r on division by P; backward where the flag is set.
abbrev pub Leaves : (P G r c : ℕ) → Bool → Type 0
Leaves P G r c true = (c * G + r) % P ≡ 0
Leaves P G r c false = c * G % P ≡ r % P

-- The extended Euclid on its way: r₀ and r₁ have the greatest common divisor of P and G, and are left by c₀ and c₁ generators, one of them
-- counted backward.
pub record Going (P G r₀ r₁ c₀ c₁ : ℕ) (negative : Bool) : Type 0 where
  pub same : gcd r₀ r₁ ≡ gcd P G
  pub some₀ : 0 < r₀
  pub small₀ : r₀ ≤ 65535
  pub small₁ : r₁ ≤ 65535
  pub whole : c₁ * r₀ + c₀ * r₁ ≡ P
  pub ordered : r₁ ≡ 0 → c₀ ≤ c₁
  pub left₀ : Leaves P G r₀ c₀ negative
  pub left₁ : Leaves P G r₁ c₁ (not negative)

-- Remainders that it may go on from.
abbrev pub StandsAt : ℕ → ℕ → Remainders → Type 0
StandsAt P G r = Going P G r.first r.second r.first_by r.second_by r.negative

-- What the extended Euclid finds: the coefficient times the generator leaves the greatest common divisor, or makes a multiple with it.
pub record BezoutOf (P G : ℕ) (b : Bezout) : Type 0 where
  pub gcd_is : b.gcd ≡ gcd P G
  pub cofactor_is : b.cofactor * b.gcd ≡ P
  pub small : b.coefficient ≤ b.cofactor
  pub forward_is : b.negative ≡ false → b.coefficient * G % P ≡ gcd P G % P
  pub backward_is : b.negative ≡ true → (b.coefficient * G + gcd P G) % P ≡ 0

-- The coefficient counted forward: so many keys of a cycle back are the others forward.
abbrev pub forward : Bezout → ℕ
forward b = pick b.negative (b.cofactor - b.coefficient) b.coefficient

-- The numbers that follow from a period and a generator.
unfoldable pub solved_of : ℕ → ℕ → Solved
solved_of P G = record { num_cycles = cycles P G; reduced_period = reduced P G; generator_inverse = inverse P G }

-- Degree and cycle of key i of the period, by those numbers.
unfoldable pub generation_from : Solved → ℕ → Generation
generation_from s i =
    record {
      cycle = shown s.num_cycles (i % s.num_cycles);
      degree = s.generator_inverse * (i / s.num_cycles) % s.reduced_period;
    }

-- Numbers that a walk from key to key goes by: those that follow from any period above 0 are such.
pub record Walkable (s : Solved) : Type 0 where
  pub some_cycles : 0 < s.num_cycles
  pub below : s.generator_inverse < s.reduced_period

-- A key holds the degree and the cycle of its number: "degree inverse × (i div n) mod R and cycle i mod n".
pub record At (s : Solved) (k : Key) : Type 0 where
  pub degree_is : k.degree ≡ s.generator_inverse * (k.number / s.num_cycles) % s.reduced_period
  pub cycle_is : k.cycle ≡ k.number % s.num_cycles

-- Both sides are at most 65,535 × 2³².
pub record SmallSides (s : Sides) : Type 0 where
  pub above : s.above ≤ 281470681743360
  pub below : s.below ≤ 281470681743360

-- A spelling's place is the difference of the sides.
pub record SidesOf (N origin : ℕ) (spelling : Spelling) (s : Sides) : Type 0 where
  pub difference : place N origin spelling ≡ pos s.above -ℤ pos s.below
  pub small : SmallSides s
