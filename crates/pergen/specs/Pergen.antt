-- The pergen: a period P and a generator G (document 01, "Pergen and spelling"; the Xenharmonic Wiki's "pergen").
use Rattle.std.specs.Prelude.{ℕ, ◌*◌, ◌/◌, ◌%◌, ◌<◌, ◌≡◌, eqb, ltb, ℤ, None, Option, Some}
use Rattle.answer.specs.Choice.{pick}
use Rattle.math.specs.Division.{remainder}
use Rattle.math.specs.Gcd.{gcd}
use Rattle.math.specs.Passing.{first}
use Rattle.pergen.specs.declared.Generation.{Generation}

-- "n their greatest common divisor (cycles)"
unfoldable pub cycles : ℕ → ℕ → ℕ
unfolding gcd
cycles P G = gcd P G

-- "R = P / n the reduced period"
unfoldable pub reduced : ℕ → ℕ → ℕ
unfolding cycles
reduced P G = P / cycles P G

-- "below R", and its "product with G / n leaves the remainder of 1 on division by R"
pub record IsInverse (P G x : ℕ) : Type 0 where
  pub below : x < reduced P G
  pub one : x * (G / cycles P G) % reduced P G ≡ 1 % reduced P G

-- "The inverse is the one number" that `IsInverse` describes: here the first, and by the theorem `OneInverse` the only one.
unfoldable pub inverse : ℕ → ℕ → ℕ
unfolding first reduced cycles
inverse P G = first (λ x. eqb (x * (G / cycles P G) % reduced P G) (1 % reduced P G)) (reduced P G) 0

-- "Key i has degree inverse × (i div n) mod R"
unfoldable pub degree : ℕ → ℕ → ℕ → ℕ
unfolding inverse reduced cycles
degree P G i = inverse P G * (i / cycles P G) % reduced P G

-- "and cycle i mod n"
unfoldable pub cycle : ℕ → ℕ → ℕ → ℕ
unfolding cycles
cycle P G i = i % cycles P G

-- "absent when n is 1"
abbrev pub shown : (n cycle : ℕ) → Option ℕ
shown n cycle = pick (ltb 1 n) (Some cycle) None

-- ---- keys of any number: those formulas, "by first bringing the number round the octave with the remainder that is never negative"
-- (document 02, W-201). Of a free pergen the period is meant.

unfoldable pub key_degree : ℕ → ℕ → ℤ → ℕ
unfolding degree
key_degree P G key = degree P G (remainder key P)

unfoldable pub key_cycle : ℕ → ℕ → ℤ → ℕ
unfolding cycle
key_cycle P G key = cycle P G (remainder key P)

unfoldable pub cycle_of : ℕ → ℕ → ℤ → Option ℕ
unfolding key_cycle cycles
cycle_of P G key = shown (cycles P G) (key_cycle P G key)

-- Degree and cycle of a key.
unfoldable pub generation_of : ℕ → ℕ → ℤ → Generation
unfolding cycle_of key_degree
generation_of P G key = record { cycle = cycle_of P G key; degree = key_degree P G key }
