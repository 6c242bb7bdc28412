-- What a plan keeps: the fact of its ghost field. A file that such a field cites does not name the plan, so its numbers stand here one by
-- one.
use Rattle.std.specs.Prelude.{ℕ, Bool, ◌*◌, ◌%◌, ◌≤◌, ◌<◌, ◌≡◌, length}
use Rattle.answer.specs.Choice.{pick}
use Rattle.pergen.specs.Pergen.{inverse}
use Rattle.mos_layers.specs.declared.Runs.{Runs}
use Rattle.mos_layers.specs.Layers.{drop_empty}
use Rattle.mos_layers.specs.Parts.{run_sizes}
use Rattle.mos_layers.specs.Theorems.{sum}
use Rattle.layout_layers.specs.declared.chain.Chain.{Chain}

-- ---- the chain

-- "The inverse" of document 01, from what the chain holds: how many places on the next scale degree is.
unfoldable pub inverse_of : Chain → ℕ
inverse_of c = inverse c.reduced_period c.advance

-- How many keys the octave has.
abbrev pub keys_of : Chain → ℕ
keys_of c = c.reduced_period * c.num_cycles

-- A chain that can be walked: one place on is one advance on.
pub record Unbroken (c : Chain) : Type 0 where
  pub some_cycles : 0 < c.num_cycles
  pub start_below : c.start < c.reduced_period
  pub advance_below : c.advance < c.reduced_period
  pub one : inverse_of c * c.advance % c.reduced_period ≡ 1 % c.reduced_period

-- ---- a plan

-- How many layers one cycle has.
abbrev pub layers_of_runs : (equalized : Bool) → Runs → ℕ
layers_of_runs equalized runs = pick equalized 2 (length (drop_empty (run_sizes runs)))

-- The numbers of a plan that can be followed: divisors are above 0, places are on the list, and the numbers fit 16 bits.
pub record IsSound (chain : Chain) (runs : Runs) (offset letters secondaries : ℕ) (equalized : Bool) : Type 0 where
  pub unbroken : Unbroken chain
  pub runs_fill : sum (run_sizes runs) ≡ chain.reduced_period
  pub some_letters : 0 < letters
  pub few_secondaries : secondaries ≤ 9
  pub near_offset : offset ≤ 524280
  pub layers_fit : layers_of_runs equalized runs * chain.num_cycles ≤ 65535
  pub keys_fit : keys_of chain ≤ 65535
