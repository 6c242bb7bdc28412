-- Chain order, and back (document 02, W-214). P is the octave, G the generator, `reduced P G` the reduced period R.
use Rattle.std.specs.Prelude.{ℕ, zero, suc, ◌+◌, ◌*◌, List, pos, get_or, set, replicate}
use Rattle.pergen.specs.Pergen.{reduced, key_degree, cycle_of}
use Rattle.pergen.specs.Spelling.{stars_of}

-- "key i goes to cycle × reduced period + degree, with absent cycle as 0"
unfoldable pub chain_place : ℕ → ℕ → ℕ → ℕ
unfolding cycle_of reduced key_degree
chain_place P G i = stars_of (cycle_of P G (pos i)) * reduced P G + key_degree P G (pos i)

-- The entry that stands at `from i` goes to `to i`, for each i below `count`: what a list then holds.
unfoldable pub placed : (from to : ℕ → ℕ) → List ℕ → ℕ → List ℕ → List ℕ
placed from to entries zero list = list
placed from to entries (suc count) list = set (placed from to entries count list) (to count) (get_or entries (from count) 0)

-- "Rearrange a list of octave many .. entries": the first P of them, from key i to the place of i.
unfoldable pub in_chain_order : ℕ → ℕ → List ℕ → List ℕ
unfolding placed chain_place
in_chain_order P G entries = placed (λ i. i) (chain_place P G) entries P (replicate P 0)

-- "The inverse": from the place of i to key i.
unfoldable pub in_key_order : ℕ → ℕ → List ℕ → List ℕ
unfolding placed chain_place
in_key_order P G entries = placed (chain_place P G) (λ i. i) entries P (replicate P 0)
