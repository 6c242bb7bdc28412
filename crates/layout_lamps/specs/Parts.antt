-- What the parts behind the calls promise: the strip by the plan that the code follows.
use Rattle.std.specs.Prelude.{ℕ, ◌*◌, List, set}
use Rattle.layout_layers.specs.declared.plan.Plan.{Plan}
use Rattle.layout_layers.specs.LampCodes.{code_of}
use Rattle.layout_layers.specs.Kept.{keys_of}
use Rattle.layout_layers.specs.Parts.{plan_number, turns_of, listed}

-- The codes of all entries, key 0's as any other's.
abbrev pub plan_codes : Plan → (T : ℕ) → List ℕ
plan_codes p T = listed (λ i. code_of T (plan_number p i)) (turns_of p * p.chain.num_cycles)

-- Home at key 0, and at the octave where there is a second one: a store past the end changes nothing.
abbrev pub homed : (keys : ℕ) → List ℕ → List ℕ
homed keys codes = set (set codes 0 0) keys 0

-- The strip.
abbrev pub plan_strip : Plan → (T : ℕ) → List ℕ
plan_strip p T = homed (keys_of p.chain) (plan_codes p T)
