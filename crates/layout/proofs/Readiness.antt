-- What is known of a layout that was made ready, and of its keys.
use Prim.Native.Nat.{ℕ, ◌*◌, ◌<◌}
use mathlib.Core.Path.{◌≡◌, ap, ◌∙◌, subst}
use mathlib.Core.List.{List}
use native.Mathlib.Omega.{arith}
use lib.IntN.{ℤ, pos}
use lib.ListN.{length}
use Rattle.genchain.specs.declared.rows.ChainRow.{ChainRow}
use Rattle.genchain.specs.Chains.{chain_of, row_of, letters_in}
use Rattle.genchain.proofs.TableRows.{table_row, row_letters}
use Rattle.math.specs.Division.{remainder}
use Rattle.math.proofs.Division.{remainder_below}
use Rattle.notes.specs.Parts.{plan_text, Planned, Measured}
use Rattle.notes.specs.declared.plans.NamePlan.{NamePlan}
use Rattle.pergen.specs.declared.Accidentals.{Accidentals}
use Rattle.pergen.specs.declared.Generation.{Generation}
use Rattle.pergen.specs.declared.stepping.Key.{Key}
use Rattle.pergen.specs.Pergen.{degree, cycle}
use Rattle.pergen.specs.Spelling.{accidentals_of}
use Rattle.pergen.specs.Parts.{Walkable, At, generation_from}
use Rattle.pergen.proofs.Calls.{accidentals_from_zero, degree_small}
use Rattle.pergen.proofs.CarriedWalk.{walkable, at_degree, at_cycle, solved_period}
use Rattle.layout.specs.Layouts.{Layout, accidentals_in, sharp_first}
use Rattle.layout.specs.Names.{name_in}
use Rattle.layout.specs.Parts.{layout_in, Ready, PlannedIn, NamePlanned}
use Rattle.layout.specs.declared.prepared.Prepared.{Prepared}
use Rattle.layout.proofs.Calls.{text_planned}
use Rattle.layout.proofs.Finding.{Parts, laid}

-- a plan of a key's spellings, by the letters of the chain's row
pub planned_by_row : (l : Layout) → Parts l → (row : ChainRow) → row ≡ row_of (chain_of l.chain) → (key : ℤ) (a : Accidentals)
    → a ≡ accidentals_in l key → (plan : NamePlan) → Planned (letters_in row) (sharp_first l) a plan → PlannedIn l key plan
planned_by_row l parts row is key a q plan planned =
    subst (λ (letters : List ℕ). Planned letters (sharp_first l) (accidentals_in l key) plan)
    (row_letters row (table_row l.chain row parts.chain is))
    (subst (λ (y : Accidentals). Planned (letters_in row) (sharp_first l) y plan) q planned)

module _ (p : Prepared) (h : Ready p) where
  abbrev P : ℕ
  P = p.found.octave

  abbrev G : ℕ
  G = p.found.generator

  pub parts_ready : Parts (layout_in p)
  parts_ready = laid (layout_in p) h.laid

  pub ready_walkable : Walkable p.solved
  ready_walkable = walkable P G parts_ready.positive p.solved h.solved_is

  pub ready_octave : P ≡ p.solved.reduced_period * p.solved.num_cycles
  ready_octave = solved_period P G parts_ready.positive p.solved h.solved_is

  -- a number below two octaves, and one below the octave, is a key's
  pub found_twice : (number : ℕ) → number < 2 * P → Walkable p.solved × (number < 2 * (p.solved.reduced_period * p.solved.num_cycles))
  found_twice number below = (ready_walkable, omega (arith, below, ready_octave))

  pub found_once : (number : ℕ) → number < P → Walkable p.solved × (number < 2 * (p.solved.reduced_period * p.solved.num_cycles))
  found_once number below = found_twice number (omega arith)

  pub found_round : (key : ℤ) (number : ℕ) → number ≡ remainder key P
      → Walkable p.solved × (number < 2 * (p.solved.reduced_period * p.solved.num_cycles))
  found_round key number round =
      let below = remainder_below key P parts_ready.positive in found_once number (omega (arith, round, below))

  -- a key's degree and cycle are those of its number
  module _ (k : Key) (at : At p.solved k) where
    pub key_degree_lem : k.degree ≡ degree P G k.number
    key_degree_lem = at_degree P G parts_ready.positive p.solved h.solved_is k at

    pub key_cycle_lem : k.cycle ≡ cycle P G k.number
    key_cycle_lem = at_cycle P G parts_ready.positive p.solved h.solved_is k at

  -- the spellings of a key, by its degree and cycle
  module _ (number : ℕ) (g : Generation) (is : g ≡ generation_from p.solved number) where
    pub degree_below : g.degree < p.solved.reduced_period
    degree_below = degree_small P G p.solved h.solved_is number g parts_ready.positive is

    pub spellings_are : (a : Accidentals)
        → a ≡ accidentals_of p.solved.reduced_period p.found.num_letters p.found.start g.degree g.cycle
        → a ≡ accidentals_in (layout_in p) (pos number)
    unfolding accidentals_in
    spellings_are a q =
        accidentals_from_zero P G p.solved h.solved_is p.found.num_letters p.found.start number g a parts_ready.positive is q

  -- the plan of its name
  module _ (row : ChainRow) (is : row ≡ row_of (chain_of p.found.chain)) where
    pub planned_name : (k : Key) (a : Accidentals) → a ≡ accidentals_in (layout_in p) (pos k.number) → (plan : NamePlan)
        → Planned (letters_in row) (sharp_first (layout_in p)) a plan → NamePlanned p k plan
    planned_name k a q plan planned = planned_by_row (layout_in p) parts_ready row is (pos k.number) a q plan planned

-- a planned name is the key's, and has the length that was measured
module _ (p : Prepared) (k : Key) (plan : NamePlan) (q : NamePlanned p k plan) where
  pub planned_text : plan_text plan ≡ name_in (layout_in p) (pos k.number)
  planned_text = text_planned (layout_in p) (pos k.number) plan q

  pub planned_length : (n : ℕ) → Measured plan n → n ≡ length (name_in (layout_in p) (pos k.number))
  planned_length n m = m.length_is ∙ ap length planned_text
