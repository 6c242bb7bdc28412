-- What the parts behind the calls promise, and what they ask: the definitions of this crate, by the numbers that the code carries.
use Rattle.std.specs.Prelude.{ℕ, ◌≡◌, false, ℤ, pos, Result, Ok, Err}
use Rattle.answer.specs.Outcome.{Outcome, given, refused}
use Rattle.answer.specs.Refusals.{number_of}
use Rattle.answer.specs.declared.Refusal.{Refusal}
use Rattle.genchain.specs.Chains.{chain_of}
use Rattle.math.specs.Division.{remainder}
use Rattle.mos.specs.declared.Mos.{Mos}
use Rattle.mos.specs.Patterns.{primaries, secondaries, primary, secondary}
use Rattle.notes.specs.declared.plans.NamePlan.{NamePlan}
use Rattle.notes.specs.Parts.{Planned}
use Rattle.pergen.specs.declared.Accidentals.{Accidentals}
use Rattle.pergen.specs.declared.euclid.Solved.{Solved}
use Rattle.pergen.specs.declared.stepping.Key.{Key}
use Rattle.pergen.specs.Spelling.{accidentals_of}
use Rattle.pergen.specs.Parts.{Going, solved_of, generation_from}
use Rattle.layout.specs.Layouts.{Layout, layout_outcome, Accepted, accidentals_in, sharp_first}
use Rattle.layout.specs.declared.IsomorphicLayout.{IsomorphicLayout}
use Rattle.layout.specs.declared.one_key.OneKey.{OneKey}
use Rattle.layout.specs.declared.parts.Found.{Found}
use Rattle.layout.specs.declared.prepared.Prepared.{Prepared}

-- The layout that the questions found.
abbrev pub layout_of : Found → Layout
layout_of f =
    record {
      chain = f.chain;
      octave = f.octave;
      generator = f.generator;
      letters = f.num_letters;
      start = f.start;
      pattern = f.pattern;
    }

abbrev pub found_outcome : Result Found Refusal → Outcome Layout
found_outcome (Ok f) = given (layout_of f)
found_outcome (Err q) = refused (number_of q)

-- What the parts ask of a layout: the questions have been asked, and gave it.
pub record Laid (l : Layout) : Type 0 where
  pub caller : IsomorphicLayout
  pub accepted : Accepted caller l

-- ---- a layout, made ready

-- The layout that it was made from.
abbrev pub layout_in : Prepared → Layout
layout_in p = layout_of p.found

-- What is made ready is an accepted layout, with what follows from its octave and generator.
pub record Ready (p : Prepared) : Type 0 where
  pub laid : Laid (layout_in p)
  pub solved_is : p.solved ≡ solved_of p.found.octave p.found.generator

-- The steps of a pattern are remainders of the extended Euclid of P and G: as many generators forward as there are secondary steps leave
-- the primary step, as many backward as there are primary steps the secondary one.
abbrev pub StepsLeft : (P G : ℕ) → Mos → Type 0
StepsLeft P G m = Going P G (primary m) (secondary m) (secondaries m) (primaries m) false

-- A plan of the name of a key: by its number, whatever it is, and of a key of the octave.
abbrev pub PlannedIn : Layout → ℤ → NamePlan → Type 0
PlannedIn l number plan = Planned (chain_of l.chain).letters (sharp_first l) (accidentals_in l number) plan

abbrev pub NamePlanned : Prepared → Key → NamePlan → Type 0
NamePlanned p k plan = PlannedIn (layout_in p) (pos k.number) plan

-- The spellings of key i of the octave, by what was solved.
abbrev pub spelled_by : Solved → (N start i : ℕ) → Accidentals
spelled_by s N start i = accidentals_of s.reduced_period N start (generation_from s i).degree (generation_from s i).cycle

-- One key of a caller's layout, brought round the octave.
abbrev pub KeyFound : IsomorphicLayout → ℤ → Result OneKey Refusal → Type 0
KeyFound r key (Ok k) = (given (layout_of k.found) ≡ layout_outcome r) × (k.number ≡ remainder key k.found.octave)
KeyFound r key (Err q) = refused (number_of q) ≡ layout_outcome r
