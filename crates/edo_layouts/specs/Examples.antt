-- Worked examples, and one theorem that the definitions give them.
use Rattle.std.specs.Prelude.{ℕ, Bool, true, false, List, [], ◌∷◌, map, ◌≡◌}
use Rattle.answer.specs.Outcome.{Outcome, given, refused}
use Rattle.mos.specs.declared.Mos.{Mos}
use Rattle.mos.specs.Patterns.{mos}
use Rattle.edo_layouts.specs.declared.EdoLayout.{EdoLayout}
use Rattle.edo_layouts.specs.Layouts.{edo_layout, chain_outcome, find_by_edo}

pub record ListExample : Type 0 where
  pub steps : ℕ
  pub layouts : Outcome (List ℕ)

-- Of each layout the chain's code, the tritave, and 1 for the second choice.
abbrev pub list_examples : List ListExample
list_examples =
    -- 12 gives Meantone[7] and Meantone[5] with 19; 31 with 49
    record { steps = 12; layouts = given (1 ∷ 19 ∷ 0 ∷ 2 ∷ 19 ∷ 0 ∷ []) }
    ∷ record { steps = 31; layouts = given (1 ∷ 49 ∷ 0 ∷ 2 ∷ 49 ∷ 0 ∷ []) }
    -- the second choice serves two chains of 13, and one of 16
    ∷ record { steps = 13; layouts = given (0 ∷ 20 ∷ 1 ∷ 1 ∷ 20 ∷ 1 ∷ 2 ∷ 21 ∷ 0 ∷ 4 ∷ 21 ∷ 0 ∷ []) }
    ∷ record { steps = 16; layouts = given (0 ∷ 25 ∷ 0 ∷ 1 ∷ 25 ∷ 0 ∷ 2 ∷ 25 ∷ 0 ∷ 3 ∷ 26 ∷ 1 ∷ []) }
    -- no chain has a layout
    ∷ record { steps = 2; layouts = given [] }
    ∷ record { steps = 0; layouts = refused 15 }
    ∷ record { steps = 401; layouts = refused 15 }
    ∷ []

pub record ChainExample : Type 0 where
  pub steps : ℕ
  pub chain : ℕ
  pub layout : Outcome EdoLayout

abbrev pub of : (code octave tritave start : ℕ) → Bool → Mos → Outcome EdoLayout
of code octave tritave start second pattern =
    given (edo_layout (record { genchain = code; octave = octave; tritave = tritave; start = start }) second pattern)

abbrev pub chain_examples : List ChainExample
chain_examples =
    record { steps = 12; chain = 1; layout = of 1 12 19 3 false (mos 5 2 2 1) }
    ∷ record { steps = 13; chain = 0; layout = of 0 13 20 4 true (mos 7 2 1 3) }
    ∷ record { steps = 13; chain = 2; layout = of 2 13 21 2 false (mos 3 2 3 2) }
    -- no pattern, and no whole generator; with a second choice that gives no layout either, the refusal is the first's
    ∷ record { steps = 12; chain = 0; layout = refused 4 }
    ∷ record { steps = 12; chain = 3; layout = refused 3 }
    ∷ record { steps = 1; chain = 0; layout = refused 4 }
    -- no chain; 15 goes before 1 and 2
    ∷ record { steps = 12; chain = 6; layout = refused 1 }
    ∷ record { steps = 401; chain = 6; layout = refused 15 }
    ∷ record { steps = 0; chain = 1; layout = refused 15 }
    ∷ []

-- Theorem.
pub record ExamplesHold : Type 0 where
  pub chains : map (λ (e : ChainExample). chain_outcome e.steps e.chain) chain_examples
      ≡ map (λ (e : ChainExample). e.layout) chain_examples
  pub lists : map (λ (e : ListExample). find_by_edo e.steps) list_examples ≡ map (λ (e : ListExample). e.layouts) list_examples
