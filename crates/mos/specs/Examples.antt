-- Worked examples of the definitions: inputs and answers, and one theorem that each definition gives its column.
-- Those of document 01's bench are named with their chain code, octave and tritave; most others are the original's.
use Rattle.std.specs.Prelude.{ℕ, ◌≡◌, Bool, true, false, List, [], ◌∷◌, map, ℤ, pos, negsuc, Option, None, Some}
use Rattle.answer.specs.Outcome.{Outcome, given, refused}
use Rattle.mos.specs.declared.Mos.{Mos}
use Rattle.mos.specs.Patterns.{mos, is_pattern, genesis, child_of, parent_of, dual_of, mirror_of, sharpness_of, cycles_of, reduced_size_of, key_at}
use Rattle.mos.specs.Walks.{children, parents, first_with, genesis_of}
use Rattle.mos.specs.Answers.{of_pattern, genesis_outcome, coprime_outcome, listing_outcome}
use Rattle.mos.specs.Scale.{interval, round, climbed}

-- The pattern with as many steps as a chain has letters.
pub record SearchExample : Type 0 where
  pub period : ℕ
  pub generator : ℕ
  pub letters : ℕ
  pub pattern : Option Mos

abbrev pub search_examples : List SearchExample
search_examples =
    -- 1 12 19: counts 5 and 2, steps 2 and 1
    record { period = 12; generator = 7; letters = 7; pattern = Some (mos 5 2 2 1) }
    -- 1 31 49: steps 5 and 3
    ∷ record { period = 31; generator = 18; letters = 7; pattern = Some (mos 5 2 5 3) }
    -- 1 19 30
    ∷ record { period = 19; generator = 11; letters = 7; pattern = Some (mos 5 2 3 2) }
    -- 0 12 19: none, so 4
    ∷ record { period = 12; generator = 7; letters = 9; pattern = None }
    -- 1 24 38
    ∷ record { period = 24; generator = 14; letters = 7; pattern = Some (mos 5 2 4 2) }
    -- 5 19 30: counts 4 and 3, steps 4 and 1
    ∷ record { period = 19; generator = 14; letters = 7; pattern = Some (mos 4 3 4 1) }
    -- 1 7 11: equalized
    ∷ record { period = 7; generator = 4; letters = 7; pattern = Some (mos 5 2 1 1) }
    -- 3 15 24
    ∷ record { period = 15; generator = 2; letters = 8; pattern = Some (mos 7 1 2 1) }
    -- 0 16 25
    ∷ record { period = 16; generator = 9; letters = 9; pattern = Some (mos 7 2 2 1) }
    -- a generator that is a multiple of the period
    ∷ record { period = 5; generator = 10; letters = 2; pattern = Some (mos 1 1 0 5) }
    ∷ record { period = 5; generator = 10; letters = 3; pattern = None }
    ∷ []

-- A pattern with its child, its parent and its genesis.
pub record FamilyExample : Type 0 where
  pub pattern : Mos
  pub child : Option Mos
  pub parent : Option Mos
  pub genesis : Mos

abbrev pub family_examples : List FamilyExample
family_examples =
    record { pattern = mos 1 1 7 5; child = Some (mos 1 2 2 5); parent = None; genesis = mos 1 1 7 5 }
    ∷ record { pattern = mos 1 2 2 5; child = Some (mos 3 2 2 3); parent = Some (mos 1 1 7 5); genesis = mos 1 1 7 5 }
    ∷ record { pattern = mos 5 2 2 1; child = Some (mos 5 7 1 1); parent = Some (mos 3 2 2 3); genesis = mos 1 1 7 5 }
    ∷ record { pattern = mos 5 7 1 1; child = None; parent = Some (mos 5 2 2 1); genesis = mos 1 1 7 5 }
    ∷ record { pattern = mos 5 2 1 0; child = None; parent = Some (mos 3 2 1 1); genesis = mos 1 1 3 2 }
    ∷ record { pattern = mos 2 5 1 0; child = None; parent = Some (mos 2 3 1 0); genesis = mos 1 1 1 1 }
    ∷ record { pattern = mos 0 3 5 2; child = Some (mos 0 3 3 2); parent = None; genesis = mos 0 3 5 2 }
    ∷ []

-- A pattern with its dual, its mirror, sharpness, cycles and reduced size; `negsuc 1` is −2.
pub record NumbersExample : Type 0 where
  pub pattern : Mos
  pub dual : Mos
  pub mirror : Mos
  pub sharpness : ℤ
  pub cycles : ℕ
  pub reduced : ℕ

abbrev pub numbers_examples : List NumbersExample
numbers_examples =
    record { pattern = mos 5 2 5 3; dual = mos 5 3 5 2; mirror = mos 2 5 3 5; sharpness = pos 2; cycles = 1; reduced = 31 }
    ∷ record { pattern = mos 2 5 4 6; dual = mos 4 6 2 5; mirror = mos 5 2 6 4; sharpness = negsuc 1; cycles = 2; reduced = 19 }
    ∷ record { pattern = mos 5 2 0 0; dual = mos 0 0 5 2; mirror = mos 2 5 0 0; sharpness = pos 0; cycles = 1; reduced = 0 }
    ∷ []

-- Question 7.
pub record SizeExample : Type 0 where
  pub pattern : Mos
  pub fits : Bool

abbrev pub size_examples : List SizeExample
size_examples =
    record { pattern = mos 5 2 2 1; fits = true }
    ∷ record { pattern = mos 200 200 200 200; fits = false }
    ∷ record { pattern = mos 1 1 65535 0; fits = true }
    ∷ record { pattern = mos 1 1 65535 1; fits = false }
    ∷ record { pattern = mos 40000 40000 1 0; fits = true }
    ∷ []

-- `coprime`: the pattern after it, or the number of the question.
pub record CoprimeExample : Type 0 where
  pub pattern : Mos
  pub outcome : Outcome Mos

abbrev pub coprime_examples : List CoprimeExample
coprime_examples =
    record { pattern = mos 5 2 3 2; outcome = given (mos 5 2 3 2) }
    ∷ record { pattern = mos 5 2 4 2; outcome = given (mos 5 2 4 3) }
    ∷ record { pattern = mos 2 5 2 4; outcome = given (mos 2 5 2 3) }
    ∷ record { pattern = mos 2 5 2 2; outcome = given (mos 2 5 2 1) }
    ∷ record { pattern = mos 2 5 6 2; outcome = given (mos 2 5 6 5) }
    ∷ record { pattern = mos 2 1 12 36; outcome = given (mos 2 1 12 13) }
    ∷ record { pattern = mos 3 2 0 0; outcome = given (mos 3 2 0 0) }
    ∷ record { pattern = mos 1 60000 4 0; outcome = refused 8 }
    ∷ record { pattern = mos 200 200 200 200; outcome = refused 7 }
    ∷ []

-- The key of so many primary and secondary steps, on the pattern 5 2 5 3.
pub record KeyExample : Type 0 where
  pub p : ℤ
  pub s : ℤ
  pub key : ℤ

abbrev pub key_examples : List KeyExample
key_examples =
    record { p = negsuc 1; s = negsuc 1; key = negsuc 15 }
    ∷ record { p = negsuc 1; s = negsuc 0; key = negsuc 12 }
    ∷ record { p = negsuc 0; s = pos 0; key = negsuc 4 }
    ∷ record { p = pos 0; s = pos 2; key = pos 6 }
    ∷ record { p = pos 1; s = pos 2; key = pos 11 }
    ∷ []

-- An interval class of the diatonic scale in 12 keys, with its interval above each of F C G D A E B.
pub record ClassExample : Type 0 where
  pub steps : ℕ
  pub intervals : List ℕ

abbrev pub class_examples : List ClassExample
class_examples =
    -- seconds, thirds, fourths, fifths, sixths, sevenths
    record { steps = 1; intervals = 2 ∷ 2 ∷ 2 ∷ 2 ∷ 2 ∷ 1 ∷ 1 ∷ [] }
    ∷ record { steps = 2; intervals = 4 ∷ 4 ∷ 4 ∷ 3 ∷ 3 ∷ 3 ∷ 3 ∷ [] }
    ∷ record { steps = 3; intervals = 6 ∷ 5 ∷ 5 ∷ 5 ∷ 5 ∷ 5 ∷ 5 ∷ [] }
    ∷ record { steps = 4; intervals = 7 ∷ 7 ∷ 7 ∷ 7 ∷ 7 ∷ 7 ∷ 6 ∷ [] }
    ∷ record { steps = 5; intervals = 9 ∷ 9 ∷ 9 ∷ 9 ∷ 8 ∷ 8 ∷ 8 ∷ [] }
    ∷ record { steps = 6; intervals = 11 ∷ 11 ∷ 10 ∷ 10 ∷ 10 ∷ 10 ∷ 10 ∷ [] }
    ∷ []

-- Theorem: the definitions give what the examples say.
pub record ExamplesHold : Type 0 where
  pub searches : map (λ (e : SearchExample). first_with e.letters (children (genesis e.period e.generator))) search_examples
      ≡ map (λ (e : SearchExample). e.pattern) search_examples
  pub child : map (λ (e : FamilyExample). child_of e.pattern) family_examples ≡ map (λ (e : FamilyExample). e.child) family_examples
  pub parent : map (λ (e : FamilyExample). parent_of e.pattern) family_examples ≡ map (λ (e : FamilyExample). e.parent) family_examples
  pub genesis_of_lem : map (λ (e : FamilyExample). genesis_of e.pattern) family_examples ≡ map (λ (e : FamilyExample). e.genesis) family_examples
  pub dual : map (λ (e : NumbersExample). dual_of e.pattern) numbers_examples ≡ map (λ (e : NumbersExample). e.dual) numbers_examples
  pub mirror : map (λ (e : NumbersExample). mirror_of e.pattern) numbers_examples ≡ map (λ (e : NumbersExample). e.mirror) numbers_examples
  pub sharpness : map (λ (e : NumbersExample). sharpness_of e.pattern) numbers_examples
      ≡ map (λ (e : NumbersExample). e.sharpness) numbers_examples
  pub cycles : map (λ (e : NumbersExample). cycles_of e.pattern) numbers_examples ≡ map (λ (e : NumbersExample). e.cycles) numbers_examples
  pub reduced : map (λ (e : NumbersExample). reduced_size_of e.pattern) numbers_examples ≡ map (λ (e : NumbersExample). e.reduced) numbers_examples
  pub fits : map (λ (e : SizeExample). is_pattern e.pattern) size_examples ≡ map (λ (e : SizeExample). e.fits) size_examples
  pub coprimes : map (λ (e : CoprimeExample). coprime_outcome e.pattern) coprime_examples
      ≡ map (λ (e : CoprimeExample). e.outcome) coprime_examples
  pub keys : map (λ (e : KeyExample). key_at (mos 5 2 5 3) e.p e.s) key_examples ≡ map (λ (e : KeyExample). e.key) key_examples
  -- the whole walks of the fifth in 12 keys, and a listing that has no room for the last number
  pub walk : children (genesis 12 7) ≡ mos 1 1 7 5 ∷ mos 1 2 2 5 ∷ mos 3 2 2 3 ∷ mos 5 2 2 1 ∷ mos 5 7 1 1 ∷ []
  pub walk_back : parents (mos 5 2 2 1) ≡ mos 5 2 2 1 ∷ mos 3 2 2 3 ∷ mos 1 2 2 5 ∷ mos 1 1 7 5 ∷ []
  pub listing : listing_outcome (mos 3 2 2 3) (children (mos 3 2 2 3)) 12
      ≡ given (3 ∷ 2 ∷ 2 ∷ 3 ∷ 5 ∷ 2 ∷ 2 ∷ 1 ∷ 5 ∷ 7 ∷ 1 ∷ 1 ∷ [])
  pub no_room : listing_outcome (mos 3 2 2 3) (children (mos 3 2 2 3)) 11 ≡ refused 10
  -- questions 2 and 7
  pub reduced_generator : genesis_outcome 12 19 ≡ given (mos 1 1 7 5)
  pub no_period : genesis_outcome 0 7 ≡ refused 2
  pub no_pattern : of_pattern (mos 256 0 256 0) (child_of (mos 256 0 256 0)) ≡ refused 7
  -- the diatonic scale F C G D A E B, in order of pitch: F G A B C D E
  pub diatonic : map (round (mos 5 2 2 1)) (0 ∷ 1 ∷ 2 ∷ 3 ∷ 4 ∷ 5 ∷ 6 ∷ 7 ∷ []) ≡ 0 ∷ 2 ∷ 4 ∷ 6 ∷ 1 ∷ 3 ∷ 5 ∷ 0 ∷ []
  pub pitches : map (climbed (mos 5 2 2 1)) (0 ∷ 1 ∷ 2 ∷ 3 ∷ 4 ∷ 5 ∷ 6 ∷ 7 ∷ []) ≡ 0 ∷ 2 ∷ 4 ∷ 6 ∷ 7 ∷ 9 ∷ 11 ∷ 12 ∷ []
  -- its interval classes have two sizes each, and one where both steps are equal
  pub classes : map (λ (e : ClassExample). map (λ (j : ℕ). interval (mos 5 2 2 1) j e.steps) (0 ∷ 1 ∷ 2 ∷ 3 ∷ 4 ∷ 5 ∷ 6 ∷ [])) class_examples
      ≡ map (λ (e : ClassExample). e.intervals) class_examples
  pub one_size : map (λ (j : ℕ). interval (mos 5 2 1 1) j 2) (0 ∷ 1 ∷ 2 ∷ 3 ∷ 4 ∷ 5 ∷ 6 ∷ []) ≡ 2 ∷ 2 ∷ 2 ∷ 2 ∷ 2 ∷ 2 ∷ 2 ∷ []
