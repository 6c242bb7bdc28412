-- The theorems on pergens and spellings, for any period above 0 and any generator. P is the period, G the generator,
-- `cycles P G` is n, `reduced P G` is R. Proofs: proofs/.
use Rattle.std.specs.Prelude.{ℕ, ◌+◌, ◌*◌, ◌≤◌, ◌<◌, ◌≡◌, ◌↔◌, ℤ, pos, ◌*ℤ◌}
use Rattle.math.specs.Division.{remainder, Apart}
use Rattle.pergen.specs.Pergen.{cycles, reduced, IsInverse, inverse, degree, cycle, shown, key_degree, key_cycle}
use Rattle.pergen.specs.Spelling.{signs_of, shift, accidentals_of, key_accidentals, place, sounds, sounded_key, sharp_spelling, flat_spelling}

-- The inverse exists and there is only one.
abbrev pub OneInverse : Type 0
OneInverse = (P G : ℕ) → 0 < P → IsInverse P G (inverse P G) × ((x : ℕ) → IsInverse P G x → x ≡ inverse P G)

-- Two places with stars below n sound one key of the octave exactly when their stars agree and the places differ by a
-- multiple of R: the spellings that sound one key are those R places apart, and no others.
abbrev pub SpellingsOfOneKey : Type 0
SpellingsOfOneKey =
    (P G : ℕ) → 0 < P → (u v : ℤ) (s t : ℕ) → s < cycles P G → t < cycles P G
    → (sounds P G u s ≡ sounds P G v t) ↔ ((s ≡ t) × Apart (reduced P G) u v)

-- "Answers for 0 and up are the old ones" (document 02, W-201): of a key number from 0 on, degree, cycle and spellings are those of
-- document 01's formulas, without a remainder first.
pub record OldAnswersStay (P G i : ℕ) : Type 0 where
  pub degree_stays : key_degree P G (pos i) ≡ degree P G i
  pub cycle_stays : key_cycle P G (pos i) ≡ cycle P G i
  pub spellings_stay : (N origin : ℕ)
      → key_accidentals P G N origin (pos i) ≡ accidentals_of (reduced P G) N origin (degree P G i) (shown (cycles P G) (cycle P G i))

abbrev pub KeysFromZeroOn : Type 0
KeysFromZeroOn = (P G : ℕ) → 0 < P → (i : ℕ) → OldAnswersStay P G i

-- A place that differs from a key's degree by a multiple of R, with the key's cycle as stars, sounds the key, and every key whole
-- octaves away: below 0 too.
abbrev pub DegreeSoundsKey : Type 0
DegreeSoundsKey =
    (P G : ℕ) → 0 < P → (key u : ℤ) → Apart (reduced P G) u (pos (key_degree P G key)) → sounds P G u (key_cycle P G key) ≡ remainder key P

-- Degree and cycle of two keys agree exactly when the keys are whole octaves apart.
abbrev pub DegreeAndCycleTellKeysApart : Type 0
DegreeAndCycleTellKeysApart =
    (P G : ℕ) → 0 < P → (x y : ℤ)
    → Apart P x y ↔ ((key_degree P G x ≡ key_degree P G y) × (key_cycle P G x ≡ key_cycle P G y))

-- Of a key's accidentals, with an origin below the number N of symbols (in both branches, R at least N and R below N):
module _ (P G N origin : ℕ) (key : ℤ) where
  -- the sharp and the flat place both differ from the degree by a multiple of R,
  abbrev pub PlacesOfTheDegree : Type 0
  PlacesOfTheDegree =
      Apart (reduced P G) (place N origin (sharp_spelling (key_accidentals P G N origin key))) (pos (key_degree P G key))
      × Apart (reduced P G) (place N origin (flat_spelling (key_accidentals P G N origin key))) (pos (key_degree P G key))

  -- so both spellings sound the key,
  abbrev pub SoundsOfTheKey : Type 0
  SoundsOfTheKey =
      (sounded_key P G N origin (sharp_spelling (key_accidentals P G N origin key)) ≡ remainder key P)
      × (sounded_key P G N origin (flat_spelling (key_accidentals P G N origin key)) ≡ remainder key P)

  -- and both indices are those of symbols.
  abbrev pub IndicesOfSymbols : Type 0
  IndicesOfSymbols =
      ((key_accidentals P G N origin key).sharp_index < N) × ((key_accidentals P G N origin key).flat_index < N)

  -- Two zero counts have equal indices: a key without signs has one letter.
  abbrev pub OneLetter : Type 0
  OneLetter =
      (key_accidentals P G N origin key).sharp_count ≡ 0
      → (key_accidentals P G N origin key).flat_count ≡ 0
      → (key_accidentals P G N origin key).sharp_index ≡ (key_accidentals P G N origin key).flat_index

abbrev pub AccidentalsSoundTheirKey : Type 0
AccidentalsSoundTheirKey =
    (P G N origin : ℕ) (key : ℤ) → 0 < P → origin < N
    → PlacesOfTheDegree P G N origin key × SoundsOfTheKey P G N origin key × IndicesOfSymbols P G N origin key

-- Where R is at least N.
abbrev pub LetterWithoutSigns : Type 0
LetterWithoutSigns = (P G N origin : ℕ) (key : ℤ) → 0 < P → origin < N → N ≤ reduced P G → OneLetter P G N origin key

-- There a key's two spellings together have at most (R + N − 1) div N signs.
abbrev pub FewSigns : Type 0
FewSigns =
    (P G N origin : ℕ) (key : ℤ) → 0 < P → origin < N → N ≤ reduced P G
    → N * ((key_accidentals P G N origin key).sharp_count + (key_accidentals P G N origin key).flat_count) < reduced P G + N

-- Signs that are told by one signed number z add N × z to a spelling's place, whether z is above or below 0.
abbrev pub SignsAddToThePlace : Type 0
SignsAddToThePlace = (N : ℕ) (z : ℤ) → shift N (signs_of z) ≡ pos N *ℤ z
