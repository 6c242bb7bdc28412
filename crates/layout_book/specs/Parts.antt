-- What the parts behind the calls promise: names without stars along the chain, the length of an octave's names, and two texts that grow
-- side by side in one slice, the pairs and the names.
use Rattle.std.specs.Prelude.{ℕ, ◌+◌, ◌*◌, ◌-◌, ◌/◌, ◌%◌, ◌≤◌, ◌<◌, ◌≡◌, List, ◌++◌, ltb, length}
use Rattle.answer.specs.Choice.{pick}
use Rattle.text.specs.Writing.{Room, Wrote, joined}
use Rattle.text.specs.LittleEndian.{le32}
use Rattle.book.specs.Books.{pair_text}
use Rattle.genchain.specs.Chains.{chain_of}
use Rattle.layout.specs.declared.prepared.Prepared.{Prepared}
use Rattle.layout.specs.Layouts.{Layout, sharp_first}
use Rattle.layout.specs.Names.{listed_name}
use Rattle.layout.specs.Parts.{layout_in}
use Rattle.notes.specs.Names.{letter_text, letter_at, name_text}
use Rattle.notes.specs.Parts.{starred_text, Planned}
use Rattle.notes.specs.declared.plans.NamePlan.{NamePlan}
use Rattle.pergen.specs.declared.Accidentals.{Accidentals}
use Rattle.pergen.specs.Pergen.{shown}
use Rattle.pergen.specs.Spelling.{by_coordinates}

-- A plan of the name that spellings have in a layout.
abbrev pub SpelledPlanned : Prepared → Accidentals → NamePlan → Type 0
SpelledPlanned p spelled plan = Planned (chain_of p.found.chain).letters (sharp_first (layout_in p)) spelled plan

-- ---- names without stars, along the chain: places are sharp coordinates, counted from the first letter on

-- The flat coordinate that goes with a sharp coordinate: "(N − 1 − d) mod R" where the sharp coordinate is d mod R.
unfoldable pub flat_beside : (R N sharp : ℕ) → ℕ
flat_beside R N sharp = pick (ltb sharp N) (N - 1 - sharp) (R + (N - 1) - sharp)

-- The spellings at a place, in cycle 0.
unfoldable pub place_at : Prepared → ℕ → Accidentals
unfolding by_coordinates flat_beside
place_at p place =
    let N = p.found.num_letters in
    by_coordinates (shown p.solved.num_cycles 0) N place (flat_beside p.solved.reduced_period N place)

-- The spellings at the next place, past the letters alone: each index is that of the next letter, and where the letters begin anew there is
-- a sharp more, or a flat less.
abbrev pub one_place_on : (N : ℕ) → Accidentals → Accidentals
one_place_on N a =
    record {
      cycle = a.cycle;
      sharp_index = (a.sharp_index + 1) % N;
      sharp_count = a.sharp_count + (a.sharp_index + 1) / N;
      flat_index = (a.flat_index + 1) % N;
      flat_count = a.flat_count - (a.flat_index + 1) / N;
    }

-- Indices of letters, one sharp more that fits 16 bits, and a flat to take away.
pub record CanGoOn (N : ℕ) (a : Accidentals) : Type 0 where
  pub sharp_inside : a.sharp_index < N
  pub sharps_fit : a.sharp_count + (a.sharp_index + 1) / N ≤ 65535
  pub flat_inside : a.flat_index < N
  pub flat_left : (a.flat_index + 1) / N ≤ a.flat_count

-- The name there.
unfoldable pub bare_at : Prepared → ℕ → List ℕ
unfolding place_at
bare_at p place = name_text (chain_of p.found.chain).letters (sharp_first (layout_in p)) (place_at p place)

-- A stretch of the chain, from the first letter with so many sharps on: past the letters alone, and inside the chain.
pub record Stretch (p : Prepared) (sharps end : ℕ) : Type 0 where
  pub past : 1 ≤ sharps
  pub inside : p.found.num_letters * sharps ≤ end
  pub end_inside : end ≤ p.solved.reduced_period

-- The names in it.
unfoldable pub stretch_name : Prepared → ℕ → ℕ → List ℕ
unfolding bare_at
stretch_name p sharps i = bare_at p (p.found.num_letters * sharps + i)

-- The letter at an index, as text.
unfoldable pub letter_in : (letters : List ℕ) → ℕ → List ℕ
letter_in letters index = letter_text (letter_at letters index)

-- ---- the names of an octave's keys

-- How long they are together, with a bound.
pub record NamesMeasured (p : Prepared) (n : ℕ) : Type 0 where
  pub length_is : n ≡ length (joined (listed_name (layout_in p)) p.found.octave)
  pub bound : n ≤ 39325 * 65535

-- ---- a book's pairs and names

-- All that stands behind the count of a layout's book.
abbrev pub entries_in : Layout → List ℕ
entries_in l = joined (pair_text (listed_name l) l.octave) l.octave ++ joined (listed_name l) l.octave

-- "an offset and a length (4 bytes each, least first)"
unfoldable pub numbers_text : ℕ → ℕ → List ℕ
numbers_text offset bytes = le32 offset ++ le32 bytes

-- What a number below 2¹⁶ is multiplied by, and then divided by 2³¹, in place of a division by the letters.
pub record Reciprocal (letters reciprocal : ℕ) : Type 0 where
  pub some : 0 < letters
  pub few : letters ≤ 9
  pub is : reciprocal ≡ 2147483648 / letters + 1

-- The pair of a planned name with so many stars, where the name of cycle 0 stands at `text`.
unfoldable pub starred_pair : NamePlan → ℕ → ℕ → List ℕ
unfolding numbers_text
starred_pair p text stars = numbers_text (text + length (joined (starred_text p) stars)) (length (starred_text p stars))

-- Room for the names of all cycles behind the pairs, at places that fit 32 bits.
pub record CyclesFit (slice : List ℕ) (p : NamePlan) (cycles pair text : ℕ) : Type 0 where
  pub apart : pair + 8 * cycles ≤ text
  pub room : Room slice text (joined (starred_text p) cycles)
  pub small : text + length (joined (starred_text p) cycles) < 4294967296

-- Two texts in one slice: `front` stands from `at` on and `text` from `behind` on; the next places are `place` and `next`.
pub record Beside (before : List ℕ) (at : ℕ) (front : List ℕ) (behind : ℕ) (text after : List ℕ) (place next : ℕ) : Type 0 where
  pub middle : List ℕ
  pub first : Wrote before at front middle place
  pub second : Wrote middle behind text after next
