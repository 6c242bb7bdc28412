-- What holds of every retuning between accepted layouts, of every spelling, and of the table. Proofs: proofs/.
use Rattle.std.specs.Prelude.{ℕ, ◌+◌, ◌*◌, ◌<◌, ◌≤◌, ◌↔◌, ◌≡◌, pos, nat_abs, ◌-ℤ◌, length, get_or}
use mathlib.Core.List.{List, Memᴰ}
use Rattle.answer.specs.Outcome.{given}
use Rattle.pergen.specs.declared.Spelling.{Spelling}
use Rattle.layout.specs.Layouts.{Layout, Accepted, letters_of}
use Rattle.layout.specs.Names.{place_in}
use Rattle.layout.specs.Answers.{get_sounded_key}
use Rattle.layout_reach.specs.Reach.{distance}
use Rattle.layout_retuning.specs.Retunings.{first_of, second_of, moved, table_spelling}
use Rattle.layout_retuning.specs.Answers.{get_moved, get_move_table, get_largest_move}
use Rattle.layout_retuning.specs.declared.Retuning.{Retuning}

-- ---- a spelling's move

-- A spelling is answered with a move exactly where each of the two layouts answers it with a key, and the move is then the distance of the
-- two keys round the octave.
abbrev pub MovesAreDistances : Type 0
MovesAreDistances =
    (t : Retuning) (x : Spelling) (n : ℕ)
    → (get_moved t x ≡ given n)
    ↔ ((a : ℕ) × (b : ℕ) × (get_sounded_key (first_of t) x ≡ given a) × (get_sounded_key (second_of t) x ≡ given b)
    × (n ≡ distance t.octave (pos a) (pos b)))

-- How far apart two generators are.
abbrev pub difference : ℕ → ℕ → ℕ
difference G H = nat_abs (pos G -ℤ pos H)

-- Of a letter with any number of sharps or of flats, and any stars:
pub record MovesAre (l m : Layout) (x : Spelling) : Type 0 where
  -- its place is the same in both layouts;
  pub one_place : place_in l x ≡ place_in m x
  -- "It never moves more than the distance of its place from 0, times the difference of the generators."
  pub bounded : moved l m x ≤ nat_abs (place_in l x) * difference l.generator m.generator
  -- nor more than half the octave;
  pub half : 2 * moved l m x ≤ l.octave
  -- at the place 0 it stays where it is;
  pub home : place_in l x ≡ pos 0 → moved l m x ≡ 0
  -- only the place counts,
  pub by_place : (y : Spelling) → place_in l x ≡ place_in l y → moved l m x ≡ moved l m y
  -- so the stars do not.
  pub stars_aside : (stars : ℕ) → moved l m x ≡ moved l m (record { index = x.index; signs = x.signs; stars = stars })

abbrev pub MovesAreBounded : Type 0
MovesAreBounded =
    (t : Retuning) (l m : Layout) → Accepted (first_of t) l → Accepted (second_of t) m → (x : Spelling) → MovesAre l m x

-- ---- back again

-- The same two tunings, exchanged.
abbrev pub back : Retuning → Retuning
back t =
    record {
      genchain = t.genchain;
      octave = t.octave;
      start = t.start;
      from_tritave = t.to_tritave;
      to_tritave = t.from_tritave;
    }

pub record AsFarBack (t : Retuning) : Type 0 where
  pub moves : (x : Spelling) → get_moved (back t) x ≡ get_moved t x
  pub table : get_move_table (back t) ≡ get_move_table t
  pub most : get_largest_move (back t) ≡ get_largest_move t

-- Where both layouts are accepted, all answers stay, refusals with 16 and 21 too. (Of two layouts that are refused the first is told.)
abbrev pub BackIsAsFar : Type 0
BackIsAsFar = (t : Retuning) (l m : Layout) → Accepted (first_of t) l → Accepted (second_of t) m → AsFarBack t

-- ---- the table

-- Its entries are what single calls answer, letter by letter, from eight flats (j is 0) to eight sharps (j is 16), and no others.
pub record OfSingleCalls (t : Retuning) (table : List ℕ) : Type 0 where
  pub long : length table ≡ letters_of t.genchain * 17
  pub each : (letter j : ℕ) → letter < letters_of t.genchain → j < 17
      → get_moved t (table_spelling letter j) ≡ given (get_or table (letter * 17 + j) 0)

abbrev pub TableIsOfSingleCalls : Type 0
TableIsOfSingleCalls = (t : Retuning) (table : List ℕ) → get_move_table t ≡ given table → OfSingleCalls t table

-- A number of the list that none passes.
pub record IsLargest (table : List ℕ) (n : ℕ) : Type 0 where
  pub there : Memᴰ n table
  pub most : (k : ℕ) → Memᴰ k table → k ≤ n

-- That one is answered, and no other.
abbrev pub LargestIsTheLargest : Type 0
LargestIsTheLargest =
    (t : Retuning) (n : ℕ)
    → (get_largest_move t ≡ given n) ↔ ((table : List ℕ) × (get_move_table t ≡ given table) × IsLargest table n)
