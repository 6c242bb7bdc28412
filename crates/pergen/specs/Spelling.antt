-- The two spellings of a key, the place of any spelling on the chain, and the key that it sounds
-- (document 01, "Pergen and spelling"). N is the number of symbols, d the origin plus the degree.
use Rattle.std.specs.Prelude.{ℕ, suc, ◌+◌, ◌-◌, ◌/◌, ◌%◌, eqb, ltb, leb, ℤ, pos, negsuc, neg_ℤ, ◌+ℤ◌, ◌-ℤ◌, ◌*ℤ◌, Option, unwrap_or}
use Rattle.answer.specs.Choice.{pick}
use Rattle.math.specs.Division.{remainder}
use Rattle.pergen.specs.Pergen.{reduced, key_degree, cycle_of}
use Rattle.pergen.specs.declared.Accidentals.{Accidentals}
use Rattle.pergen.specs.declared.Signs.{Signs}
use Rattle.pergen.specs.declared.Signs.TheVariants.{Sharps, Flats}
use Rattle.pergen.specs.declared.Spelling.{Spelling}

-- ---- R at least N

-- "sharp coordinate d mod R"
unfoldable pub sharp_coordinate : ℕ → ℕ → ℕ
sharp_coordinate R d = d % R

-- "flat coordinate (N − 1 − d) mod R", not negative
unfoldable pub flat_coordinate : ℕ → ℕ → ℕ → ℕ
flat_coordinate R N d = remainder (pos N -ℤ pos 1 -ℤ pos d) R

-- "The sharp index and count are remainder and quotient by N. The flat index is N − 1 less the remainder; the flat count is the quotient."
unfoldable pub by_coordinates : Option ℕ → ℕ → ℕ → ℕ → Accidentals
by_coordinates c N sharp flat =
    record {
      cycle = c;
      sharp_index = sharp % N;
      sharp_count = sharp / N;
      flat_index = N - 1 - flat % N;
      flat_count = flat / N;
    }

-- ---- R below N

-- "Sharp index d, less R if d is at least N."
unfoldable pub low_sharp_index : ℕ → ℕ → ℕ → ℕ
low_sharp_index R N d = pick (leb N d) (d - R) d

-- "Flat index d − R, or d if that is negative or the degree is 0."
unfoldable pub low_flat_index : ℕ → ℕ → ℕ → ℕ
low_flat_index R d degree = pick (eqb degree 0) d (pick (ltb d R) d (d - R))

-- "both counts 0"
unfoldable pub by_indices : Option ℕ → ℕ → ℕ → Accidentals
by_indices c sharp flat =
    record { cycle = c; sharp_index = sharp; sharp_count = 0; flat_index = flat; flat_count = 0 }

-- ---- both

-- Of a degree and a cycle, by the reduced period, the number of symbols and the origin.
unfoldable pub accidentals_of : ℕ → ℕ → ℕ → ℕ → Option ℕ → Accidentals
unfolding sharp_coordinate flat_coordinate by_coordinates low_sharp_index low_flat_index by_indices
accidentals_of R N origin degree c =
    let d = origin + degree in
    pick (leb N R)
    (by_coordinates c N (sharp_coordinate R d) (flat_coordinate R N d))
    (by_indices c (low_sharp_index R N d) (low_flat_index R d degree))

-- The two spellings of a key.
unfoldable pub key_accidentals : ℕ → ℕ → ℕ → ℕ → ℤ → Accidentals
unfolding accidentals_of reduced key_degree cycle_of
key_accidentals P G N origin key = accidentals_of (reduced P G) N origin (key_degree P G key) (cycle_of P G key)

-- ---- any spelling: an index, a number of sharps or of flats, and stars

-- A number of signs as one signed number: sharps above 0, flats below; `negsuc k` is −1 − k. So no number has both kinds.
abbrev pub signs_of : ℤ → Signs
signs_of (pos k) = Sharps k
signs_of (negsuc k) = Flats (suc k)

-- N × sharps, or − N × flats
abbrev pub shift : ℕ → Signs → ℤ
shift N (Sharps k) = pos N *ℤ pos k
shift N (Flats k) = neg_ℤ (pos N *ℤ pos k)

-- "A spelling's place is index + N × sharps − origin, or index − N × flats − origin"
unfoldable pub place : ℕ → ℕ → Spelling → ℤ
place N origin s = pos s.index +ℤ shift N s.signs -ℤ pos origin

-- "it sounds key (G × place + stars) mod P of the octave, a remainder that is never negative"
unfoldable pub sounds : ℕ → ℕ → ℤ → ℕ → ℕ
sounds P G place stars = remainder (pos G *ℤ place +ℤ pos stars) P

-- The key of the octave that a spelling sounds.
unfoldable pub sounded_key : ℕ → ℕ → ℕ → ℕ → Spelling → ℕ
unfolding sounds place
sounded_key P G N origin s = sounds P G (place N origin s) s.stars

-- "each with the cycle number as its stars, 0 if absent"
abbrev pub stars_of : Option ℕ → ℕ
stars_of cycle = unwrap_or cycle 0

-- The sharp and the flat spelling that a key's accidentals hold.
unfoldable pub sharp_spelling : Accidentals → Spelling
sharp_spelling a = record { index = a.sharp_index; signs = Sharps a.sharp_count; stars = stars_of a.cycle }

unfoldable pub flat_spelling : Accidentals → Spelling
flat_spelling a = record { index = a.flat_index; signs = Flats a.flat_count; stars = stars_of a.cycle }
