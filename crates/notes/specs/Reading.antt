-- A reader of names: from the bytes alone, the first printed spelling's letter and signs, and the stars.
use Rattle.std.specs.Prelude.{ℕ, suc, ◌+◌, ◌-◌, ◌*◌, Bool, List, [], ◌∷◌, drop, eqb, ltb}
use Rattle.answer.specs.Choice.{pick}
use Rattle.pergen.specs.declared.Signs.{Signs}
use Rattle.pergen.specs.declared.Signs.TheVariants.{Sharps, Flats}
use Rattle.pergen.specs.declared.Spelling.{Spelling}
use Rattle.notes.specs.Names.{sharp_sign, flat_sign, letter_at}

pub record Reading : Type 0 where
  -- a code point
  pub letter : ℕ
  pub sharps : ℕ
  pub flats : ℕ
  pub stars : ℕ

-- The text without an opening parenthesis.
unfoldable pub past_parenthesis : List ℕ → List ℕ
past_parenthesis [] = []
past_parenthesis (b ∷ text) = pick (eqb b 40) text (b ∷ text)

-- The code point that a text begins with: a byte below 128, or two bytes.
unfoldable pub read_letter : List ℕ → ℕ
read_letter [] = 0
read_letter (b ∷ []) = b
read_letter (b ∷ c ∷ text) = pick (ltb b 128) b ((b - 192) * 64 + (c - 128))

-- The text behind it.
unfoldable pub past_letter : List ℕ → List ℕ
past_letter [] = []
past_letter (b ∷ text) = pick (ltb b 128) text (drop 1 text)

-- How often a byte stands at the front, without another between.
unfoldable pub leading : ℕ → List ℕ → ℕ
leading b [] = 0
leading b (x ∷ text) = pick (eqb x b) (suc (leading b text)) 0

-- How often a byte stands in the text.
unfoldable pub count : ℕ → List ℕ → ℕ
count b [] = 0
count b (x ∷ text) = pick (eqb x b) 1 0 + count b text

unfoldable pub read_name : Bool → List ℕ → Reading
unfolding past_parenthesis read_letter past_letter leading count
read_name sharp_first text =
    let name = past_parenthesis text in
    record {
      letter = read_letter name;
      sharps = leading (sharp_sign sharp_first) (past_letter name);
      flats = leading (flat_sign sharp_first) (past_letter name);
      stars = count 42 text;
    }

-- ---- what a spelling holds

abbrev pub sharps_in : Signs → ℕ
sharps_in (Sharps k) = k
sharps_in (Flats k) = 0

abbrev pub flats_in : Signs → ℕ
flats_in (Sharps k) = 0
flats_in (Flats k) = k

unfoldable pub reading_of : List ℕ → Spelling → Reading
unfolding letter_at
reading_of letters s =
    record { letter = letter_at letters s.index; sharps = sharps_in s.signs; flats = flats_in s.signs; stars = s.stars }
