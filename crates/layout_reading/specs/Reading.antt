-- Reading a spelling: from the bytes alone, the letter of the chain, the sharps or flats and the stars, and whether they are the whole
-- text, as the naming call writes them (document 01, "Pergen and spelling", the paragraph "Name"). `letters` are a chain's code points,
-- `sharp_first` says which signs are used.
use Rattle.std.specs.Prelude.{ℕ, suc, ◌+◌, Bool, true, false, ◌&&◌, List, [], ◌∷◌, length, drop, eqb, ltb}
use Rattle.answer.specs.Choice.{pick}
use Rattle.answer.specs.Outcome.{Outcome, given, ask}
use Rattle.pergen.specs.declared.Signs.{Signs}
use Rattle.pergen.specs.declared.Signs.TheVariants.{Sharps, Flats}
use Rattle.pergen.specs.declared.Spelling.{Spelling}
use Rattle.notes.specs.Names.{sharp_sign, flat_sign, signs_in, letter_text}
use Rattle.notes.specs.Reading.{past_letter, leading}

-- ---- texts

-- Do these bytes stand at the front of a text?
unfoldable pub in_front : List ℕ → List ℕ → Bool
in_front [] text = true
in_front (b ∷ bytes) [] = false
in_front (b ∷ bytes) (x ∷ text) = pick (eqb x b) (in_front bytes text) false

-- How many bytes stand before the first byte b; the text's length where it holds none.
unfoldable pub bytes_before : ℕ → List ℕ → ℕ
bytes_before b [] = 0
bytes_before b (x ∷ text) = pick (eqb x b) 0 (suc (bytes_before b text))

-- ---- what stands in a text

-- The index along the chain of the letter that a text begins with; the number of letters where it begins with none of them.
unfoldable pub letter_index : List ℕ → List ℕ → ℕ
unfolding in_front letter_text
letter_index [] text = 0
letter_index (c ∷ letters) text = pick (in_front (letter_text c) text) 0 (suc (letter_index letters text))

-- Sharps or flats: a text begins with one kind of sign at most.
abbrev pub signs_from : (sharps flats : ℕ) → Signs
signs_from sharps flats = pick (eqb flats 0) (Sharps sharps) (Flats flats)

-- "a letter of the chain, then sharps or flats in the layout's own signs, .. then stars": 42 is *
unfoldable pub spelling_in_front : List ℕ → Bool → List ℕ → Spelling
unfolding letter_index past_letter leading
spelling_in_front letters sharp_first text =
    let marks = past_letter text in
    let sharps = leading (sharp_sign sharp_first) marks in
    let flats = leading (flat_sign sharp_first) marks in
    record {
      index = letter_index letters text;
      signs = signs_from sharps flats;
      stars = leading 42 (drop (sharps + flats) marks);
    }

-- ---- whether that is the whole text

-- It begins with a letter, and behind the letter stand these signs and stars and no byte more. "any number" of signs: as many as the record
-- of a spelling holds, 32 bits. A text of 2³² signs or more, which is longer than 4 GB, is no spelling's.
unfoldable pub is_whole : List ℕ → List ℕ → Spelling → Bool
unfolding past_letter
is_whole letters text x =
    ltb x.index (length letters)
    && (eqb (signs_in x.signs + x.stars) (length (past_letter text)) && ltb (signs_in x.signs) 4294967296)

-- 23. Is the text a spelling's?
unfoldable pub read_spelling : List ℕ → Bool → List ℕ → Outcome Spelling
unfolding spelling_in_front is_whole
read_spelling letters sharp_first text =
    let x = spelling_in_front letters sharp_first text in
    ask 23 (is_whole letters text x) (given x)
