-- The names of a layout's keys, and the key of the octave that a spelling in a layout sounds (document 01, "Pergen and spelling").
use Rattle.std.specs.Prelude.{ℕ, ◌<◌, List, ℤ, pos, Option}
use Rattle.genchain.specs.Chains.{chain_of}
use Rattle.notes.specs.Names.{printed, printed_text, name_text}
use Rattle.pergen.specs.declared.Spelling.{Spelling}
use Rattle.pergen.specs.Pergen.{cycle_of}
use Rattle.pergen.specs.Spelling.{place, sounded_key}
use Rattle.layout.specs.Layouts.{Layout, cycles_in, accidentals_in, sharp_first}

-- "a spelling there is a letter, whose index is counted from 0 along the chain, a number of sharps or of flats, 0 included, and
-- stars below n"
pub record IsSpelling (l : Layout) (x : Spelling) : Type 0 where
  pub letter : x.index < l.letters
  pub stars : x.stars < cycles_in l

-- Its place on the chain, counted from key 0's letter.
unfoldable pub place_in : Layout → Spelling → ℤ
unfolding place
place_in l x = place l.letters l.start x

-- The key of the octave that it sounds: "key (G × place + stars) mod P".
unfoldable pub key_of : Layout → Spelling → ℕ
unfolding sounded_key
key_of l x = sounded_key l.octave l.generator l.letters l.start x

-- "The spellings in a name are the ones printed"
unfoldable pub printed_in : Layout → ℤ → List Spelling
unfolding printed accidentals_in
printed_in l key = printed (sharp_first l) (accidentals_in l key)

-- The key's cycle: "i mod n, absent when n is 1". Its number is how many stars the name has.
abbrev pub cycle_in : Layout → ℤ → Option ℕ
cycle_in l key = cycle_of l.octave l.generator key

-- The text of a name that holds these spellings: one alone, or two with / between, in parentheses if a cycle is present; then the stars.
abbrev pub text_in : Layout → Option ℕ → List Spelling → List ℕ
text_in l c spellings = printed_text (chain_of l.chain).letters (sharp_first l) c spellings

-- The name of a key, as bytes.
unfoldable pub name_in : Layout → ℤ → List ℕ
unfolding name_text accidentals_in
name_in l key = name_text (chain_of l.chain).letters (sharp_first l) (accidentals_in l key)

-- The names of the keys from 0 on, as books and tables list them.
abbrev pub listed_name : Layout → ℕ → List ℕ
listed_name l key = name_in l (pos key)
