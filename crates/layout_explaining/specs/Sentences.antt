-- The explanation in words, three sentences that a pupil reads, each ended by a line feed:
--     F# stands 4 places up the chain from D: 4 × 7 keys up are key 4 of 12.
--     Gb stands 8 places down the chain from D: 8 × 7 keys down are key 4 of 12.
--     They are 12 places apart, and the chain comes round after 12: one key.
use Rattle.std.specs.Prelude.{ℕ, zero, suc, ◌/◌, Bool, true, false, List, [], ◌∷◌, ◌++◌, eqb, ltb, ℤ, pos, negsuc}
use Rattle.answer.specs.Choice.{pick}
use Rattle.text.specs.Decimal.{digits}
use Rattle.genchain.specs.Chains.{chain_of}
use Rattle.notes.specs.Names.{letter_text, letter_at}
use Rattle.layout.specs.Layouts.{Layout}
use Rattle.layout_explaining.specs.Words.{
  stands_word,
  place_word,
  up_word,
  down_word,
  from_word,
  begins_word,
  with_word,
  star_word,
  colon_word,
  times_word,
  keys_word,
  and_word,
  are_word,
  key_word,
  of_word,
  end_word,
  they_are_word,
  apart_word,
  after_word,
  times_the_word,
  after_which_word,
  one_key_word,
  two_keys_word,
  one_place_line,
  stars_differ_line,
}
use Rattle.layout_explaining.specs.declared.Standing.{Standing}
use Rattle.layout_explaining.specs.declared.Verdict.{Verdict}
use Rattle.layout_explaining.specs.declared.Verdict.TheVariants.{OneKey, OneChain, TwoChains}
use Rattle.layout_explaining.specs.declared.Explanation.{Explanation}

-- A word, and a number right behind it.
abbrev pub numbered : List ℕ → ℕ → List ℕ
numbered word n = word ++ digits n

-- One place, but two places: 115 is s
abbrev pub plural : ℕ → List ℕ
plural n = pick (eqb n 1) [] (115 ∷ [])

-- Up the chain is towards the sharps.
abbrev pub way_text : Bool → List ℕ
way_text true = up_word
way_text false = down_word

-- ---- where a spelling stands, and which key that is

-- Stars are told where there are any, "with 1 star".
unfoldable pub stars_text : ℕ → List ℕ
unfolding digits
stars_text stars = pick (eqb stars 0) [] (numbered with_word stars ++ star_word ++ plural stars)

-- Each is a key up, whichever way the places go: "and 1 up".
unfoldable pub raised_text : ℕ → List ℕ
unfolding digits
raised_text stars = pick (eqb stars 0) [] (numbered and_word stars ++ up_word)

-- "stands 4 places up the chain from D"
unfoldable pub where_text : (letter : List ℕ) (up : Bool) (n : ℕ) → List ℕ
unfolding digits
where_text letter up n = numbered stands_word n ++ place_word ++ plural n ++ way_text up ++ from_word ++ letter

-- ": 4 × 7 keys up": so many generators
unfoldable pub product_text : (generator : ℕ) (up : Bool) (n stars : ℕ) → List ℕ
unfolding digits raised_text
product_text generator up n stars =
    numbered colon_word n ++ numbered times_word generator ++ keys_word ++ way_text up ++ raised_text stars

-- "key 4 of 12."
unfoldable pub key_text : (key octave : ℕ) → List ℕ
unfolding digits
key_text key octave = numbered key_word key ++ numbered of_word octave ++ end_word

-- Of n places, up or down: all of it.
unfoldable pub moved_text : (letter : List ℕ) (generator octave : ℕ) (up : Bool) (n stars key : ℕ) → List ℕ
unfolding where_text stars_text product_text key_text
moved_text letter generator octave up n stars key =
    where_text letter up n ++ stars_text stars ++ product_text generator up n stars ++ are_word ++ key_text key octave

-- At the place 0 there is nothing to count: "D stands where counting begins: key 0 of 12."
unfoldable pub home_text : (octave stars key : ℕ) → List ℕ
unfolding stars_text key_text
home_text octave stars key = begins_word ++ stars_text stars ++ colon_word ++ key_text key octave

-- By the place.
unfoldable pub placed_text : (letter : List ℕ) (generator octave : ℕ) → ℤ → (stars key : ℕ) → List ℕ
unfolding home_text moved_text
placed_text letter generator octave (pos zero) stars key = home_text octave stars key
placed_text letter generator octave (pos (suc n)) stars key = moved_text letter generator octave true (suc n) stars key
placed_text letter generator octave (negsuc n) stars key = moved_text letter generator octave false (suc n) stars key

-- The sentence of a spelling, by its name and where it stands.
abbrev pub sentence : (letter : List ℕ) (generator octave : ℕ) (name : List ℕ) → Standing → List ℕ
sentence letter generator octave name s = name ++ placed_text letter generator octave s.place s.stars s.key

-- ---- whether they are one key

-- "They are 12 places apart, "
unfoldable pub apart_text : ℕ → List ℕ
unfolding digits
apart_text apart = numbered they_are_word apart ++ place_word ++ plural apart ++ apart_word

-- "2 times the 12 after which the chain comes round"
unfoldable pub times_text : (apart reduced : ℕ) → List ℕ
unfolding digits
times_text apart reduced = digits (apart / reduced) ++ numbered times_the_word reduced ++ after_which_word

-- Once round, or more often: "and the chain comes round after 12"
unfoldable pub round_text : (apart reduced : ℕ) → List ℕ
unfolding digits times_text
round_text apart reduced = pick (ltb reduced apart) (times_text apart reduced) (numbered after_word reduced)

unfoldable pub verdict_text : Verdict → (apart reduced : ℕ) → List ℕ
unfolding apart_text round_text digits
verdict_text OneKey apart reduced = pick (eqb apart 0) one_place_line (apart_text apart ++ round_text apart reduced ++ one_key_word)
verdict_text OneChain apart reduced = apart_text apart ++ numbered after_word reduced ++ two_keys_word
verdict_text TwoChains apart reduced = stars_differ_line

-- ---- all three

unfoldable pub sentences : (letter : List ℕ) (generator octave : ℕ) (first second : List ℕ) → Explanation → List ℕ
unfolding placed_text verdict_text
sentences letter generator octave first second e =
    sentence letter generator octave first e.first
    ++ sentence letter generator octave second e.second
    ++ verdict_text e.verdict e.apart e.reduced_period

-- The letter of key 0, from which places are counted.
abbrev pub start_text : Layout → List ℕ
start_text l = letter_text (letter_at (chain_of l.chain).letters l.start)

-- In a layout. The names are the spellings' texts, as they were typed.
unfoldable pub explanation_text : Layout → (first second : List ℕ) → Explanation → List ℕ
unfolding sentences letter_text letter_at
explanation_text l first second e = sentences (start_text l) l.generator l.octave first second e
