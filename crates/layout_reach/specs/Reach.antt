-- Distances round the octave, the keys of a letter, the nearest of them, and the keys in reach (document 02, W-203).
use Rattle.std.specs.Prelude.{ℕ, min, Bool, true, false, ◌&&◌, List, [], ◌∷◌, eqb, ltb, leb, ℤ, pos, ◌-ℤ◌, length}
use Rattle.genchain.specs.Chains.{chain_of}
use Rattle.math.specs.Division.{remainder}
use Rattle.math.specs.Passing.{first, passing}
use Rattle.notes.specs.Names.{letter_text, letter_at}
use Rattle.layout.specs.Layouts.{Layout}
use Rattle.layout.specs.Names.{name_in}

-- "distance round the octave": the steps from one number to the other, whole octaves aside, by the shorter way: the smaller of the two
-- remainders that are never negative.
unfoldable pub distance : ℕ → ℤ → ℤ → ℕ
distance octave x y = min (remainder (x -ℤ y) octave) (remainder (y -ℤ x) octave)

-- ---- "whose name is that bare letter, with any stars"

-- The text is `front` with any number of stars behind it, and no other byte: 42 is *
unfoldable pub starred : List ℕ → List ℕ → Bool
starred [] [] = true
starred [] (b ∷ text) = eqb b 42 && starred [] text
starred (a ∷ front) [] = false
starred (a ∷ front) (b ∷ text) = eqb a b && starred front text

-- The name of a key is the letter at this place in the chain, with any stars.
unfoldable pub bears : Layout → ℕ → ℤ → Bool
unfolding starred letter_text letter_at name_in
bears l letter key = starred (letter_text (letter_at (chain_of l.chain).letters letter)) (name_in l key)

-- "the key of 0 to octave − 1" of which that holds: all of them.
unfoldable pub keys_of : Layout → ℕ → List ℕ
unfolding passing bears
keys_of l letter = passing (λ k. bears l letter (pos k)) l.octave 0

-- ---- "at the least distance round the octave. Of two equally near, the lower number is answered."

-- The keys of the letter that are nearer to `key` than k is.
unfoldable pub nearer : Layout → ℤ → ℕ → ℕ → List ℕ
unfolding passing bears distance
nearer l key letter k =
    passing (λ j. bears l letter (pos j) && ltb (distance l.octave (pos j) key) (distance l.octave (pos k) key)) l.octave 0

-- The first key of the letter than which none is nearer; `SomeNearest` says that there is one.
unfoldable pub nearest : Layout → ℤ → ℕ → ℕ
unfolding first bears nearer
nearest l key letter = first (λ k. bears l letter (pos k) && eqb (length (nearer l key letter k)) 0) l.octave 0

-- ---- "all keys of 0 to octave − 1 within distance d of a key, counted the same way, each once, rising"

unfoldable pub in_reach : ℕ → ℤ → ℕ → List ℕ
unfolding passing distance
in_reach octave key d = passing (λ k. leb (distance octave (pos k) key) d) octave 0
