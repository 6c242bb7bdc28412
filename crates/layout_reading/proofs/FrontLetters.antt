-- The letter at a text's front: which one the code finds, what stands behind it, and that no letter's text begins with another's.
use Prim.Native.Nat.{ℕ, zero, suc, ◌+◌, ◌/◌, ◌%◌, ◌<◌, ◌≤◌, suc-le-suc}
use native.Mathlib.Nat.{le_of_suc-le-suc, not-suc-le-zero}
use native.Mathlib.Omega.{arith}
use mathlib.Core.Path.{◌≡◌, refl, sym, ap, ◌∙◌}
use mathlib.Core.Bool.{Bool, true, false}
use mathlib.Core.List.{List, [], ◌∷◌, ◌++◌}
use lib.Dec.{eqb, ltb}
use lib.ListN.{length, get_or, drop}
use borrow.Author.Tests.{eq-eqb, ne_eqb, lt-ltb, le-ltb, ltb-true, ltb-false}
use Rattle.answer.specs.Choice.{pick}
use Rattle.genchain.specs.Chains.{chain_of}
use Rattle.genchain.specs.Theorems.{IsLetter}
use Rattle.notes.specs.Names.{letter_text, letter_at}
use Rattle.notes.specs.Reading.{read_letter, past_letter}
use Rattle.notes.proofs.Utf8.{letter_one, letter_two}
use Rattle.notes.proofs.RowLetters.{chain_letter, chain_place_lem}
use Rattle.notes.proofs.Reader.{read_letter_lem}
use Rattle.layout_reading.specs.Reading.{in_front, letter_index}
use Rattle.layout_reading.proofs.Texts.{front_split, front_there}

-- ---- by the bytes that the code compares

pick_bool : (k : Bool) → pick k true false ≡ k
pick_bool true = refl
pick_bool false = refl

pub one_byte : (c : ℕ) (text : List ℕ) → 1 ≤ length text → in_front (c ∷ []) text ≡ eqb (get_or text 0 0) c
unfolding in_front
one_byte c [] h = absurd (not-suc-le-zero h)
one_byte c (x ∷ text) h = pick_bool (eqb x c)

two_bytes : (c d : ℕ) (text : List ℕ) → 2 ≤ length text
    → in_front (c ∷ d ∷ []) text ≡ pick (eqb (get_or text 0 0) c) (eqb (get_or text 1 0) d) false
unfolding in_front
two_bytes c d [] h = absurd (not-suc-le-zero h)
two_bytes c d (x ∷ []) h = absurd (let z : ⊥ = omega arith in z)
two_bytes c d (x ∷ y ∷ text) h = ap (λ (k : Bool). pick (eqb x c) k false) (pick_bool (eqb y d))

too_short : (front text : List ℕ) → length text < length front → in_front front text ≡ false
unfolding in_front
too_short [] text h = absurd (not-suc-le-zero h)
too_short (b ∷ front) [] h = refl
too_short (b ∷ front) (x ∷ text) h = by (eqb x b) (too_short front text (le_of_suc-le-suc h))
  where
    by : (k : Bool) → in_front front text ≡ false → pick k (in_front front text) false ≡ false
    by true e = e
    by false e = refl

module _ (c : ℕ) (text : List ℕ) where
  module _ (h : c < 128) where
    pub starts_one_short : length text < 1 → false ≡ in_front (letter_text c) text
    starts_one_short k = rw (letter_one c h) (sym (too_short (c ∷ []) text k))

    pub starts_one : 1 ≤ length text → (w : ℕ) → w ≡ get_or text 0 0 → eqb w c ≡ in_front (letter_text c) text
    starts_one k w e = rw (letter_one c h) (ap (λ (x : ℕ). eqb x c) e ∙ sym (one_byte c text k))

  module _ (h : 128 ≤ c) where
    pub starts_two_short : length text < 2 → false ≡ in_front (letter_text c) text
    starts_two_short k = rw (letter_two c h) (sym (too_short ((192 + c / 64) ∷ (128 + c % 64) ∷ []) text k))

    module _ (k : 2 ≤ length text) (w : ℕ) (e : w ≡ get_or text 0 0) where
      both : in_front (letter_text c) text ≡ pick (eqb w (192 + c / 64)) (eqb (get_or text 1 0) (128 + c % 64)) false
      both = rw (letter_two c h, e) (two_bytes (192 + c / 64) (128 + c % 64) text k)

      pub starts_two_not : (w ≡ 192 + c / 64 → ⊥) → false ≡ in_front (letter_text c) text
      starts_two_not n = sym (both ∙ ap (λ (q : Bool). pick q (eqb (get_or text 1 0) (128 + c % 64)) false) (ne_eqb w (192 + c / 64) n))

      pub starts_two : w ≡ 192 + c / 64 → (v : ℕ) → v ≡ get_or text 1 0 → eqb v (128 + c % 64) ≡ in_front (letter_text c) text
      starts_two y v f =
          ap (λ (x : ℕ). eqb x (128 + c % 64)) f
          ∙ sym (both ∙ ap (λ (q : Bool). pick q (eqb (get_or text 1 0) (128 + c % 64)) false) (eq-eqb w (192 + c / 64) y))

-- ---- the first letter that stands there

abbrev pub FrontIs : List ℕ → List ℕ → ℕ → Bool
FrontIs letters text j = in_front (letter_text (letter_at letters j)) text

pub index_at : (letters text : List ℕ) (i : ℕ) → i < length letters
    → ((j : ℕ) → j < i → FrontIs letters text j ≡ false) → FrontIs letters text i ≡ true → letter_index letters text ≡ i
unfolding letter_index letter_at
index_at [] text i h missing here = absurd (not-suc-le-zero h)
index_at (c ∷ letters) text zero h missing here = rw here refl
index_at (c ∷ letters) text (suc i) h missing here =
    rw (missing 0 (omega arith)) (ap suc (index_at letters text i (le_of_suc-le-suc h) (λ j k. missing (suc j) (suc-le-suc k)) here))

pub index_none : (letters text : List ℕ) → ((j : ℕ) → j < length letters → FrontIs letters text j ≡ false)
    → letter_index letters text ≡ length letters
unfolding letter_index letter_at
index_none [] text missing = refl
index_none (c ∷ letters) text missing =
    rw (missing 0 (omega arith)) (ap suc (index_none letters text (λ j k. missing (suc j) (suc-le-suc k))))

pub index_begins : (letters text : List ℕ) → letter_index letters text < length letters → FrontIs letters text (letter_index letters text) ≡ true
unfolding letter_index letter_at
index_begins [] text h = absurd (not-suc-le-zero h)
index_begins (c ∷ letters) text h = by (in_front (letter_text c) text) refl h (index_begins letters text)
  where
    by : (k : Bool) → in_front (letter_text c) text ≡ k → pick k 0 (suc (letter_index letters text)) < suc (length letters)
        → (letter_index letters text < length letters → FrontIs letters text (letter_index letters text) ≡ true)
        → in_front (letter_text (get_or (c ∷ letters) (pick k 0 (suc (letter_index letters text))) 63)) text ≡ true
    by true e h ih = e
    by false e h ih = ih (le_of_suc-le-suc h)

-- ---- what stands behind it

pub past_it : (c : ℕ) (rest : List ℕ) → past_letter (letter_text c ++ rest) ≡ rest
unfolding past_letter
past_it c rest = by (ltb c 128) refl
  where
    by : (k : Bool) → ltb c 128 ≡ k → past_letter (letter_text c ++ rest) ≡ rest
    by true q = let h = ltb-true c 128 q in rw (letter_one c h) (simp (lt-ltb c 128 h))
    by false q = let h = ltb-false c 128 q in rw (letter_two c h) (simp (le-ltb (192 + c / 64) 128 (omega arith)))

pub past_front : (c : ℕ) (text : List ℕ) → in_front (letter_text c) text ≡ true → past_letter text ≡ drop (length (letter_text c)) text
past_front c text e =
    ap past_letter (sym (front_split (letter_text c) text e)) ∙ past_it c (drop (length (letter_text c)) text)

-- ---- no letter's text begins with another's

same_letter : (c d : ℕ) (rest : List ℕ) → IsLetter c → IsLetter d → in_front (letter_text c) (letter_text d ++ rest) ≡ true → c ≡ d
same_letter c d rest hc hd e =
    sym (read_letter_lem c (drop (length (letter_text c)) (letter_text d ++ rest)) hc)
    ∙ ap read_letter (front_split (letter_text c) (letter_text d ++ rest) e)
    ∙ read_letter_lem d rest hd

module _ (code : ℕ) (h : code < 6) (i : ℕ) (below : i < length (chain_of code).letters) (rest : List ℕ) where
  abbrev L : List ℕ
  L = (chain_of code).letters

  abbrev text : List ℕ
  text = letter_text (letter_at L i) ++ rest

  pub index_found : letter_index L text ≡ i
  index_found =
      index_at L text i below (λ j k. by j k (FrontIs L text j) refl) (front_there (letter_text (letter_at L i)) rest)
    where
      by : (j : ℕ) → j < i → (b : Bool) → FrontIs L text j ≡ b → b ≡ false
      by j k false e = refl
      by j k true e =
          absurd
          (let less : j < length L = omega arith in
          let q : j ≡ i
          = chain_place_lem code h j i less below
          (same_letter (letter_at L j) (letter_at L i) rest (chain_letter code h j less) (chain_letter code h i below) e) in
          let z : ⊥ = omega arith in z)
