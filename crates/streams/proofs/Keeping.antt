-- The buffer begins with the line: each byte more is stored at its place, or lies past the first 18.
use Rattle.std.proofs.Common.{◌≡◌, ℕ, suc, ◌<◌, ◌≤◌, min, Bool, true, false, ltb, List, [], ◌∷◌, ◌++◌, length, take, set, sym, refl, ap, ◌∙◌, subst, arith, length-append, length-set, length-take, take_all, take-suc-set, ltb-false, ltb-true, le-ltb, lt-ltb}
use lib.Seq.{take-append-le}
use Rattle.streams.specs.Streams.{longest}
use Rattle.streams.specs.Reading.{kept_in, Begins}

by_test : (at : ℕ) {G : Type 0} (test : Bool) → ltb at longest ≡ test → (at < longest → G) → (longest ≤ at → G) → G
by_test at true e below past = below (ltb-true at longest e)
by_test at false e below past = past (ltb-false at longest e)

below_or_past : (at : ℕ) {G : Type 0} → (at < longest → G) → (longest ≤ at → G) → G
below_or_past at below past = by_test at (ltb at longest) refl below past

pub kept_below : (buffer : List ℕ) (at byte : ℕ) → at < longest → kept_in buffer at byte ≡ set buffer at byte
unfolding kept_in
kept_below buffer at byte h =
    subst (λ (test : Bool). elim test [ true ↦ set buffer at byte | false ↦ buffer ] ≡ set buffer at byte) (sym (lt-ltb at longest h)) refl

pub kept_past : (buffer : List ℕ) (at byte : ℕ) → longest ≤ at → kept_in buffer at byte ≡ buffer
unfolding kept_in
kept_past buffer at byte h =
    subst (λ (test : Bool). elim test [ true ↦ set buffer at byte | false ↦ buffer ] ≡ buffer) (sym (le-ltb at longest h)) refl

pub length_kept : (buffer : List ℕ) (at byte : ℕ) → length (kept_in buffer at byte) ≡ length buffer
length_kept buffer at byte =
    below_or_past at
    (λ (h : at < longest). ap length (kept_below buffer at byte h) ∙ length-set buffer at byte)
    (λ (h : longest ≤ at). ap length (kept_past buffer at byte h))

module _ (buffer line : List ℕ) (byte : ℕ) (room : longest ≤ length buffer) (begins : Begins buffer line) where
  abbrev more : List ℕ
  more = line ++ byte ∷ []

  longer : length more ≡ suc (length line)
  longer = omega (arith, length-append line (byte ∷ []))

  keeps_below : length line < longest → Begins (kept_in buffer (length line) byte) more
  keeps_below h =
      let all : min longest (length line) ≡ length line = omega arith in
      let next : min longest (length more) ≡ suc (length line) = omega (arith, longer) in
      ap (λ (n : ℕ). take n (kept_in buffer (length line) byte)) next
      ∙ ap (take (suc (length line))) (kept_below buffer (length line) byte h)
      ∙ take-suc-set buffer (length line) byte (omega arith)
      ∙ ap (λ (l : List ℕ). l ++ byte ∷ []) (ap (λ (n : ℕ). take n buffer) (sym all) ∙ begins ∙ take_all longest line (omega arith))
      ∙ sym (take_all longest more (omega (arith, longer)))

  keeps_past : longest ≤ length line → Begins (kept_in buffer (length line) byte) more
  keeps_past h =
      let same : min longest (length more) ≡ min longest (length line) = omega (arith, longer) in
      ap (λ (n : ℕ). take n (kept_in buffer (length line) byte)) same
      ∙ ap (take (min longest (length line))) (kept_past buffer (length line) byte h)
      ∙ begins
      ∙ sym (take-append-le longest line (byte ∷ []) h)

  pub keeps : Begins (kept_in buffer (length line) byte) more
  keeps = below_or_past (length line) keeps_below keeps_past

-- a place past the first 18 stands for all of them
pub kept_at_most : (buffer : List ℕ) (at byte : ℕ) → kept_in buffer (min longest at) byte ≡ kept_in buffer at byte
kept_at_most buffer at byte =
    below_or_past at
    (λ (h : at < longest). ap (λ (n : ℕ). kept_in buffer n byte) (let e : min longest at ≡ at = omega arith in e))
    (λ (h : longest ≤ at). kept_past buffer (min longest at) byte (omega arith) ∙ sym (kept_past buffer at byte h))

-- the buffer holds what it begins with
pub kept_inside : (buffer line : List ℕ) → Begins buffer line → min longest (length line) ≤ length buffer
kept_inside buffer line begins =
    omega (arith, ap length begins, length-take (min longest (length line)) buffer, length-take longest line)
