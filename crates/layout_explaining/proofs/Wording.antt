-- The wording: which words stand by a test, and how long numbers are.
use Prim.Native.Nat.{ℕ, zero, suc, ◌+◌, ◌/◌, ◌%◌, ◌^◌, ◌≤◌, ◌<◌}
use native.Mathlib.Nat.{pow-suc, div-le_self}
use native.Mathlib.Numerals.{add-one}
use native.Mathlib.Omega.{arith}
use mathlib.Core.Bool.{Bool, true, false}
use mathlib.Core.Logic.{◌⊎◌, inl, inr, ⊎_elim}
use mathlib.Core.Path.{◌≡◌, refl, sym, ap, ◌∙◌}
use mathlib.Core.List.{List, [], ◌∷◌, ◌++◌, append_assoc}
use lib.Dec.{ltb}
use lib.IntN.{ℤ, pos, negsuc}
use lib.ListN.{length, length-append, take}
use lib.Seq.{length-take-le}
use borrow.Author.Tests.{lt-ltb, le-ltb, eq-eqb, ne_eqb, ltb-true, ltb-false}
use Rattle.answer.specs.Choice.{pick}
use Rattle.notes.specs.Names.{letter_text}
use Rattle.text.specs.Decimal.{digits}
use Rattle.text.specs.Writing.{Wrote}
use Rattle.text.proofs.Digits.{length_one, length_more}
use Rattle.text.proofs.Writing.{then, wrote_as, put_there}
use Rattle.layout_explaining.specs.Words.{up_word, with_word, star_word, and_word, after_word, one_key_word, one_place_line}
use Rattle.layout_explaining.specs.Sentences.{
  numbered,
  plural,
  stars_text,
  raised_text,
  moved_text,
  home_text,
  placed_text,
  apart_text,
  times_text,
  round_text,
  verdict_text,
  sentences,
}
use Rattle.layout_explaining.specs.Parts.{rest_text}
use Rattle.layout_explaining.specs.declared.Explanation.{Explanation}
use Rattle.layout_explaining.specs.declared.Verdict.{Verdict}
use Rattle.layout_explaining.specs.declared.Verdict.TheVariants.{OneKey}

-- ---- digits

small_or_not : (n : ℕ) → (n < 10) ⊎ (10 ≤ n)
small_or_not n = by (ltb n 10) refl
  where
    by : (t : Bool) → ltb n 10 ≡ t → (n < 10) ⊎ (10 ≤ n)
    by true e = inl (ltb-true n 10 e)
    by false e = inr (ltb-false n 10 e)

short_to : (k n : ℕ) → n < 10 ^ suc k → length (digits n) ≤ suc k
short_to zero n h = omega (arith, length_one n h)
short_to (suc k) n h =
    ⊎_elim
    (λ (small : n < 10). omega (arith, length_one n small))
    (λ (more : 10 ≤ n). omega (arith, length_more n more, short_to k (n / 10) (omega (arith, pow-suc 10 (suc k)))))
    (small_or_not n)

-- a number of 64 bits has at most twenty
pub twenty_digits : (n : ℕ) → n ≤ 18446744073709551615 → length (digits n) ≤ 20
twenty_digits n h = short_to 19 n (omega arith)

pub twenty_quotient : (n d : ℕ) → n ≤ 18446744073709551615 → length (digits (n / d)) ≤ 20
twenty_quotient n d h = twenty_digits (n / d) (omega (arith, div-le_self n d))

-- a letter has at most two bytes
pub letter_short : (c : ℕ) → length (letter_text c) ≤ 2
unfolding letter_text
letter_short c = by (ltb c 128)
  where
    by : (t : Bool) → length (pick t (c ∷ []) ((192 + c / 64) ∷ (128 + c % 64) ∷ [])) ≤ 2
    by true = omega arith
    by false = omega arith

-- ---- words by a test

pub plural_one : (n : ℕ) → n ≡ 1 → [] ≡ plural n
plural_one n e = sym (ap (λ (b : Bool). pick b [] (115 ∷ [])) (eq-eqb n 1 e))

pub plural_more : (n : ℕ) → (n ≡ 1 → ⊥) → 115 ∷ [] ≡ plural n
plural_more n h = sym (ap (λ (b : Bool). pick b [] (115 ∷ [])) (ne_eqb n 1 h))

module _ (stars : ℕ) where
  pub no_stars : stars ≡ 0 → [] ≡ stars_text stars
  unfolding stars_text
  no_stars e = sym (ap (λ (b : Bool). pick b [] (numbered with_word stars ++ star_word ++ plural stars)) (eq-eqb stars 0 e))

  pub some_stars : (stars ≡ 0 → ⊥) → numbered with_word stars ++ star_word ++ plural stars ≡ stars_text stars
  unfolding stars_text
  some_stars h = sym (ap (λ (b : Bool). pick b [] (numbered with_word stars ++ star_word ++ plural stars)) (ne_eqb stars 0 h))

  pub not_raised : stars ≡ 0 → [] ≡ raised_text stars
  unfolding raised_text
  not_raised e = sym (ap (λ (b : Bool). pick b [] (numbered and_word stars ++ up_word)) (eq-eqb stars 0 e))

  pub raised : (stars ≡ 0 → ⊥) → numbered and_word stars ++ up_word ≡ raised_text stars
  unfolding raised_text
  raised h = sym (ap (λ (b : Bool). pick b [] (numbered and_word stars ++ up_word)) (ne_eqb stars 0 h))

-- ---- by the place

module _ (letter : List ℕ) (G P stars key : ℕ) (z : ℤ) where
  pub placed_down : (n : ℕ) → z ≡ negsuc n → moved_text letter G P false (n + 1) stars key ≡ placed_text letter G P z stars key
  unfolding placed_text
  placed_down n e =
      ap (λ (k : ℕ). moved_text letter G P false k stars key) (add-one n) ∙ sym (ap (λ (p : ℤ). placed_text letter G P p stars key) e)

  pub placed_home : (n : ℕ) → z ≡ pos n → n ≡ 0 → home_text P stars key ≡ placed_text letter G P z stars key
  unfolding placed_text
  placed_home n e none = sym (ap (λ (p : ℤ). placed_text letter G P p stars key) (e ∙ ap pos none))

  pub placed_up : (n : ℕ) → z ≡ pos n → (n ≡ 0 → ⊥) → moved_text letter G P true n stars key ≡ placed_text letter G P z stars key
  unfolding placed_text
  placed_up n e some = by n some ∙ sym (ap (λ (p : ℤ). placed_text letter G P p stars key) e)
    where
      by : (k : ℕ) → (k ≡ 0 → ⊥) → moved_text letter G P true k stars key ≡ placed_text letter G P (pos k) stars key
      by zero h = absurd (h refl)
      by (suc k) h = refl

  pub placed_as : (y : ℤ) → y ≡ z → placed_text letter G P y stars key ≡ placed_text letter G P z stars key
  placed_as y e = ap (λ (p : ℤ). placed_text letter G P p stars key) e

-- ---- by the distance

module _ (apart R : ℕ) where
  pub round_often : R < apart → times_text apart R ≡ round_text apart R
  unfolding round_text
  round_often h = sym (ap (λ (b : Bool). pick b (times_text apart R) (numbered after_word R)) (lt-ltb R apart h))

  pub round_once : apart ≤ R → numbered after_word R ≡ round_text apart R
  unfolding round_text
  round_once h = sym (ap (λ (b : Bool). pick b (times_text apart R) (numbered after_word R)) (le-ltb R apart h))

  pub one_place : apart ≡ 0 → one_place_line ≡ verdict_text OneKey apart R
  unfolding verdict_text
  one_place e = sym (ap (λ (b : Bool). pick b one_place_line (apart_text apart ++ round_text apart R ++ one_key_word)) (eq-eqb apart 0 e))

  pub round_apart : (apart ≡ 0 → ⊥) → apart_text apart ++ round_text apart R ++ one_key_word ≡ verdict_text OneKey apart R
  unfolding verdict_text
  round_apart h = sym (ap (λ (b : Bool). pick b one_place_line (apart_text apart ++ round_text apart R ++ one_key_word)) (ne_eqb apart 0 h))

-- by the verdict
pub verdict_as : (v w : Verdict) (apart R : ℕ) → v ≡ w → verdict_text w apart R ≡ verdict_text v apart R
verdict_as v w apart R e = sym (ap (λ (u : Verdict). verdict_text u apart R) e)

-- ---- all three sentences

-- what was put at the front of a slice
pub front_there : {xs ys text : List ℕ} {n : ℕ} → Wrote xs 0 text ys n → n ≤ length xs → (n ≤ length ys) × (take n ys ≡ text)
front_there w h = put_there (omega (arith, w.end, h)) w

pub front_length : {xs ys text : List ℕ} {n : ℕ} → Wrote xs 0 text ys n → n ≤ length xs → length (take n ys) ≡ n
front_length {ys = ys} {n = n} w h = length-take-le n ys (front_there w h).0

module _ (letter : List ℕ) (G P : ℕ) (first second : List ℕ) (e : Explanation) where
  abbrev one : List ℕ
  one = placed_text letter G P e.first.place e.first.stars e.first.key

  abbrev rest : List ℕ
  rest = rest_text letter G P e

  in_parts : first ++ one ++ second ++ rest ≡ sentences letter G P first second e
  unfolding sentences
  in_parts =
      let other = placed_text letter G P e.second.place e.second.stars e.second.key in
      let verdict = verdict_text e.verdict e.apart e.reduced_period in
      sym (append_assoc (first ++ one ++ second) other verdict)
      ∙ ap (λ (l : List ℕ). l ++ verdict) (append_assoc (first ++ one) second other)

  pub length_in_parts : (n m : ℕ) → n ≡ length one → m ≡ length rest → length first + n + length second + m ≡ length (sentences letter G P first second e)
  length_in_parts n m hn hm =
      omega (arith, length-append (first ++ one ++ second) rest, length-append (first ++ one) second, length-append first one, hn, hm)
      ∙ ap length in_parts

  pub sentences_written : {xs ys zs ws vs a b : List ℕ} {i j k next : ℕ} → Wrote xs 0 first ys i → Wrote ys i a zs j → a ≡ one
      → Wrote zs j second ws k → Wrote ws k b vs next → b ≡ rest → Wrote xs 0 (sentences letter G P first second e) vs next
  sentences_written p q f r s g = wrote_as in_parts (then (then (then p (wrote_as f q)) r) (wrote_as g s))
