-- What a line's outcome depends on: nothing past its line feed, and nothing past 18 bytes.
use Prim.Native.Nat.{ℕ, zero, suc, ◌+◌, ◌-◌, ◌≤◌, ◌<◌}
use native.Mathlib.Nat.{eq-or-lt_of_le, zero-add, suc-add}
use native.Mathlib.Omega.{arith}
use mathlib.Core.Bool.{Bool, true, false, ◌&&◌}
use mathlib.Core.Logic.{⊎_elim}
use mathlib.Core.Path.{◌≡◌, refl, sym, ap, ◌∙◌, subst}
use mathlib.Core.List.{List, [], ◌∷◌, ◌++◌}
use lib.ListN.{length, get_or, take, drop, length-take, length-drop, get_or-append}
use lib.Seq.{take_all, take-nil, get_or-take, drop-append-le, get_or-append_seam}
use lib.Dec.{leb, eqb}
use borrow.Author.Tests.{leb-true, leb-false, eqb-true}
use Rattle.answer.proofs.Asked.{and_left, and_right}
use Rattle.answer.specs.Choice.{pick}
use Rattle.text.specs.Decimal.{is_digit, leading, value, digits_at, value_at, end_at}
use Rattle.line.specs.Lines.{is_field, field_at, space, line_feed, line_outcome}
use Rattle.line.specs.Theorems.{LaterBytesIgnored}
use Rattle.std.specs.Prelude.{Option, None}
use Rattle.text.specs.Decimal.{numeral}
use Rattle.text.proofs.Digits.{leading_digit, leading_other, leading_none}
use Rattle.text.proofs.Numbers.{length_is, digits_above}
use Rattle.line.proofs.Fields.{no_number}
use Rattle.line.proofs.WholeLine.{field_is, same_outcome}
use Rattle.line.proofs.OneNumber.{same_number_line}

-- ---- a reading depends on the digits and on the byte behind them

abbrev reading_of : List ℕ → ℕ → ℕ → ℕ → Option (ℕ × ℕ)
reading_of text at byte behind =
    pick (leb 1 (length text) && leb (length text) 5 && leb (value text) 65535 && eqb byte behind) (numeral (value text) (at + length text + 1)) None

reading_is : (line : List ℕ) (at behind : ℕ) → field_at line at behind ≡ reading_of (digits_at line at) at (get_or line (at + length (digits_at line at)) 0) behind
unfolding field_at
reading_is line at behind = refl

same_reading : (line other : List ℕ) (at behind : ℕ) (text : List ℕ) → digits_at line at ≡ text → digits_at other at ≡ text
    → get_or line (at + length text) 0 ≡ get_or other (at + length text) 0 → field_at line at behind ≡ field_at other at behind
same_reading line other at behind text d e byte =
    reading_is line at behind
    ∙ ap (λ (t : List ℕ). reading_of t at (get_or line (at + length t) 0) behind) d
    ∙ ap (λ (b : ℕ). reading_of text at b behind) byte
    ∙ ap (λ (t : List ℕ). reading_of t at (get_or other (at + length t) 0) behind) (sym e)
    ∙ sym (reading_is other at behind)

-- a number that was read: at most 5 digits, and the byte behind
module _ (line : List ℕ) (at behind number next : ℕ) (read : numeral number next ≡ field_at line at behind) where
  abbrev long : ℕ
  long = length (digits_at line at)

  four : (leb 1 long && leb long 5 && leb (value_at line at) 65535 && eqb (get_or line (end_at line at) 0) behind) ≡ true
  unfolding is_field
  four = (field_is line at behind number next read).yes

  next_is : next ≡ at + long + 1
  next_is = (field_is line at behind number next read).is_next ∙ ap (λ (n : ℕ). n + 1) (length_is line at)

  few_digits : long ≤ 5
  few_digits = leb-true long 5 (and_right (leb 1 long) (leb long 5) (and_left (leb 1 long && leb long 5) (leb (value_at line at) 65535) (and_left (leb 1 long && leb long 5 && leb (value_at line at) 65535) (eqb (get_or line (end_at line at) 0) behind) four)))

  byte_is : get_or line (at + long) 0 ≡ behind
  byte_is =
      ap (λ (n : ℕ). get_or line n 0) (sym (length_is line at))
      ∙ eqb-true (get_or line (end_at line at) 0) behind (and_right (leb 1 long && leb long 5 && leb (value_at line at) 65535) (eqb (get_or line (end_at line at) 0) behind) four)

-- ---- nothing past the line feed

stops_by : (b : ℕ) (s t : List ℕ) (test : Bool) → is_digit b ≡ test → leading s ≡ leading t → leading (b ∷ s) ≡ leading (b ∷ t)
stops_by b s t true e same = leading_digit b s e ∙ ap (λ (l : List ℕ). b ∷ l) same ∙ sym (leading_digit b t e)
stops_by b s t false e same = leading_other b s e ∙ sym (leading_other b t e)

leading_stops : (s x y : List ℕ) → leading (s ++ line_feed ∷ x) ≡ leading (s ++ line_feed ∷ y)
leading_stops [] x y = leading_other line_feed x refl ∙ sym (leading_other line_feed y refl)
leading_stops (b ∷ s) x y = stops_by b (s ++ line_feed ∷ x) (s ++ line_feed ∷ y) (is_digit b) refl (leading_stops s x y)

short_by : (b : ℕ) (s : List ℕ) (n : ℕ) (test : Bool) → is_digit b ≡ test → length (leading s) ≤ n → length (leading (b ∷ s)) ≤ suc n
short_by b s n true e h = rw (leading_digit b s e) (omega arith)
short_by b s n false e h = rw (leading_other b s e) (omega arith)

leading_short : (s x : List ℕ) → length (leading (s ++ line_feed ∷ x)) ≤ length s
leading_short [] x = rw (leading_other line_feed x refl) (omega arith)
leading_short (b ∷ s) x = short_by b (s ++ line_feed ∷ x) (length s) (is_digit b) refl (leading_short s x)

module _ (line after : List ℕ) where
  abbrev whole : List ℕ
  whole = line ++ line_feed ∷ after

  abbrev cut : List ℕ
  cut = line ++ line_feed ∷ []

  same_byte : (at : ℕ) → at ≤ length line → get_or whole at 0 ≡ get_or cut at 0
  same_byte at h =
      ⊎_elim
      (λ (e : at ≡ length line). rw e (get_or-append_seam line line_feed after 0 ∙ sym (get_or-append_seam line line_feed [] 0)))
      (λ (l : at < length line). get_or-append line (line_feed ∷ after) 0 at l ∙ sym (get_or-append line (line_feed ∷ []) 0 at l))
      (eq-or-lt_of_le h)

  module _ (at behind : ℕ) (inside : at ≤ length line) where
    same_digits : digits_at whole at ≡ digits_at cut at
    unfolding digits_at
    same_digits =
        ap leading (drop-append-le at line (line_feed ∷ after) inside)
        ∙ leading_stops (drop at line) after []
        ∙ sym (ap leading (drop-append-le at line (line_feed ∷ []) inside))

    short : at + length (digits_at cut at) ≤ length line
    unfolding digits_at
    short =
        rw (drop-append-le at line (line_feed ∷ []) inside) (omega (arith, leading_short (drop at line) [], length-drop at line))

    same_number : field_at whole at behind ≡ field_at cut at behind
    same_number = same_reading whole cut at behind (digits_at cut at) same_digits refl (same_byte (at + length (digits_at cut at)) short)

  -- a space stands before the line feed
  goes_on : (at number next : ℕ) → at ≤ length line → numeral number next ≡ field_at whole at space → next ≤ length line
  goes_on at number next inside read =
      let cut-read = read ∙ same_number at space inside in
      let end = at + length (digits_at cut at) in
      ⊎_elim
      (λ (e : end ≡ length line). absurd (omega (arith, byte_is cut at space number next cut-read, ap (λ (n : ℕ). get_or cut n 0) e, get_or-append_seam line line_feed [] 0)))
      (λ (l : end < length line). omega (arith, next_is cut at space number next cut-read))
      (eq-or-lt_of_le (short at space inside))

  feed_ends : line_outcome whole ≡ line_outcome cut
  feed_ends =
      same_outcome whole cut
      (same_number 0 space (omega arith))
      (λ a at e. same_number at space (goes_on 0 a at (omega arith) e))
      (λ a b at next e f. same_number next line_feed (goes_on at b next (goes_on 0 a at (omega arith) e) f))

-- ---- nothing past 18 bytes

cut_by : (b : ℕ) (s : List ℕ) (n : ℕ) (test : Bool) → is_digit b ≡ test → leading (take n s) ≡ take n (leading s)
    → leading (b ∷ take n s) ≡ take (suc n) (leading (b ∷ s))
cut_by b s n true e same = leading_digit b (take n s) e ∙ ap (λ (l : List ℕ). b ∷ l) same ∙ sym (ap (take (suc n)) (leading_digit b s e))
cut_by b s n false e same = leading_other b (take n s) e ∙ sym (ap (take (suc n)) (leading_other b s e))

leading_take : (n : ℕ) (s : List ℕ) → leading (take n s) ≡ take n (leading s)
leading_take zero s = leading_none
leading_take (suc n) [] = leading_none ∙ sym (ap (take (suc n)) leading_none)
leading_take (suc n) (b ∷ s) = cut_by b s n (is_digit b) refl (leading_take n s)

drop_take : (at n : ℕ) (s : List ℕ) → drop at (take (at + n) s) ≡ take n (drop at s)
drop_take zero n s = ap (λ (k : ℕ). take k s) (zero-add n)
drop_take (suc at) n [] = ap (drop (suc at)) (take-nil (suc at + n)) ∙ sym (take-nil n)
drop_take (suc at) n (b ∷ s) = ap (λ (k : ℕ). drop (suc at) (take k (b ∷ s))) (suc-add at n) ∙ drop_take at n s

module _ (line : List ℕ) (at n : ℕ) where
  abbrev front : List ℕ
  front = take (at + n) line

  front_digits : digits_at front at ≡ take n (digits_at line at)
  unfolding digits_at
  front_digits = ap leading (drop_take at n line) ∙ leading_take n (drop at line)

  abbrev text : List ℕ
  text = digits_at line at

  few_or_many : (test : Bool) → leb (length text) 5 ≡ test → (behind : ℕ) → 5 < n → field_at front at behind ≡ field_at line at behind
  few_or_many true t behind h =
      let few = leb-true (length text) 5 t in
      same_reading front line at behind text (front_digits ∙ take_all n text (omega arith)) refl
      (get_or-take (at + n) line (at + length text) 0 (omega arith))
  few_or_many false t behind h =
      let many = leb-false (length text) 5 t in
      sym (no_number front at behind (digits_above front at (rw front_digits (omega (arith, length-take n text)))))
      ∙ no_number line at behind (digits_above line at many)

-- six bytes from a number on decide it
front_number : (line : List ℕ) (at behind n : ℕ) → at + 5 < n → field_at (take n line) at behind ≡ field_at line at behind
front_number line at behind n h =
    let whole : at + (n - at) ≡ n = omega arith in
    subst (λ (m : ℕ). field_at (take m line) at behind ≡ field_at line at behind) whole
    (few_or_many line at (n - at) (leb (length (digits_at line at)) 5) refl behind (omega arith))

eighteen_bytes : (line : List ℕ) → line_outcome (take 18 line) ≡ line_outcome line
eighteen_bytes line =
    same_outcome (take 18 line) line
    (front_number line 0 space 18 (omega arith))
    (λ a at e. front_number line at space 18 (omega (arith, second_at a at e)))
    (λ a b at next e f. front_number line next line_feed 18 (omega (arith, second_at a at e, third_at b at next f)))
  where
    second_at : (a at : ℕ) → numeral a at ≡ field_at (take 18 line) 0 space → at ≤ 6
    second_at a at e = omega (arith, next_is (take 18 line) 0 space a at e, few_digits (take 18 line) 0 space a at e)

    third_at : (b at next : ℕ) → numeral b next ≡ field_at (take 18 line) at space → next ≤ at + 6
    third_at b at next f = omega (arith, next_is (take 18 line) at space b next f, few_digits (take 18 line) at space b next f)

pub later_bytes_ignored : LaterBytesIgnored
later_bytes_ignored =
    record {
      line_feed_lem = feed_ends;
      eighteen = eighteen_bytes;
      number_line_feed = λ line after. same_number_line (line ++ line_feed ∷ after) (line ++ line_feed ∷ []) (same_number line after 0 line_feed (omega arith));
      number_eighteen = λ line. same_number_line (take 18 line) line (front_number line 0 line_feed 18 (omega arith));
    }
