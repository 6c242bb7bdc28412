-- What is written reads back: each line says what is due, so the lines say all of it in turn.
use Prim.Native.Nat.{ℕ, zero, suc, ◌+◌, ◌-◌, ◌/◌, ◌%◌, ◌<◌, ◌≤◌}
use native.Mathlib.Omega.{arith}
use mathlib.Core.Bool.{Bool, true, false, ◌&&◌, not, and_assoc}
use mathlib.Core.Path.{◌≡◌, refl, sym, ap, ap₂, ◌∙◌}
use mathlib.Core.List.{List, [], ◌∷◌, ◌++◌, append-nil, append_assoc}
use lib.ListN.{length, length-append}
use lib.Dec.{eqb, leb}
use borrow.Author.Tests.{eq-eqb, ne_eqb, le-leb, leb-true}
use Rattle.answer.specs.Choice.{pick}
use Rattle.answer.specs.Outcome.{given}
use Rattle.answer.proofs.Asked.{and_left, and_right}
use Rattle.text.specs.Writing.{joined}
use Rattle.text.proofs.Joined.{joined_add, joined_same}
use Rattle.text.specs.Decimal.{is_digit, value, digits}
use Rattle.text.proofs.Digits.{digits_one, digits_more, by_digits, is_digit_lem, value_digits, digits_length}
use Rattle.kbm_text.specs.Lines.{lines, is_closed, no_feed}
use Rattle.kbm_text.specs.Kinds.{same_bytes, all_digits, says_number, mark, frequency, kind_of}
use Rattle.kbm_text.specs.Reading.{due, fits_at, agrees_at, key_at, not_comment, said, all_fit, all_agree, keys_from, read_outcome}
use Rattle.kbm_text.specs.Written.{kbm_text, mapped_keys}
use Rattle.kbm_text.specs.Theorems.{ReadsBack}
use Rattle.kbm_text.specs.declared.kinds.Kind.{Kind}
use Rattle.kbm_text.specs.declared.kinds.Kind.TheVariants.{Number, Frequency, Mark}
use Rattle.kbm_text.proofs.Bytes.{other_length}
use Rattle.kbm_text.proofs.Comments.{lines_line, by_front, outcome_of, outcome_is}
use Rattle.kbm_text.proofs.LineByLine.{is_mark, line_text, kbm_lines, due_small}

-- ---- digits

all_append : (s t : List ℕ) → all_digits (s ++ t) ≡ (all_digits s && all_digits t)
unfolding all_digits
all_append [] t = refl
all_append (b ∷ s) t = ap (λ (x : Bool). is_digit b && x) (all_append s t) ∙ sym (and_assoc (is_digit b) (all_digits s) (all_digits t))

all_one : (b : ℕ) → is_digit b ≡ true → all_digits (b ∷ []) ≡ true
unfolding all_digits
all_one b e = simp e

digits_all : (n : ℕ) → all_digits (digits n) ≡ true
digits_all n =
    by_digits (λ (m : ℕ). all_digits (digits m) ≡ true)
    (λ m h. ap all_digits (digits_one m h) ∙ all_one (48 + m) (is_digit_lem (48 + m) (omega arith) (omega arith)))
    (λ m h r.
    ap all_digits (digits_more m h)
    ∙ all_append (digits (m / 10)) ((48 + m % 10) ∷ [])
    ∙ ap₂ (λ (x y : Bool). x && y) r (all_one (48 + m % 10) (is_digit_lem (48 + m % 10) (omega arith) (omega arith))))
    (n + 1)
    n
    (omega arith)

module _ (b : ℕ) (s : List ℕ) (e : all_digits (b ∷ s) ≡ true) where
  first_digit : is_digit b ≡ true
  unfolding all_digits
  first_digit = and_left (is_digit b) (all_digits s) e

  rest_digits : all_digits s ≡ true
  unfolding all_digits
  rest_digits = and_right (is_digit b) (all_digits s) e

  first_low : 48 ≤ b
  first_low = leb-true 48 b (and_left (leb 48 b) (leb b 57) first_digit)

  first_high : b ≤ 57
  first_high = leb-true b 57 (and_right (leb 48 b) (leb b 57) first_digit)

plain_digits : (s : List ℕ) → all_digits s ≡ true → no_feed s ≡ true
unfolding no_feed
plain_digits [] e = refl
plain_digits (b ∷ s) e = simp (ne_eqb b 10 (λ q. omega (arith, first_low b s e)), plain_digits s (rest_digits b s e))

first_other : (a : ℕ) (s : List ℕ) (b : ℕ) (t : List ℕ) → (a ≡ b → ⊥) → same_bytes (a ∷ s) (b ∷ t) ≡ false
unfolding same_bytes
first_other a s b t h = simp (ne_eqb a b h)

kind_digits : (s : List ℕ) → all_digits s ≡ true → 1 ≤ length s → length s ≤ 5 → kind_of s ≡ Number (value s)
unfolding kind_of says_number
kind_digits [] e h l = absurd (omega arith)
kind_digits (b ∷ s) e h l =
    simp (
      ne_eqb b 33 (λ q. omega (arith, first_low b s e)),
      not_mark,
      other_length (b ∷ s) frequency (λ q. omega arith),
      le-leb 1 (length (b ∷ s)) h,
      le-leb (length (b ∷ s)) 5 l,
      e,
    )
  where
    not_mark : same_bytes (b ∷ s) mark ≡ false
    not_mark = first_other b s 120 [] (λ q. omega (arith, first_high b s e))

-- ---- lines that each say one thing that fits and agrees

pub record Spoken (octave : ℕ) (k : ℕ) (text : List ℕ) (kind : Kind) : Type 0 where
  pub plain : no_feed text ≡ true
  pub says : kind_of text ≡ kind
  pub kept : not_comment kind ≡ kind ∷ []
  pub fit : fits_at k kind ≡ true
  pub agree : agrees_at octave k kind ≡ true

listed : (ℕ → Kind) → ℕ → List Kind
listed kind zero = []
listed kind (suc n) = listed kind n ++ (kind n ∷ [])

module _ (octave : ℕ) (text : ℕ → List ℕ) (kind : ℕ → Kind) where
  closing : ℕ → List ℕ
  closing k = text k ++ (10 ∷ [])

  one_said : (k : ℕ) → Spoken octave k (text k) (kind k) → (rest : List ℕ) → said (lines (text k ++ 10 ∷ rest)) ≡ kind k ∷ said (lines rest)
  unfolding said
  one_said k s rest =
      ap said (lines_line (text k) rest s.plain)
      ∙ ap (λ (x : Kind). not_comment x ++ said (lines rest)) s.says
      ∙ ap (λ (x : List Kind). x ++ said (lines rest)) s.kept

  all_said : (n : ℕ) → ((k : ℕ) → k < n → Spoken octave k (text k) (kind k)) → (rest : List ℕ)
      → said (lines (joined closing n ++ rest)) ≡ listed kind n ++ said (lines rest)
  unfolding joined listed closing
  all_said zero h rest = refl
  all_said (suc n) h rest =
      ap (λ (l : List ℕ). said (lines l)) (append_assoc (joined closing n) (text n ++ (10 ∷ [])) rest ∙ ap (λ (l : List ℕ). joined closing n ++ l) (append_assoc (text n) (10 ∷ []) rest))
      ∙ all_said n (λ k l. h k (omega arith)) (text n ++ 10 ∷ rest)
      ∙ ap (λ (l : List Kind). listed kind n ++ l) (one_said n (h n (omega arith)) rest)
      ∙ sym (append_assoc (listed kind n) (kind n ∷ []) (said (lines rest)))

  listed_count : (n : ℕ) → length (listed kind n) ≡ n
  unfolding listed
  listed_count zero = refl
  listed_count (suc n) = length-append (listed kind n) (kind n ∷ []) ∙ omega (arith, listed_count n)

  listed_fit : (n : ℕ) → ((k : ℕ) → k < n → Spoken octave k (text k) (kind k)) → (rest : List Kind) → all_fit 0 (listed kind n ++ rest) ≡ all_fit n rest
  unfolding listed all_fit
  listed_fit zero h rest = refl
  listed_fit (suc n) h rest =
      ap (all_fit 0) (append_assoc (listed kind n) (kind n ∷ []) rest)
      ∙ listed_fit n (λ k l. h k (omega arith)) (kind n ∷ rest)
      ∙ ap (λ (t : Bool). t && all_fit (suc n) rest) (h n (omega arith)).fit

  listed_agree : (n : ℕ) → ((k : ℕ) → k < n → Spoken octave k (text k) (kind k)) → (rest : List Kind) → all_agree octave 0 (listed kind n ++ rest) ≡ all_agree octave n rest
  unfolding listed all_agree
  listed_agree zero h rest = refl
  listed_agree (suc n) h rest =
      ap (all_agree octave 0) (append_assoc (listed kind n) (kind n ∷ []) rest)
      ∙ listed_agree n (λ k l. h k (omega arith)) (kind n ∷ rest)
      ∙ ap (λ (t : Bool). t && all_agree octave (suc n) rest) (h n (omega arith)).agree

  listed_keys : (n : ℕ) (rest : List Kind) → keys_from 0 (listed kind n ++ rest) ≡ joined (λ k. key_at k (kind k)) n ++ keys_from n rest
  unfolding listed keys_from joined
  listed_keys zero rest = refl
  listed_keys (suc n) rest =
      ap (keys_from 0) (append_assoc (listed kind n) (kind n ∷ []) rest)
      ∙ listed_keys n (kind n ∷ rest)
      ∙ sym (append_assoc (joined (λ k. key_at k (kind k)) n) (key_at n (kind n)) (keys_from (suc n) rest))

  closed_lines : (n : ℕ) → is_closed (joined closing n) ≡ true
  unfolding joined closing is_closed
  closed_lines zero = refl
  closed_lines (suc n) = ap is_closed (sym (append_assoc (joined closing n) (text n) (10 ∷ []))) ∙ by_front (joined closing n ++ text n) []

  module _ (h : (k : ℕ) → k < 7 + octave → Spoken octave k (text k) (kind k)) where
    said_all : said (lines (joined closing (7 + octave))) ≡ listed kind (7 + octave)
    unfolding lines said
    said_all =
        ap (λ (l : List ℕ). said (lines l)) (sym (append-nil (joined closing (7 + octave))))
        ∙ all_said (7 + octave) h []
        ∙ append-nil (listed kind (7 + octave))

    spoken_read : read_outcome octave (joined closing (7 + octave)) ≡ given (joined (λ k. key_at k (kind k)) (7 + octave))
    unfolding all_fit all_agree keys_from
    spoken_read =
        let nil = sym (append-nil (listed kind (7 + octave))) in
        outcome_is octave (joined closing (7 + octave))
        ∙ ap₂ (outcome_of octave) (closed_lines (7 + octave)) said_all
        ∙ simp (
          eq-eqb (length (listed kind (7 + octave))) (7 + octave) (listed_count (7 + octave)),
          ap (all_fit 0) nil ∙ listed_fit (7 + octave) h [],
          ap (all_agree octave 0) nil ∙ listed_agree (7 + octave) h [],
        )
        (ap given (ap (keys_from 0) nil ∙ listed_keys (7 + octave) [] ∙ append-nil (joined (λ k. key_at k (kind k)) (7 + octave))))

-- ---- the lines that are written

module _ (octave : ℕ) (mapped : ℕ → Bool) (small : octave ≤ 65535) where
  kind_at : ℕ → Kind
  kind_at k = pick (eqb k 5) Frequency (pick (is_mark mapped k) Mark (Number (due octave k)))

  number_spoken : (k : ℕ) → k < 7 + octave → eqb k 5 ≡ false → Spoken octave k (digits (due octave k)) (Number (due octave k))
  number_spoken k h e =
      let n = due octave k in
      let few = digits_length n (omega (arith, due_small octave k small h)) in
      record {
        plain = plain_digits (digits n) (digits_all n);
        says = kind_digits (digits n) (digits_all n) (omega (arith, few.some, few.is_length)) (omega (arith, few.few, few.is_length)) ∙ ap Number (value_digits n);
        kept = refl;
        fit = ap not e;
        agree = eq-eqb n n refl;
      }

  frequency_spoken : (k : ℕ) → eqb k 5 ≡ true → Spoken octave k frequency Frequency
  unfolding no_feed kind_of
  frequency_spoken k e = record { plain = refl; says = refl; kept = refl; fit = e; agree = refl }

  mark_spoken : (k : ℕ) → is_mark mapped k ≡ true → Spoken octave k mark Mark
  unfolding no_feed kind_of is_mark
  mark_spoken k e = record { plain = refl; says = refl; kept = refl; fit = and_left (leb 7 k) (not (mapped (k - 7))) e; agree = refl }

  by_mark : (k : ℕ) → k < 7 + octave → eqb k 5 ≡ false → (test : Bool) → is_mark mapped k ≡ test
      → Spoken octave k (pick test mark (digits (due octave k))) (pick test Mark (Number (due octave k)))
  by_mark k h e true m = mark_spoken k m
  by_mark k h e false m = number_spoken k h e

  by_line : (k : ℕ) → k < 7 + octave → (test : Bool) → eqb k 5 ≡ test
      → Spoken octave k (pick test frequency (pick (is_mark mapped k) mark (digits (due octave k)))) (pick test Frequency (pick (is_mark mapped k) Mark (Number (due octave k))))
  by_line k h true e = frequency_spoken k e
  by_line k h false e = by_mark k h e (is_mark mapped k) refl

  written_spoken : (k : ℕ) → k < 7 + octave → Spoken octave k (line_text octave mapped k) (kind_at k)
  unfolding line_text kind_at
  written_spoken k h = by_line k h (eqb k 5) refl

  -- ---- the keys

  entry_by : (c : ℕ) (test : Bool) → mapped c ≡ test → key_at (7 + c) (pick (not test) Mark (Number (due octave (7 + c)))) ≡ pick test (c ∷ []) []
  entry_by c true e =
      let back : 7 + c - 7 ≡ c = omega arith in
      ap (λ (t : Bool). pick t ((7 + c - 7) ∷ []) []) (le-leb 7 (7 + c) (omega arith)) ∙ ap (λ (n : ℕ). n ∷ []) back
  entry_by c false e = refl

  entry_key : (c : ℕ) → key_at (7 + c) (kind_at (7 + c)) ≡ pick (mapped c) (c ∷ []) []
  unfolding kind_at is_mark
  entry_key c =
      let back : 7 + c - 7 ≡ c = omega arith in
      ap (λ (t : Bool). key_at (7 + c) (pick t Frequency (pick (is_mark mapped (7 + c)) Mark (Number (due octave (7 + c)))))) (ne_eqb (7 + c) 5 (λ e. omega arith))
      ∙ ap (λ (t : Bool). key_at (7 + c) (pick (t && not (mapped (7 + c - 7))) Mark (Number (due octave (7 + c))))) (le-leb 7 (7 + c) (omega arith))
      ∙ ap (λ (n : ℕ). key_at (7 + c) (pick (not (mapped n)) Mark (Number (due octave (7 + c))))) back
      ∙ entry_by c (mapped c) refl

  head_keys : joined (λ k. key_at k (kind_at k)) 7 ≡ []
  unfolding joined kind_at is_mark
  head_keys = refl

  keys_natural : joined (λ k. key_at k (kind_at k)) (7 + octave) ≡ mapped_keys octave mapped
  unfolding mapped_keys
  keys_natural =
      joined_add (λ k. key_at k (kind_at k)) 7 octave
      ∙ ap (λ (l : List ℕ). l ++ joined (λ c. key_at (7 + c) (kind_at (7 + c))) octave) head_keys
      ∙ joined_same (λ c. key_at (7 + c) (kind_at (7 + c))) (λ c. pick (mapped c) (c ∷ []) []) octave (λ c l. entry_key c)

  same_text : kbm_text octave mapped ≡ joined (closing octave (line_text octave mapped) kind_at) (7 + octave)
  unfolding closing
  same_text = kbm_lines octave mapped

  read_back_lem : read_outcome octave (kbm_text octave mapped) ≡ given (mapped_keys octave mapped)
  read_back_lem = ap (read_outcome octave) same_text ∙ spoken_read octave (line_text octave mapped) kind_at written_spoken ∙ ap given keys_natural

pub reads_back : ReadsBack
reads_back octave mapped small = read_back_lem octave mapped small
