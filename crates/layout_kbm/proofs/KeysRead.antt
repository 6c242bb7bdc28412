-- The keys that are read are those whose entry is a number: the head maps none, and each line behind it the key of its place.
use Prim.Native.Nat.{ℕ, zero, suc, ◌+◌, ◌-◌, ◌<◌}
use native.Mathlib.Nat.{add-zero, add-suc, suc-add}
use native.Mathlib.Omega.{arith}
use mathlib.Core.Bool.{Bool, true, false, ◌&&◌, false≢true}
use mathlib.Core.Path.{◌≡◌, refl, sym, ap, ap₂, ◌∙◌, subst}
use mathlib.Core.List.{List, [], ◌∷◌, ◌++◌, Memᴰ}
use lib.ListN.{length, get_or, drop, length-drop}
use lib.Seq.{get_or-drop}
use lib.Dec.{eqb}
use borrow.Author.Tests.{eqb-true, le-leb, lt-leb}
use Rattle.answer.specs.Choice.{pick}
use Rattle.answer.specs.Outcome.{Outcome, given, refused, and_then}
use Rattle.answer.proofs.Asked.{given_same, asked_yes, asked_rest, and_left, and_right}
use Rattle.layout.specs.Layouts.{Layout, layout_outcome}
use Rattle.layout.proofs.Finding.{octave_is}
use Rattle.math.specs.Passing.{passing, RisingFrom}
use Rattle.math.proofs.Passing.{passes_iff, passing_rise}
use Rattle.kbm_text.specs.Lines.{lines, is_closed}
use Rattle.kbm_text.specs.Kinds.{is_number_kind}
use Rattle.kbm_text.specs.Reading.{due, agrees_at, key_at, said, all_fit, all_agree, keys_from, has_lines, has_numbers, keys_in, read_outcome}
use Rattle.kbm_text.specs.declared.kinds.Kind.{Kind}
use Rattle.kbm_text.specs.declared.kinds.Kind.TheVariants.{Number, Frequency, Mark, Comment, Other}
use Rattle.kbm_text.proofs.StepLaws.{due_entry}
use Rattle.layout_kbm.specs.Mappings.{get_mapped_keys}
use Rattle.layout_kbm.specs.Theorems.{entry, KeysAre, KeysAreTheNumbers}

-- ---- the entries

pub pass_one : (test : ℕ → Bool) (count from : ℕ) (b : Bool) → test from ≡ b
    → passing test (suc count) from ≡ pick b (from ∷ []) [] ++ passing test count (suc from)
unfolding passing
pass_one test count from b e =
    ap (λ (x : Bool). elim x [ true ↦ from ∷ passing test count (suc from) | false ↦ passing test count (suc from) ]) e ∙ by b
  where
    by : (x : Bool)
        → elim x [ true ↦ from ∷ passing test count (suc from) | false ↦ passing test count (suc from) ]
        ≡ pick x (from ∷ []) [] ++ passing test count (suc from)
    by true = refl
    by false = refl

key_of_entry : (j : ℕ) (kind : Kind) → key_at (7 + j) kind ≡ pick (is_number_kind kind) (j ∷ []) []
key_of_entry j (Number n) =
    let back : 7 + j - 7 ≡ j = omega arith in
    ap (λ (t : Bool). pick t ((7 + j - 7) ∷ []) []) (le-leb 7 (7 + j) (omega arith)) ∙ ap (λ (n : ℕ). n ∷ []) back
key_of_entry j Frequency = refl
key_of_entry j Mark = refl
key_of_entry j Comment = refl
key_of_entry j Other = refl

keys_pass : (test : ℕ → Bool) (kinds : List Kind) (j : ℕ) → ((i : ℕ) → i < length kinds → test (j + i) ≡ is_number_kind (get_or kinds i Other))
    → keys_from (7 + j) kinds ≡ passing test (length kinds) j
unfolding keys_from passing
keys_pass test [] j h = refl
keys_pass test (kind ∷ rest) j h =
    let here : test j ≡ is_number_kind kind = ap test (sym (add-zero j)) ∙ h 0 (omega arith) in
    let behind = keys_pass test rest (suc j) (λ i l. ap test (suc-add j i ∙ sym (add-suc j i)) ∙ h (suc i) (omega arith)) in
    ap₂ (λ (s t : List ℕ). s ++ t) (key_of_entry j kind) (ap (λ (n : ℕ). keys_from n rest) (sym (add-suc 7 j)) ∙ behind)
    ∙ sym (pass_one test (length rest) j (is_number_kind kind) here)

-- the lines of a head map nothing
head_key : (k : ℕ) (kind : Kind) → k < 7 → key_at k kind ≡ []
head_key k (Number n) h = ap (λ (t : Bool). pick t ((k - 7) ∷ []) []) (lt-leb 7 k h)
head_key k Frequency h = refl
head_key k Mark h = refl
head_key k Comment h = refl
head_key k Other h = refl

past_head : (d k : ℕ) (kinds : List Kind) → k + d ≡ 7 → keys_from k kinds ≡ keys_from 7 (drop d kinds)
unfolding keys_from
past_head zero k kinds e = ap (λ (n : ℕ). keys_from n kinds) (omega arith)
past_head (suc d) k [] e = refl
past_head (suc d) k (kind ∷ rest) e =
    ap (λ (s : List ℕ). s ++ keys_from (suc k) rest) (head_key k kind (omega arith)) ∙ past_head d (suc k) rest (omega arith)

pub entries_alone : (octave : ℕ) (kinds : List Kind) → length kinds ≡ 7 + octave
    → keys_from 0 kinds ≡ passing (λ k. is_number_kind (get_or kinds (7 + k) Other)) octave 0
entries_alone octave kinds e =
    let test : ℕ → Bool = λ k. is_number_kind (get_or kinds (7 + k) Other) in
    let count : length (drop 7 kinds) ≡ octave = omega (arith, length-drop 7 kinds) in
    past_head 7 0 kinds refl
    ∙ keys_pass test (drop 7 kinds) 0 (λ i h. ap (λ (n : ℕ). test n) (let z : 0 + i ≡ i = omega arith in z) ∙ sym (ap is_number_kind (get_or-drop 7 kinds i Other)))
    ∙ ap (λ (n : ℕ). passing test n 0) count

-- ---- an entry that is a number says its own key

number_said : Kind → ℕ
number_said (Number n) = n
number_said Frequency = 0
number_said Mark = 0
number_said Comment = 0
number_said Other = 0

number_said_lem : (n : ℕ) → number_said (Number n) ≡ n
unfolding number_said
number_said_lem n = refl

number_kind : (kind : Kind) → is_number_kind kind ≡ true → kind ≡ Number (number_said kind)
unfolding number_said
number_kind (Number n) e = refl
number_kind Frequency e = absurd (false≢true e)
number_kind Mark e = absurd (false≢true e)
number_kind Comment e = absurd (false≢true e)
number_kind Other e = absurd (false≢true e)

same_number : (m n : ℕ) → Number m ≡ Number n → m ≡ n
same_number m n e = sym (number_said_lem m) ∙ ap number_said e ∙ number_said_lem n

agreed : (octave k : ℕ) (kinds : List Kind) → all_agree octave k kinds ≡ true → (i n : ℕ) → i < length kinds → get_or kinds i Other ≡ Number n
    → n ≡ due octave (k + i)
unfolding all_agree
agreed octave k [] a i n h e = absurd (omega arith)
agreed octave k (kind ∷ rest) a zero n h e =
    eqb-true n (due octave k) (sym (ap (agrees_at octave k) e) ∙ and_left (agrees_at octave k kind) (all_agree octave (suc k) rest) a)
    ∙ ap (due octave) (sym (add-zero k))
agreed octave k (kind ∷ rest) a (suc i) n h e =
    agreed octave (suc k) rest (and_right (agrees_at octave k kind) (all_agree octave (suc k) rest) a) i n (omega arith) e
    ∙ ap (due octave) (suc-add k i ∙ sym (add-suc k i))

-- ---- a text that was read

module _ (octave : ℕ) (text keys : List ℕ) (e : read_outcome octave text ≡ given keys) where
  abbrev kinds : List Kind
  kinds = said (lines text)

  abbrev number : ℕ → Bool
  number k = is_number_kind (entry text k)

  lines_asked : has_lines octave text ≡ true
  unfolding read_outcome
  lines_asked = asked_yes 19 (has_lines octave text) _ e

  numbers_asked : has_numbers octave text ≡ true
  unfolding read_outcome
  numbers_asked = asked_yes 20 (has_numbers octave text) _ (asked_rest 19 (has_lines octave text) _ e)

  keys_are : keys_in text ≡ keys
  unfolding read_outcome
  keys_are = given_same (asked_rest 20 (has_numbers octave text) _ (asked_rest 19 (has_lines octave text) _ e))

  count_is : length kinds ≡ 7 + octave
  unfolding has_lines
  count_is =
      let tests = is_closed text && eqb (length kinds) (7 + octave) in
      eqb-true (length kinds) (7 + octave) (and_right (is_closed text) _ (and_left tests (all_fit 0 kinds) lines_asked))

  all_agree_lem : all_agree octave 0 kinds ≡ true
  unfolding has_numbers
  all_agree_lem = numbers_asked

  listed : keys ≡ passing number octave 0
  unfolding keys_in
  listed = sym keys_are ∙ entries_alone octave kinds count_is

  own : (key n : ℕ) → key < octave → entry text key ≡ Number n → n ≡ key
  own key n h q =
      agreed octave 0 kinds all_agree_lem (7 + key) n (omega (arith, count_is)) q
      ∙ ap (due octave) (let z : 0 + (7 + key) ≡ 7 + key = omega arith in z)
      ∙ due_entry octave (7 + key) (omega arith)
      ∙ (let z : 7 + key - 7 ≡ key = omega arith in z)

  is_own : (key : ℕ) → key < octave → number key ≡ true → entry text key ≡ Number key
  is_own key h t = let q = number_kind (entry text key) t in q ∙ ap (λ (n : ℕ). Number n) (own key (number_said (entry text key)) h q)

  pub keys_read : KeysAre octave text keys
  keys_read =
      record {
        rising = subst (RisingFrom 0) (sym listed) (passing_rise number octave 0);
        exactly = λ key. (
          λ m. let p = (passes_iff number octave key).0 (subst (λ (ks : List ℕ). Memᴰ key ks) listed m) in (p.0, is_own key p.0 p.1),
          λ p. subst (λ (ks : List ℕ). Memᴰ key ks) (sym listed) ((passes_iff number octave key).1 (p.0, ap is_number_kind p.1)),
        );
        own_number = own;
      }

pub no_answer : {A : Type 0} {a : A} (n : ℕ) → refused n ≡ given a → ⊥
no_answer n e = let z : ◌≡◌ {A = ℕ} 0 1 = cc in omega (arith, z)

pub keys_are_the_numbers : KeysAreTheNumbers
unfolding get_mapped_keys
keys_are_the_numbers r text keys e = by (layout_outcome r) refl e
  where
    by : (o : Outcome Layout) → layout_outcome r ≡ o → and_then o (λ (l : Layout). read_outcome l.octave text) ≡ given keys → KeysAre r.octave text keys
    by (given l) is f = subst (λ (n : ℕ). KeysAre n text keys) (octave_is r l is) (keys_read l.octave text keys f)
    by (refused n) is f = absurd (no_answer n f)
