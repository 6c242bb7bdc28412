-- What the code finds in a text is the spelling of the definitions, and its test on lengths is theirs: signs and stars are all that stands
-- behind the letter.
use Prim.Native.Nat.{ℕ, ◌+◌, ◌<◌, ◌≤◌}
use native.Mathlib.Omega.{arith}
use mathlib.Core.Path.{◌≡◌, refl, sym, ap, ◌∙◌, subst}
use mathlib.Core.Bool.{Bool, true, false, ◌&&◌}
use mathlib.Core.Logic.{◌⊎◌, inl, inr, ⊎_elim}
use mathlib.Core.List.{List, ◌++◌}
use lib.Dec.{eqb}
use lib.ListN.{length, get_or, drop, length-append, length-drop, length-replicate}
use lib.Seq.{drop-drop}
use borrow.Author.Count.{below_more}
use borrow.Author.Tests.{lt-ltb, le-ltb, eq-eqb, ne_eqb, eqb-true, eqb-false}
use Rattle.answer.specs.Choice.{pick}
use Rattle.answer.specs.Outcome.{given, refused, ask}
use Rattle.genchain.specs.Chains.{TableRow, letters_in}
use Rattle.genchain.specs.declared.rows.ChainRow.{ChainRow}
use Rattle.genchain.proofs.TableRows.{length_letters_in}
use Rattle.pergen.specs.declared.Signs.{Signs}
use Rattle.pergen.specs.declared.Signs.TheVariants.{Sharps, Flats}
use Rattle.pergen.specs.declared.Spelling.{Spelling}
use Rattle.notes.specs.Names.{sharp_sign, flat_sign, signs_in, signs_text, letter_text, letter_at}
use Rattle.notes.specs.Reading.{past_letter, leading}
use Rattle.notes.proofs.RowLetters.{letter_inside}
use Rattle.layout_reading.specs.Reading.{in_front, letter_index, signs_from, spelling_in_front, is_whole, read_spelling}
use Rattle.layout_reading.specs.Parts.{RunAt, FrontFound, MarksFound}
use Rattle.layout_reading.specs.declared.spellings.Front.{Front}
use Rattle.layout_reading.specs.declared.spellings.Marks.{Marks}
use Rattle.layout_reading.proofs.Texts.{front_split, leading_split, one_leads}
use Rattle.layout_reading.proofs.FrontLetters.{FrontIs, index_at, index_none, index_begins, past_front}

-- ---- the letter

begun_inside : (bytes text : List ℕ) → in_front bytes text ≡ true → length bytes ≤ length text
begun_inside bytes text e =
    omega (arith, length-append bytes (drop (length bytes) text), ap length (front_split bytes text e))

abbrev pub Passed : List ℕ → List ℕ → ℕ → Type 0
Passed letters text n = (j : ℕ) → j < n → FrontIs letters text j ≡ false

module _ (row : ChainRow) (t : TableRow row) (text : List ℕ) where
  abbrev L : List ℕ
  L = letters_in row

  module _ (place : ℕ) (below : place < row.num_letters) (passed : Passed L text place) (b : Bool)
      (is : b ≡ in_front (letter_text (get_or row.letters place 0)) text) where
    begins_is : b ≡ FrontIs L text place
    begins_is = is ∙ ap (λ (c : ℕ). in_front (letter_text c) text) (letter_inside row t place below)

    pub front_found : b ≡ true → (n : ℕ) → n ≡ length (letter_text (get_or row.letters place 0))
        → FrontFound L text (record { index = place; bytes = n })
    front_found e n q =
        record {
          index_is = sym (index_at L text place (omega (arith, length_letters_in row t)) passed (sym begins_is ∙ e));
          index_below = omega (arith, length_letters_in row t);
          bytes_are = q ∙ ap (λ (c : ℕ). length (letter_text c)) (letter_inside row t place below);
          inside = subst (λ (k : ℕ). k ≤ length text) (sym q) (begun_inside _ text (sym is ∙ e));
        }

    pub passed_more : b ≡ false → Passed L text (place + 1)
    passed_more e = below_more (λ j. FrontIs L text j ≡ false) place passed (sym begins_is ∙ e)

  pub front_none : (place : ℕ) → row.num_letters ≤ place → Passed L text place → letter_index L text ≡ length L
  front_none place past passed = index_none L text (λ j k. passed j (omega (arith, length_letters_in row t)))

-- ---- the marks

other_sign : (sf : Bool) → sharp_sign sf ≡ flat_sign sf → ⊥
other_sign true e = omega arith
other_sign false e = omega arith

module _ (sf : Bool) (at : ℕ) (text : List ℕ) (b d s f : ℕ) (bs : b ≡ sharp_sign sf) (ds : d ≡ flat_sign sf)
    (rs : RunAt b at text s) (rf : RunAt d at text f) where
  sharps_are : s ≡ leading (sharp_sign sf) (drop at text)
  sharps_are = rs.is ∙ ap (λ (x : ℕ). leading x (drop at text)) bs

  flats_are : f ≡ leading (flat_sign sf) (drop at text)
  flats_are = rf.is ∙ ap (λ (x : ℕ). leading x (drop at text)) ds

  pub marks_inside : at + (s + f) ≤ length text
  marks_inside =
      ⊎_elim (λ e. omega (arith, sharps_are, rf.inside)) (λ e. omega (arith, flats_are, rs.inside))
      (one_leads (sharp_sign sf) (flat_sign sf) (drop at text) (other_sign sf))

  pub marks_found : (k : ℕ) → RunAt 42 (at + (s + f)) text k → MarksFound sf at text (record { sharps = s; flats = f; stars = k })
  marks_found k r =
      record {
        sharps_are = sharps_are;
        flats_are = flats_are;
        stars_are = r.is ∙ ap (leading 42) (sym (drop-drop (s + f) at text));
        inside = r.inside;
      }

-- ---- the signs, one kind of them

none_or : (sf : Bool) (t : List ℕ) (s f : ℕ) → s ≡ leading (sharp_sign sf) t → f ≡ leading (flat_sign sf) t → (s ≡ 0) ⊎ (f ≡ 0)
none_or sf t s f es ef =
    ⊎_elim (λ e. inl (es ∙ e)) (λ e. inr (ef ∙ e)) (one_leads (sharp_sign sf) (flat_sign sf) t (other_sign sf))

pub record Signed (sf : Bool) (t : List ℕ) (s f : ℕ) (x : Signs) : Type 0 where
  pub front : signs_text sf x ++ drop (s + f) t ≡ t
  pub count : signs_in x ≡ s + f
  pub bytes : length (signs_text sf x) ≡ s + f

pub signed : (sf : Bool) (t : List ℕ) (s f : ℕ) → s ≡ leading (sharp_sign sf) t → f ≡ leading (flat_sign sf) t → Signed sf t s f (signs_from s f)
signed sf t s f es ef = by (eqb f 0) refl
  where
    by : (k : Bool) → eqb f 0 ≡ k → Signed sf t s f (pick k (Sharps s) (Flats f))
    by true q =
        let z : f ≡ 0 = eqb-true f 0 q in
        let n : s + f ≡ s = omega arith in
        record {
          front = rw (n, es) (leading_split (sharp_sign sf) t);
          count = sym n;
          bytes = length-replicate {A = ℕ} s (sharp_sign sf) ∙ sym n;
        }
    by false q =
        let z : s ≡ 0 = ⊎_elim (λ e. e) (λ e. absurd (eqb-false f 0 q e)) (none_or sf t s f es ef) in
        let n : s + f ≡ f = omega arith in
        record {
          front = rw (n, ef) (leading_split (flat_sign sf) t);
          count = sym n;
          bytes = length-replicate {A = ℕ} f (flat_sign sf) ∙ sym n;
        }

-- as the code chooses them
abbrev pub SignsAre : (s f : ℕ) → Signs → Type 0
SignsAre s f x = ((f ≡ 0) × (x ≡ Sharps s)) ⊎ ((f ≡ 0 → ⊥) × (x ≡ Flats f))

signs_by : (s f : ℕ) (x : Signs) → SignsAre s f x → x ≡ signs_from s f
signs_by s f x (inl (e, q)) = q ∙ sym (ap (λ (b : Bool). pick b (Sharps s) (Flats f)) (eq-eqb f 0 e))
signs_by s f x (inr (e, q)) = q ∙ sym (ap (λ (b : Bool). pick b (Sharps s) (Flats f)) (ne_eqb f 0 e))

-- ---- the whole text

abbrev pub made : Front → Marks → Spelling
made h m = record { index = h.index; signs = signs_from m.sharps m.flats; stars = m.stars }

pub no_letter : (letters : List ℕ) (sf : Bool) (text : List ℕ) → letter_index letters text ≡ length letters → refused 23 ≡ read_spelling letters sf text
unfolding read_spelling is_whole spelling_in_front
no_letter letters sf text e = simp (le-ltb (letter_index letters text) (length letters) (omega (arith, e)))

module _ (letters : List ℕ) (sf : Bool) (text : List ℕ) (h : Front) (front : FrontFound letters text h) (m : Marks)
    (marks : MarksFound sf h.bytes text m)
  where
    abbrev lt : h.index < length letters
    lt = front.index_below

    abbrev X : Spelling
    X = made h m

    abbrev t : List ℕ
    t = drop h.bytes text

    behind : past_letter text ≡ t
    behind =
        past_front (letter_at letters h.index) text
        (subst (λ (i : ℕ). FrontIs letters text i ≡ true) (sym front.index_is)
        (index_begins letters text (subst (λ (i : ℕ). i < length letters) front.index_is lt)))
        ∙ ap (λ (n : ℕ). drop n text) (sym front.bytes_are)

    found_is : spelling_in_front letters sf text ≡ X
    unfolding spelling_in_front
    found_is = rw (behind, ← front.index_is, ← marks.sharps_are, ← marks.flats_are, ← marks.stars_are) refl

    signs_are : Signed sf t m.sharps m.flats X.signs
    signs_are = signed sf t m.sharps m.flats marks.sharps_are marks.flats_are

    length_behind : length (past_letter text) + h.bytes ≡ length text
    length_behind = omega (arith, ap length behind, length-drop h.bytes text, front.inside)

    by_found : read_spelling letters sf text ≡ ask 23 (is_whole letters text X) (given X)
    unfolding read_spelling
    by_found = ap (λ (x : Spelling). ask 23 (is_whole letters text x) (given x)) found_is

    pub left_over : h.bytes + (m.sharps + m.flats) + m.stars < length text → refused 23 ≡ read_spelling letters sf text
    unfolding is_whole
    left_over k =
        sym (by_found
        ∙ simp (lt-ltb h.index (length letters) lt, ne_eqb (signs_in X.signs + m.stars) (length (past_letter text)) (λ e. omega (arith, signs_are.count, length_behind))))

    pub too_many : 4294967295 < m.sharps + m.flats → refused 23 ≡ read_spelling letters sf text
    unfolding is_whole
    too_many k =
        sym (by_found
        ∙ simp (lt-ltb h.index (length letters) lt, le-ltb (signs_in X.signs) 4294967296 (omega (arith, signs_are.count)))
        (by (eqb (signs_in X.signs + m.stars) (length (past_letter text)))))
      where
        by : (b : Bool) → ask 23 (b && false) (given X) ≡ refused 23
        by true = refl
        by false = refl

    module _ (all : length text ≤ h.bytes + (m.sharps + m.flats) + m.stars) (few : m.sharps + m.flats ≤ 4294967295) where
      read_as : given X ≡ read_spelling letters sf text
      unfolding is_whole
      read_as =
          sym (by_found
          ∙ simp (
            lt-ltb h.index (length letters) lt,
            eq-eqb (signs_in X.signs + m.stars) (length (past_letter text)) (omega (arith, signs_are.count, length_behind, marks.inside)),
            lt-ltb (signs_in X.signs) 4294967296 (omega (arith, signs_are.count)),
          ))

      -- .. with these signs
      pub read_signed : (x : Signs) → SignsAre m.sharps m.flats x → given (record { index = h.index; signs = x; stars = m.stars }) ≡ read_spelling letters sf text
      read_signed x is = ap (λ (y : Signs). given (record { index = h.index; signs = y; stars = m.stars })) (signs_by m.sharps m.flats x is) ∙ read_as
