-- Names lead back: the spellings that a key's name holds are found in its bytes, and each sounds the key.
use Rattle.std.specs.Prelude.{None, Option, Some}
use Prim.Native.Nat.{ℕ, suc, ◌+◌, ◌-◌, ◌<◌, ◌≤◌}
use native.Mathlib.Nat.{add-zero, div-le_self, mul-le-mul_right, one-mul}
use native.Mathlib.Numerals.{add-one}
use native.Mathlib.Omega.{arith}
use mathlib.Core.Path.{◌≡◌, refl, sym, ap, ap₂, ◌∙◌, subst}
use mathlib.Core.Bool.{Bool, true, false}
use mathlib.Core.List.{List, [], ◌∷◌, ◌++◌, append_assoc, append-nil, Memᴰ}
use lib.Dec.{ltb}
use lib.IntN.{ℤ}
use lib.ListN.{length, take, drop, replicate, length-append, length-replicate}
use lib.Seq.{take-append_seam, drop-append-add}
use borrow.Author.Tests.{ltb-true, ltb-false}
use Rattle.answer.specs.Choice.{pick}
use Rattle.answer.specs.Outcome.{given}
use Rattle.answer.proofs.Asked.{given_same}
use Rattle.genchain.specs.Chains.{chain_of}
use Rattle.math.specs.Division.{remainder}
use Rattle.pergen.specs.declared.Accidentals.{Accidentals}
use Rattle.pergen.specs.declared.Spelling.{Spelling}
use Rattle.pergen.specs.Pergen.{reduced, cycles, shown, cycle_of, key_cycle}
use Rattle.pergen.specs.Spelling.{stars_of}
use Rattle.pergen.proofs.DegreePlaces.{few_signs}
use Rattle.notes.specs.Names.{signs_in, spelling_text}
use Rattle.notes.specs.Parts.{is_present}
use Rattle.notes.specs.Reading.{leading, count as occurrences}
use Rattle.notes.proofs.Counting.{count_append}
use Rattle.notes.proofs.OneSpelling.{same_spelling}
use Rattle.notes.proofs.Printing.{Printed, one, two, printed_view, signs_of_lem, Of}
use Rattle.layout.specs.Layouts.{Layout, cycles_in, accidentals_in, sharp_first}
use Rattle.layout.specs.Names.{key_of, printed_in, cycle_in, text_in}
use Rattle.layout.specs.Theorems.{SoundsKey}
use Rattle.layout.proofs.Finding.{Parts, accepted}
use Rattle.layout.proofs.PatternShape.{pattern_shape}
use Rattle.layout.proofs.Naming.{same_sound, names_sound_their_key}
use Rattle.layout_reading.specs.Reading.{bytes_before}
use Rattle.layout_reading.specs.Answers.{typed_in, starless_in, with_stars, both_in, slashed_in, enclosed_in, named_in}
use Rattle.layout_reading.specs.Parts.{Before, RunAt}
use Rattle.layout_reading.specs.Theorems.{NamesLeadBack, TwoSpellingsLeadToTheirKey}
use Rattle.layout_reading.proofs.Keys.{same_key}
use Rattle.layout_reading.proofs.Calls.{starless_given, both_given, slash_parts, opened, find_slashed, find_enclosed, finding_given}
use Rattle.layout_reading.proofs.Undoing.{before_behind, Apart, slash_apart, close_apart, again_is, stars_read, reread, not_in_spelling, read_again, key_in}

-- ---- two spellings

-- of a spelling in a name
pub record Fit (l : Layout) (stars key : ℕ) (x : Spelling) : Type 0 where
  pub letter : x.index < l.letters
  pub few : signs_in x.signs < 4294967296
  pub stars_are : x.stars ≡ stars
  pub sounds : key_of l x ≡ key

module _ (l : Layout) (a : Parts l) where
  abbrev pub T : Spelling → List ℕ
  T x = spelling_text (chain_of l.chain).letters (sharp_first l) x

  module _ (stars key : ℕ) (x : Spelling) (f : Fit l stars key x) where
    lettered : x.index < length (chain_of l.chain).letters
    lettered = subst (λ (n : ℕ). x.index < n) a.letters_are f.letter

    no_byte : (b : ℕ) → Apart b → occurrences b (T x) ≡ 0
    no_byte b p = not_in_spelling l.chain a.chain (sharp_first l) x lettered b p

    starless_again : given (reread (with_stars 0 x)) ≡ starless_in l (T x)
    unfolding typed_in spelling_text
    starless_again =
        starless_given l (T x) (reread (with_stars 0 x))
        (subst (λ (t : List ℕ). given (reread (with_stars 0 x)) ≡ typed_in l t) (append-nil (T x))
        (read_again l.chain a.chain (sharp_first l) (with_stars 0 x) lettered f.few))
        refl

    sounds_again : key ≡ key_of l (with_stars stars (reread (with_stars 0 x)))
    sounds_again =
        let g = again_is true x.signs in
        sym (same_sound l (with_stars stars (reread (with_stars 0 x))) x
        (same_spelling (with_stars stars (reread (with_stars 0 x))) x refl g.sharps g.flats (sym f.stars_are))
        ∙ f.sounds)

  module _ (n key : ℕ) (s t : Spelling) (f : Fit l n key s) (g : Fit l n key t) (below : n < cycles_in l) where
    both_lead : given key ≡ both_in l n (T s) (T t)
    both_lead =
        let x = reread (with_stars 0 s) in
        let y = reread (with_stars 0 t) in
        both_given l n (T s) (T t) x (starless_again n key s f) y (starless_again n key t g) (cycles_in l) refl below (given key)
        (same_key l n x y key key (sounds_again n key s f) (sounds_again n key t g) refl)

    abbrev B : List ℕ
    B = T s ++ (47 ∷ T t)

    length_b : length B ≡ length (T s) + suc (length (T t))
    length_b = length-append (T s) (47 ∷ T t)

    at_slash : (rest : List ℕ) → bytes_before 47 (T s ++ (47 ∷ rest)) ≡ length (T s)
    unfolding bytes_before
    at_slash rest = before_behind 47 (T s) (47 ∷ rest) (no_byte n key s f 47 slash_apart) ∙ add-zero (length (T s))

    slash_in : Before 47 B (length (T s))
    slash_in = record { is = sym (at_slash (T t)); inside = omega (arith, length_b) }

    slashed_leads : given key ≡ slashed_in l n B
    slashed_leads =
        slash_parts l n B (length (T s)) slash_in (omega (arith, length_b)) (given key)
        (both_lead
        ∙ ap₂ (both_in l n) (sym (take-append_seam (T s) (47 ∷ T t))) (sym (drop-append-add (T s) (47 ∷ T t) 1)))

    -- in parentheses
    abbrev stars : List ℕ
    stars = replicate n 42

    abbrev W : List ℕ
    W = 40 ∷ (B ++ (41 ∷ stars))

    no_close : occurrences 41 B ≡ 0
    unfolding occurrences
    no_close =
        count_append 41 (T s) (47 ∷ T t)
        ∙ omega (arith, no_byte n key s f 41 close_apart, no_byte n key t g 41 close_apart)

    length_w : length W ≡ suc (length B + suc n)
    length_w = ap suc (length-append B (41 ∷ stars) ∙ ap (λ (k : ℕ). length B + suc k) (length-replicate {A = ℕ} n 42))

    close_in : Before 41 W (suc (length B))
    unfolding bytes_before
    close_in =
        record {
          is = ap suc (sym (before_behind 41 B (41 ∷ stars) no_close ∙ add-zero (length B)));
          inside = omega (arith, length_w);
        }

    behind_close : drop (suc (length B) + 1) W ≡ stars
    behind_close =
        ap (λ (k : ℕ). drop k W) (add-one (suc (length B)))
        ∙ ap (λ (k : ℕ). drop k (B ++ (41 ∷ stars))) (sym (add-one (length B)))
        ∙ drop-append-add B (41 ∷ stars) 1

    run_in : RunAt 42 (suc (length B) + 1) W n
    run_in =
        record { is = sym (ap (leading 42) behind_close ∙ stars_read n); inside = omega (arith, length_w) }

    enclosed_leads : given key ≡ enclosed_in l W
    enclosed_leads =
        let e : suc (length B) - 1 ≡ length B = omega arith in
        opened l W (suc (length B)) close_in (omega (arith, length_w)) n run_in refl (omega (arith, length_w)) (given key)
        (slashed_leads
        ∙ ap (slashed_in l n) (sym (ap (λ (k : ℕ). take k (B ++ (41 ∷ stars))) e ∙ take-append_seam B (41 ∷ stars))))

    slash_in_w : Before 47 W (suc (length (T s)))
    unfolding bytes_before
    slash_in_w =
        record {
          is =
              ap suc
              (sym (ap (bytes_before 47) (append_assoc (T s) (47 ∷ T t) (41 ∷ stars)) ∙ at_slash (T t ++ (41 ∷ stars))));
          inside = omega (arith, length_w, length_b);
        }

    two_lead : (c : Option ℕ) → is_present c ≡ ltb 1 (cycles_in l) → n ≡ stars_of c → given key ≡ named_in l (text_in l c (s ∷ t ∷ []))
    two_lead None p e =
        let text : text_in l None (s ∷ t ∷ []) ≡ B = simp append_assoc (ap (λ (x : List ℕ). T s ++ (47 ∷ x)) (append-nil (T t))) in
        find_slashed l B (length (T s)) slash_in (omega (arith, length_b)) (cycles_in l) refl (given key)
        (ltb-false 1 (cycles_in l) (sym p)) (slashed_leads ∙ ap (λ (k : ℕ). slashed_in l k B) e)
        ∙ ap (named_in l) (sym text)
    two_lead (Some m) p e =
        let text : text_in l (Some m) (s ∷ t ∷ []) ≡ W = rw e (simp append_assoc) in
        find_enclosed l W (suc (length (T s))) slash_in_w (omega (arith, length_w, length_b)) (cycles_in l) refl (given key)
        (ltb-true 1 (cycles_in l) (sym p)) enclosed_leads
        ∙ ap (named_in l) (sym text)

-- ---- two spellings that sound one key

shown_present : (n k : ℕ) → is_present (shown n k) ≡ ltb 1 n
shown_present n k = by (ltb 1 n)
  where
    by : (b : Bool) → is_present (pick b (Some k) None) ≡ b
    by true = refl
    by false = refl

shown_stars : (n k : ℕ) → k < n → k ≡ stars_of (shown n k)
shown_stars n k h = by (ltb 1 n) refl
  where
    by : (b : Bool) → ltb 1 n ≡ b → k ≡ stars_of (pick b (Some k) None)
    by true e = refl
    by false e = omega (arith, ltb-false 1 n e)

pub two_spellings_lead_to_their_key : TwoSpellingsLeadToTheirKey
two_spellings_lead_to_their_key r l e x y tx ty stars key =
    let a = accepted r l e in
    let n = x.stars in
    let c = shown (cycles_in l) n in
    sym (finding_given r (text_in l c (x ∷ y ∷ [])) l (sym e) (given (key_of l x))
    (two_lead l a n (key_of l x) x y
    (record { letter = tx.spelling.letter; few = tx.signs; stars_are = refl; sounds = refl })
    (record { letter = ty.spelling.letter; few = ty.signs; stars_are = stars; sounds = key })
    tx.spelling.stars c (shown_present (cycles_in l) n) (shown_stars (cycles_in l) n tx.spelling.stars)))

-- ---- a name

present : (P G : ℕ) (key : ℤ) → is_present (cycle_of P G key) ≡ ltb 1 (cycles P G)
unfolding cycle_of
present P G key = shown_present (cycles P G) (key_cycle P G key)

module _ (l : Layout) (a : Parts l) (small : l.octave ≤ 65535) (key : ℤ) where
  abbrev A : Accidentals
  A = accidentals_in l key

  few_in : (x : Spelling) → Of A x → signs_in x.signs < 4294967296
  unfolding accidentals_in reduced
  few_in x o =
      let shape = pattern_shape l a in
      let N = l.letters in
      let signs = A.sharp_count + A.flat_count in
      omega (
        arith,
        signs_of_lem A x o,
        few_signs l.octave l.generator N l.start key a.positive a.start_below shape.enough_keys,
        div-le_self l.octave (cycles l.octave l.generator),
        mul-le-mul_right signs (let one : 1 ≤ N = omega (arith, a.start_below) in one),
        one-mul signs,
        shape.enough_keys,
      )

  abbrev K : ℕ
  K = remainder key l.octave

  fit : (x : Spelling) → Of A x → SoundsKey l key x → Fit l (stars_of (cycle_in l key)) K x
  fit x o s = record { letter = s.spelling.letter; few = few_in x o; stars_are = s.stars; sounds = s.sounds }

  leads : (xs : List Spelling) → Printed A xs → ((x : Spelling) → Memᴰ x xs → SoundsKey l key x)
      → given K ≡ named_in l (text_in l (cycle_in l key) xs)
  leads xs (one s o) each =
      let e = each s (Memᴰ.head refl) in
      ap given (sym e.sounds)
      ∙ key_in l a s e.spelling (few_in s o)
      ∙ ap (λ (k : ℕ). named_in l (T l a s ++ replicate k 42)) e.stars
  leads xs (two s t o p n) each =
      let e = each s (Memᴰ.head refl) in
      let f = each t (Memᴰ.tail (Memᴰ.head refl)) in
      two_lead l a (stars_of (cycle_in l key)) K s t (fit s o e) (fit t p f)
      (subst (λ (k : ℕ). k < cycles_in l) e.stars e.spelling.stars)
      (cycle_in l key) (present l.octave l.generator key) refl

pub names_lead_back : NamesLeadBack
unfolding printed_in
names_lead_back r l e small key text q =
    let a = accepted r l e in
    let n = names_sound_their_key r l e key in
    let text_is : text_in l (cycle_in l key) (printed_in l key) ≡ text = given_same (sym n.bytes ∙ q) in
    sym (finding_given r text l (sym e) (given (remainder key l.octave))
    (leads l a small key (printed_in l key) (printed_view (sharp_first l) (accidentals_in l key)) n.each ∙ ap (named_in l) text_is))
