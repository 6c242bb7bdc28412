-- Nothing else leads to a key: a text that does is one spelling's, or that of two as a name holds them, and each sounds the key.
use Rattle.std.specs.Prelude.{None, Some}
use Prim.Native.Nat.{ℕ, zero, suc, ◌+◌, ◌-◌, ◌<◌}
use native.Mathlib.Numerals.{add-one}
use native.Mathlib.Omega.{arith}
use mathlib.Core.Path.{◌≡◌, refl, sym, ap, ap₂, ◌∙◌, subst}
use mathlib.Core.Bool.{Bool, true, false, ◌&&◌}
use mathlib.Core.Logic.{◌⊎◌, inl, inr}
use mathlib.Core.List.{List, [], ◌∷◌, ◌++◌, append_assoc, append-nil}
use lib.Dec.{eqb, ltb}
use lib.ListN.{length, get_or, take, drop, replicate}
use lib.Seq.{split_at}
use borrow.Author.Tests.{ltb-true, eqb-true}
use Rattle.answer.specs.Choice.{pick}
use Rattle.answer.specs.Outcome.{Outcome, given, refused, ask, and_then}
use Rattle.answer.proofs.Asked.{given_same, asked_yes, asked_rest, and_left, and_right}
use Rattle.genchain.specs.Chains.{chain_of}
use Rattle.pergen.specs.declared.Spelling.{Spelling}
use Rattle.notes.specs.Names.{signs_in, spelling_text}
use Rattle.notes.specs.Reading.{leading}
use Rattle.layout.specs.Layouts.{Layout, Accepted, layout_outcome, cycles_in, sharp_first}
use Rattle.layout.specs.Names.{key_of, text_in}
use Rattle.layout.proofs.Finding.{Parts, accepted}
use Rattle.layout_reading.specs.Reading.{in_front, bytes_before}
use Rattle.layout_reading.specs.Answers.{typed_in, spelling_in, with_stars, starless_in, key_of_both, both_in, slashed_in, enclosed_in, named_in, get_named_key}
use Rattle.layout_reading.specs.Theorems.{text_of, NamedByOne, NamedByTwo, NothingElseLeadsToAKey}
use Rattle.layout_reading.proofs.Texts.{placed, front_split, leading_split}
use Rattle.layout_reading.proofs.NothingElse.{told_in_lem, spelling_told}

abbrev Text : Layout → Spelling → List ℕ
Text l x = spelling_text (chain_of l.chain).letters (sharp_first l) x

no_answer : {A : Type 0} (n : ℕ) (a : A) → ◌≡◌ {A = Outcome A} (refused n) (given a) → ⊥
no_answer n a e = let z : ◌≡◌ {A = ℕ} 0 1 = cc in omega arith

-- ---- what 23 tells of a spelling without stars

record StarlessTold (l : Layout) (text : List ℕ) (x : Spelling) : Type 0 where
  letter : x.index < l.letters
  few : signs_in x.signs < 4294967296
  written : Text l x ≡ text

without_stars : (l : Layout) (x : Spelling) → x.stars ≡ 0 → Text l x ≡ text_of l x
without_stars l x e = sym (ap (λ (k : ℕ). Text l x ++ replicate k 42) e ∙ append-nil (Text l x))

starless_told : (l : Layout) → Parts l → (text : List ℕ) (x : Spelling) → starless_in l text ≡ given x → StarlessTold l text x
unfolding starless_in
starless_told l a text x e = by (typed_in l text) refl e
  where
    by : (o : Outcome Spelling) → typed_in l text ≡ o → and_then o (λ (y : Spelling). ask 23 (eqb y.stars 0) (given y)) ≡ given x
        → StarlessTold l text x
    by (refused n) q f = absurd (no_answer n x f)
    by (given y) q f =
        let b = eqb y.stars 0 in
        let t = told_in_lem l a text y q in
        let none : y.stars ≡ 0 = eqb-true y.stars 0 (asked_yes 23 b (given y) f) in
        subst (StarlessTold l text) (given_same (asked_rest 23 b (given y) f))
        (record { letter = t.letter; few = t.few; written = without_stars l y none ∙ t.written })

-- ---- of two

record BothTold (l : Layout) (n : ℕ) (one other : List ℕ) (key : ℕ) : Type 0 where
  first : Spelling
  second : Spelling
  first_told : StarlessTold l one first
  second_told : StarlessTold l other second
  below : n < cycles_in l
  first_key : key_of l (with_stars n first) ≡ key
  second_key : key_of l (with_stars n second) ≡ key

one_told : (l : Layout) (n : ℕ) (x y : Spelling) (key : ℕ) → key_of_both l n x y ≡ given key
    → (key_of l (with_stars n x) ≡ key) × (key_of l (with_stars n y) ≡ key)
unfolding key_of_both
one_told l n x y key e =
    let one = key_of l (with_stars n x) in
    let other = key_of l (with_stars n y) in
    let first : one ≡ key = given_same (asked_rest 24 (eqb one other) (given one) e) in
    (first, sym (eqb-true one other (asked_yes 24 (eqb one other) (given one) e)) ∙ first)

both_told : (l : Layout) → Parts l → (n : ℕ) (one other : List ℕ) (key : ℕ) → both_in l n one other ≡ given key → BothTold l n one other key
unfolding both_in
both_told l a n one other key e = by (starless_in l one) refl (starless_in l other) refl e
  where
    by : (o : Outcome Spelling) → starless_in l one ≡ o → (p : Outcome Spelling) → starless_in l other ≡ p
        → and_then o (λ (x : Spelling). and_then p (λ (y : Spelling). ask 21 (ltb n (cycles_in l)) (key_of_both l n x y))) ≡ given key
        → BothTold l n one other key
    by (refused m) q p s f = absurd (no_answer m key f)
    by (given x) q (refused m) s f = absurd (no_answer m key f)
    by (given x) q (given y) s f =
        let b = ltb n (cycles_in l) in
        let keys = one_told l n x y key (asked_rest 21 b (key_of_both l n x y) f) in
        record {
          first = x;
          second = y;
          first_told = starless_told l a one x q;
          second_told = starless_told l a other y s;
          below = ltb-true n (cycles_in l) (asked_yes 21 b (key_of_both l n x y) f);
          first_key = keys.0;
          second_key = keys.1;
        }

-- ---- with / between

at_place : (b : ℕ) (text : List ℕ) → bytes_before b text < length text
    → take (bytes_before b text) text ++ (b ∷ drop (bytes_before b text + 1) text) ≡ text
at_place b text h =
    let p = bytes_before b text in
    ap₂ (λ (x k : ℕ). take p text ++ (x ∷ drop k text)) (sym (placed b text h)) (add-one p)
    ∙ sym (split_at text p 0 h)

record SlashedTold (l : Layout) (n : ℕ) (text : List ℕ) (key : ℕ) : Type 0 where
  first : Spelling
  second : Spelling
  first_letter : first.index < l.letters
  second_letter : second.index < l.letters
  first_few : signs_in first.signs < 4294967296
  second_few : signs_in second.signs < 4294967296
  written : Text l first ++ (47 ∷ Text l second) ≡ text
  below : n < cycles_in l
  first_key : key_of l (with_stars n first) ≡ key
  second_key : key_of l (with_stars n second) ≡ key

slashed_told : (l : Layout) → Parts l → (n : ℕ) (text : List ℕ) (key : ℕ) → slashed_in l n text ≡ given key → SlashedTold l n text key
unfolding slashed_in
slashed_told l a n text key e =
    let p = bytes_before 47 text in
    let b = ltb p (length text) in
    let rest = both_in l n (take p text) (drop (p + 1) text) in
    let t = both_told l a n (take p text) (drop (p + 1) text) key (asked_rest 23 b rest e) in
    record {
      first = t.first;
      second = t.second;
      first_letter = t.first_told.letter;
      second_letter = t.second_told.letter;
      first_few = t.first_told.few;
      second_few = t.second_told.few;
      written =
          ap₂ (λ (s u : List ℕ). s ++ (47 ∷ u)) t.first_told.written t.second_told.written
          ∙ at_place 47 text (ltb-true p (length text) (asked_yes 23 b rest e));
      below = t.below;
      first_key = t.first_key;
      second_key = t.second_key;
    }

-- ---- in parentheses

-- of a text that in_front with another byte than is looked for, what stands between
between : (text : List ℕ) (p : ℕ) → in_front (40 ∷ []) text ≡ true → get_or text p 0 ≡ 41 → take p text ≡ 40 ∷ take (p - 1) (drop 1 text)
between text zero e q =
    absurd
    (let f = ap (λ (t : List ℕ). get_or t 0 0) (front_split (40 ∷ []) text e) in
    let z : ⊥ = omega arith in z)
between text (suc p) e q =
    sym (ap (take (suc p)) (front_split (40 ∷ []) text e))
    ∙ ap (λ (k : ℕ). 40 ∷ take k (drop 1 text)) (let s : p ≡ suc p - 1 = omega arith in s)

stars_aside : (l : Layout) (n : ℕ) (x : Spelling) → Text l (with_stars n x) ≡ Text l x
unfolding spelling_text
stars_aside l n x = refl

slashed_text : (l : Layout) (x y : Spelling) → text_in l None (x ∷ y ∷ []) ≡ Text l x ++ (47 ∷ Text l y)
slashed_text l x y = simp append_assoc (ap (λ (t : List ℕ). Text l x ++ (47 ∷ t)) (append-nil (Text l y)))

enclosed_text : (l : Layout) (n : ℕ) (x y : Spelling)
    → text_in l (Some n) (x ∷ y ∷ []) ≡ 40 ∷ ((Text l x ++ (47 ∷ Text l y)) ++ (41 ∷ replicate n 42))
enclosed_text l n x y = simp append_assoc

-- stars alone
dropped : (u : List ℕ) → drop (length u) u ≡ []
dropped [] = refl
dropped (x ∷ u) = dropped u

all_of : (s : List ℕ) → leading 42 s ≡ length s → replicate (length s) 42 ≡ s
all_of s q =
    sym (append-nil (replicate (length s) 42))
    ∙ ap₂ (λ (k : ℕ) (r : List ℕ). replicate k 42 ++ r) (sym q) (sym (ap (λ (k : ℕ). drop k s) q ∙ dropped s))
    ∙ leading_split 42 s

module _ (l : Layout) (a : Parts l) (text : List ℕ) (key : ℕ) where
  -- both spellings get the stars; one cycle, or several
  two_of : (c : Bool) → ltb 1 (cycles_in l) ≡ c → (n : ℕ) (inside : List ℕ) (t : SlashedTold l n inside key)
      → text_in l (pick c (Some n) None) (with_stars n t.first ∷ with_stars n t.second ∷ []) ≡ text → NamedByTwo l text key
  two_of c e n inside t w =
      record {
        first = with_stars n t.first;
        second = with_stars n t.second;
        first_typable = record { spelling = record { letter = t.first_letter; stars = t.below }; signs = t.first_few };
        second_typable = record { spelling = record { letter = t.second_letter; stars = t.below }; signs = t.second_few };
        same_stars = refl;
        written =
            ap (λ (b : Bool). text_in l (pick b (Some n) None) (with_stars n t.first ∷ with_stars n t.second ∷ [])) e ∙ w;
        first_sounds = t.first_key;
        second_sounds = t.second_key;
      }

  starless : (n : ℕ) (inside : List ℕ) (t : SlashedTold l n inside key)
      → Text l (with_stars n t.first) ++ (47 ∷ Text l (with_stars n t.second)) ≡ inside
  starless n inside t =
      ap₂ (λ (x y : List ℕ). x ++ (47 ∷ y)) (stars_aside l n t.first) (stars_aside l n t.second) ∙ t.written

  slashed_found : ltb 1 (cycles_in l) ≡ false → slashed_in l 0 text ≡ given key → NamedByTwo l text key
  slashed_found c e =
      let t = slashed_told l a 0 text key e in
      two_of false c 0 text t (slashed_text l (with_stars 0 t.first) (with_stars 0 t.second) ∙ starless 0 text t)

  enclosed_found : ltb 1 (cycles_in l) ≡ true → enclosed_in l text ≡ given key → NamedByTwo l text key
  unfolding enclosed_in
  enclosed_found c e =
      let p = bytes_before 41 text in
      let stars = drop (p + 1) text in
      let n = length stars in
      let inside = take (p - 1) (drop 1 text) in
      let o = in_front (40 ∷ []) text in
      let i = ltb p (length text) in
      let s = eqb (leading 42 stars) n in
      let test = asked_yes 23 (o && (i && s)) (slashed_in l n inside) e in
      let later = and_right o (i && s) test in
      let below : p < length text = ltb-true p (length text) (and_left i s later) in
      let t = slashed_told l a n inside key (asked_rest 23 (o && (i && s)) (slashed_in l n inside) e) in
      let run : replicate n 42 ≡ stars = all_of stars (eqb-true (leading 42 stars) n (and_right i s later)) in
      two_of true c n inside t
      (enclosed_text l n (with_stars n t.first) (with_stars n t.second)
      ∙ ap₂ (λ (x y : List ℕ). (40 ∷ x) ++ (41 ∷ y)) (starless n inside t) run
      ∙ ap (λ (x : List ℕ). x ++ (41 ∷ stars)) (sym (between text p (and_left o (i && s) test) (placed 41 text below)))
      ∙ at_place 41 text below)

  one_found : and_then (spelling_in l text) (λ (x : Spelling). given (key_of l x)) ≡ given key → NamedByOne l text key
  one_found e = by (spelling_in l text) refl e
    where
      by : (o : Outcome Spelling) → spelling_in l text ≡ o → and_then o (λ (x : Spelling). given (key_of l x)) ≡ given key → NamedByOne l text key
      by (refused n) q f = absurd (no_answer n key f)
      by (given x) q f =
          let t = spelling_told l a text x q in
          record { first = x; typable = t.0; written = t.1; sounds = given_same f }

  found_in : named_in l text ≡ given key → NamedByOne l text key ⊎ NamedByTwo l text key
  unfolding named_in
  found_in e = by (ltb (bytes_before 47 text) (length text)) (ltb 1 (cycles_in l)) refl e
    where
      by : (b c : Bool) → ltb 1 (cycles_in l) ≡ c
          → pick b (pick c (enclosed_in l text) (slashed_in l 0 text)) (and_then (spelling_in l text) (λ (x : Spelling). given (key_of l x))) ≡ given key
          → NamedByOne l text key ⊎ NamedByTwo l text key
      by false c q f = inl (one_found f)
      by true true q f = inr (enclosed_found q f)
      by true false q f = inr (slashed_found q f)

pub nothing_else_leads_to_a_key : NothingElseLeadsToAKey
unfolding get_named_key
nothing_else_leads_to_a_key r text key e = by (layout_outcome r) refl e
  where
    by : (o : Outcome Layout) → layout_outcome r ≡ o → and_then o (λ (l : Layout). named_in l text) ≡ given key
        → (l : Layout) × Accepted r l × (NamedByOne l text key ⊎ NamedByTwo l text key)
    by (refused n) q f = absurd (no_answer n key f)
    by (given l) q f = (l, q, found_in l (accepted r l q) text key f)
