-- Lines and their text are the same thing, told in two ways; so what is read goes by the lines alone.
use Prim.Native.Nat.{ℕ, ◌≤◌}
use native.Mathlib.Omega.{arith}
use mathlib.Core.Bool.{Bool, true, false}
use mathlib.Core.Path.{◌≡◌, refl, sym, ap, ap₂, ◌∙◌}
use mathlib.Core.List.{List, [], ◌∷◌, ◌++◌}
use lib.ListN.{length}
use lib.Dec.{eqb}
use borrow.Author.Tests.{ne_eqb, eqb-true, eqb-false}
use Rattle.answer.proofs.Asked.{and_left, and_right}
use Rattle.kbm_text.specs.Lines.{onto_first, lines, is_closed, ended, no_feed, no_feeds}
use Rattle.kbm_text.specs.Reading.{said}
use Rattle.kbm_text.specs.Theorems.{LinesAreTheText, OnlyLinesCount}
use Rattle.kbm_text.proofs.LineLaws.{lines_feed, lines_other}
use Rattle.kbm_text.proofs.Comments.{lines_line, closed_longer, closed_one, by_front, some_line, none_lines, outcome_of, outcome_is}

-- ---- from the text to its lines and back

ended_first : (bytes : List ℕ) (ls : List (List ℕ)) → ended (bytes ∷ ls) ≡ bytes ++ 10 ∷ ended ls
unfolding ended
ended_first bytes ls = refl

ended_none : ended [] ≡ []
unfolding ended
ended_none = refl

ended_onto : (b : ℕ) (ls : List (List ℕ)) → 1 ≤ length ls → ended (onto_first (b ∷ []) ls) ≡ b ∷ ended ls
ended_onto b [] h = absurd (omega arith)
ended_onto b (l ∷ ls) h = ended_first (b ∷ l) ls ∙ sym (ap (λ (t : List ℕ). b ∷ t) (ended_first l ls))

whole_by : (b : ℕ) (r : List ℕ) → 1 ≤ length (lines r) → ended (lines r) ≡ r → (test : Bool) → eqb b 10 ≡ test → ended (lines (b ∷ r)) ≡ b ∷ r
whole_by b r h i true e =
    let q = eqb-true b 10 e in
    ap ended (lines_feed b r q) ∙ ended_first [] (lines r) ∙ ap₂ (λ (x : ℕ) (t : List ℕ). x ∷ t) (sym q) i
whole_by b r h i false e =
    ap ended (lines_other b r (eqb-false b 10 e)) ∙ ended_onto b (lines r) h ∙ ap (λ (t : List ℕ). b ∷ t) i

whole : (text : List ℕ) → is_closed text ≡ true → ended (lines text) ≡ text
whole [] e = ap ended none_lines ∙ ended_none
whole (b ∷ []) e =
    let q = closed_one b e in
    ap ended (lines_feed b [] q ∙ ap (λ (ls : List (List ℕ)). [] ∷ ls) none_lines)
    ∙ ended_first [] []
    ∙ ap₂ (λ (x : ℕ) (t : List ℕ). x ∷ t) (sym q) ended_none
whole (b ∷ c ∷ r) e =
    let f = sym (closed_longer b c r) ∙ e in
    whole_by b (c ∷ r) (some_line c r f) (whole (c ∷ r) f) (eqb b 10) refl

-- ---- no line feed within

no_feed_onto : (b : ℕ) (ls : List (List ℕ)) → (b ≡ 10 → ⊥) → no_feeds ls ≡ true → no_feeds (onto_first (b ∷ []) ls) ≡ true
unfolding no_feeds no_feed
no_feed_onto b [] n e = refl
no_feed_onto b (l ∷ ls) n e = simp (ne_eqb b 10 n, e)

no_feed_by : (b : ℕ) (r : List ℕ) → no_feeds (lines r) ≡ true → (test : Bool) → eqb b 10 ≡ test → no_feeds (lines (b ∷ r)) ≡ true
unfolding no_feeds no_feed
no_feed_by b r i true e = ap no_feeds (lines_feed b r (eqb-true b 10 e)) ∙ i
no_feed_by b r i false e = let q = eqb-false b 10 e in ap no_feeds (lines_other b r q) ∙ no_feed_onto b (lines r) q i

no_feed_lem : (text : List ℕ) → no_feeds (lines text) ≡ true
unfolding no_feeds
no_feed_lem [] = ap no_feeds none_lines
no_feed_lem (b ∷ r) = no_feed_by b r (no_feed_lem r) (eqb b 10) refl

-- ---- from lines to a text and back

back_closed : (each : List (List ℕ)) → is_closed (ended each) ≡ true
unfolding is_closed
back_closed [] = ap is_closed ended_none
back_closed (l ∷ ls) = ap is_closed (ended_first l ls) ∙ by_front l (ended ls) ∙ back_closed ls

first_plain : (l : List ℕ) (ls : List (List ℕ)) → no_feeds (l ∷ ls) ≡ true → no_feed l ≡ true
unfolding no_feeds
first_plain l ls e = and_left (no_feed l) (no_feeds ls) e

rest_plain : (l : List ℕ) (ls : List (List ℕ)) → no_feeds (l ∷ ls) ≡ true → no_feeds ls ≡ true
unfolding no_feeds
rest_plain l ls e = and_right (no_feed l) (no_feeds ls) e

back_lines : (each : List (List ℕ)) → no_feeds each ≡ true → lines (ended each) ≡ each
back_lines [] e = ap lines ended_none ∙ none_lines
back_lines (l ∷ ls) e =
    ap lines (ended_first l ls)
    ∙ lines_line l (ended ls) (first_plain l ls e)
    ∙ ap (λ (m : List (List ℕ)). l ∷ m) (back_lines ls (rest_plain l ls e))

pub lines_are_the_text : LinesAreTheText
lines_are_the_text = record { whole = whole; no_feed_lem = no_feed_lem; back = λ each e. (back_closed each, back_lines each e) }

-- ---- what is read

pub only_lines_count : OnlyLinesCount
only_lines_count =
    record {
      same_lines = λ octave a b c d e. outcome_is octave a ∙ ap₂ (outcome_of octave) (c ∙ sym d) e ∙ sym (outcome_is octave b);
      left_over = λ octave text e. outcome_is octave text ∙ ap (λ (t : Bool). outcome_of octave t (said (lines text))) e;
    }
