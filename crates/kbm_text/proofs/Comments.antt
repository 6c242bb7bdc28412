-- Whole lines, put before a text, come first; a comment line among them says nothing.
use Prim.Native.Nat.{ℕ, suc, ◌+◌, ◌-◌, ◌≤◌}
use native.Mathlib.Omega.{arith}
use mathlib.Core.Bool.{Bool, true, false, ◌&&◌, not}
use mathlib.Core.Path.{◌≡◌, refl, sym, ap, ap₂, ◌∙◌}
use mathlib.Core.List.{List, [], ◌∷◌, ◌++◌, append_assoc}
use lib.ListN.{length, get_or}
use lib.Dec.{eqb}
use borrow.Author.Tests.{eqb-true, eqb-false, not-true}
use Rattle.answer.specs.Outcome.{Outcome, given, ask}
use Rattle.answer.proofs.Asked.{and_left, and_right}
use Rattle.kbm_text.specs.Lines.{onto_first, lines, is_closed, no_feed}
use Rattle.kbm_text.specs.Kinds.{kind_of}
use Rattle.kbm_text.specs.Reading.{not_comment, said, all_fit, all_agree, keys_from, read_outcome}
use Rattle.kbm_text.specs.Theorems.{CommentsSkipped}
use Rattle.kbm_text.specs.declared.kinds.Kind.{Kind}
use Rattle.kbm_text.specs.declared.kinds.Kind.TheVariants.{Comment}
use Rattle.kbm_text.proofs.LineLaws.{lines_feed, lines_other}

-- ---- one line

no_feed_first : (byte : ℕ) (rest : List ℕ) → no_feed (byte ∷ rest) ≡ true → byte ≡ 10 → ⊥
unfolding no_feed
no_feed_first byte rest e = eqb-false byte 10 (not-true (eqb byte 10) (and_left (not (eqb byte 10)) (no_feed rest) e))

no_feed_rest : (byte : ℕ) (rest : List ℕ) → no_feed (byte ∷ rest) ≡ true → no_feed rest ≡ true
unfolding no_feed
no_feed_rest byte rest e = and_right (not (eqb byte 10)) (no_feed rest) e

pub lines_line : (s t : List ℕ) → no_feed s ≡ true → lines (s ++ 10 ∷ t) ≡ s ∷ lines t
lines_line [] t e = lines_feed 10 t refl
lines_line (b ∷ s) t e =
    lines_other b (s ++ 10 ∷ t) (no_feed_first b s e)
    ∙ ap (onto_first (b ∷ [])) (lines_line s t (no_feed_rest b s e))

-- ---- the last byte

pub closed_longer : (b c : ℕ) (r : List ℕ) → is_closed (b ∷ c ∷ r) ≡ is_closed (c ∷ r)
unfolding is_closed
closed_longer b c r =
    let p : suc (suc (length r)) - 1 ≡ suc (length r) = omega arith in
    let q : suc (length r) - 1 ≡ length r = omega arith in
    ap (λ (n : ℕ). eqb (get_or (b ∷ c ∷ r) n 10) 10) p ∙ sym (ap (λ (n : ℕ). eqb (get_or (c ∷ r) n 10) 10) q)

pub closed_one : (b : ℕ) → is_closed (b ∷ []) ≡ true → b ≡ 10
unfolding is_closed
closed_one b e = eqb-true b 10 e

closed_feed : (b : ℕ) (x : List ℕ) → b ≡ 10 → is_closed (b ∷ x) ≡ is_closed x
unfolding is_closed
closed_feed b [] e = ap (λ (n : ℕ). eqb n 10) e
closed_feed b (c ∷ x) e = closed_longer b c x

pub closed_append : (a x : List ℕ) → is_closed a ≡ true → is_closed (a ++ x) ≡ is_closed x
closed_append [] x e = refl
closed_append (b ∷ []) x e = closed_feed b x (closed_one b e)
closed_append (b ∷ c ∷ r) x e = closed_longer b c (r ++ x) ∙ closed_append (c ∷ r) x (sym (closed_longer b c r) ∙ e)

-- what stands before a line feed does not matter
pub by_front : (s a : List ℕ) → is_closed (s ++ 10 ∷ a) ≡ is_closed a
by_front [] a = closed_feed 10 a refl
by_front (b ∷ []) a = closed_longer b 10 a ∙ closed_feed 10 a refl
by_front (b ∷ c ∷ s) a = closed_longer b c (s ++ 10 ∷ a) ∙ by_front (c ∷ s) a

-- ---- whole lines first

length_onto : (s : List ℕ) (ls : List (List ℕ)) → length (onto_first s ls) ≡ length ls
length_onto s [] = refl
length_onto s (l ∷ ls) = refl

onto_front : (s : List ℕ) (ls ms : List (List ℕ)) → 1 ≤ length ls → onto_first s (ls ++ ms) ≡ onto_first s ls ++ ms
onto_front s [] ms h = absurd (omega arith)
onto_front s (l ∷ ls) ms h = refl

some_by : (b : ℕ) (r : List ℕ) → (1 ≤ length (lines r)) → (test : Bool) → eqb b 10 ≡ test → 1 ≤ length (lines (b ∷ r))
some_by b r h true e = rw (lines_feed b r (eqb-true b 10 e)) (omega arith)
some_by b r h false e = rw (lines_other b r (eqb-false b 10 e)) (omega (arith, length_onto (b ∷ []) (lines r)))

pub some_line : (b : ℕ) (r : List ℕ) → is_closed (b ∷ r) ≡ true → 1 ≤ length (lines (b ∷ r))
some_line b [] e = rw (lines_feed b [] (closed_one b e)) (omega arith)
some_line b (c ∷ r) e = some_by b (c ∷ r) (some_line c r (sym (closed_longer b c r) ∙ e)) (eqb b 10) refl

lines_by : (b : ℕ) (r x : List ℕ) → 1 ≤ length (lines r) → lines (r ++ x) ≡ lines r ++ lines x → (test : Bool) → eqb b 10 ≡ test
    → lines (b ∷ r ++ x) ≡ lines (b ∷ r) ++ lines x
lines_by b r x h i true e =
    let q = eqb-true b 10 e in
    lines_feed b (r ++ x) q ∙ ap (λ (ls : List (List ℕ)). [] ∷ ls) i ∙ sym (ap (λ (ls : List (List ℕ)). ls ++ lines x) (lines_feed b r q))
lines_by b r x h i false e =
    let q = eqb-false b 10 e in
    lines_other b (r ++ x) q
    ∙ ap (onto_first (b ∷ [])) i
    ∙ onto_front (b ∷ []) (lines r) (lines x) h
    ∙ sym (ap (λ (ls : List (List ℕ)). ls ++ lines x) (lines_other b r q))

pub none_lines : lines [] ≡ []
unfolding lines
none_lines = refl

pub lines_append : (a x : List ℕ) → is_closed a ≡ true → lines (a ++ x) ≡ lines a ++ lines x
lines_append [] x e = sym (ap (λ (ls : List (List ℕ)). ls ++ lines x) none_lines)
lines_append (b ∷ []) x e =
    let q = closed_one b e in
    lines_feed b x q
    ∙ sym (ap (λ (ls : List (List ℕ)). ls ++ lines x) (lines_feed b [] q ∙ ap (λ (ls : List (List ℕ)). [] ∷ ls) none_lines))
lines_append (b ∷ c ∷ r) x e =
    let f = sym (closed_longer b c r) ∙ e in
    lines_by b (c ∷ r) x (some_line c r f) (lines_append (c ∷ r) x f) (eqb b 10) refl

said_append : (ls ms : List (List ℕ)) → said (ls ++ ms) ≡ said ls ++ said ms
unfolding said
said_append [] ms = refl
said_append (l ∷ ls) ms = ap (λ (ks : List Kind). not_comment (kind_of l) ++ ks) (said_append ls ms) ∙ sym (append_assoc (not_comment (kind_of l)) (said ls) (said ms))

-- ---- comments

comment_kind : (comment : List ℕ) → kind_of (33 ∷ comment) ≡ Comment
unfolding kind_of
comment_kind comment = refl

comment_said : (comment : List ℕ) (ls : List (List ℕ)) → said ((33 ∷ comment) ∷ ls) ≡ said ls
unfolding said
comment_said comment ls = ap (λ (k : Kind). not_comment k ++ said ls) (comment_kind comment)

comment_plain : (comment : List ℕ) → no_feed comment ≡ true → no_feed (33 ∷ comment) ≡ true
unfolding no_feed
comment_plain comment e = e

-- an outcome depends on the last byte and on what is said
abbrev pub outcome_of : ℕ → Bool → List Kind → Outcome (List ℕ)
outcome_of octave closed kinds =
    ask 19 (closed && eqb (length kinds) (7 + octave) && all_fit 0 kinds) (ask 20 (all_agree octave 0 kinds) (given (keys_from 0 kinds)))

pub outcome_is : (octave : ℕ) (text : List ℕ) → read_outcome octave text ≡ outcome_of octave (is_closed text) (said (lines text))
unfolding read_outcome
outcome_is octave text = refl

module _ (octave : ℕ) (before comment after : List ℕ) (b : is_closed before ≡ true) (c : no_feed comment ≡ true) where
  abbrev with : List ℕ
  with = 33 ∷ comment ++ 10 ∷ after

  closed_after : (a : List ℕ) → is_closed ((33 ∷ comment) ++ 10 ∷ a) ≡ is_closed a
  closed_after a = by_front (33 ∷ comment) a

  skipped_closed : is_closed (before ++ with) ≡ is_closed (before ++ after)
  skipped_closed = closed_append before with b ∙ closed_after after ∙ sym (closed_append before after b)

  skipped_said : said (lines (before ++ with)) ≡ said (lines (before ++ after))
  skipped_said =
      ap said (lines_append before with b)
      ∙ said_append (lines before) (lines with)
      ∙ ap (λ (ks : List Kind). said (lines before) ++ ks) (ap said (lines_line (33 ∷ comment) after (comment_plain comment c)) ∙ comment_said comment (lines after))
      ∙ sym (said_append (lines before) (lines after))
      ∙ sym (ap said (lines_append before after b))

  skipped : read_outcome octave (before ++ with) ≡ read_outcome octave (before ++ after)
  skipped = outcome_is octave (before ++ with) ∙ ap₂ (outcome_of octave) skipped_closed skipped_said ∙ sym (outcome_is octave (before ++ after))

pub comments_skipped : CommentsSkipped
comments_skipped octave before comment after b c = skipped octave before comment after b c
