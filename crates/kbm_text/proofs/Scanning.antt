-- The lines before `at` are counted; those from `at` on are to come.
use Prim.Native.Nat.{ℕ, suc, ◌+◌, ◌-◌, ◌≤◌}
use native.Mathlib.Nat.{add-zero}
use native.Mathlib.Numerals.{add-one}
use native.Mathlib.Omega.{arith}
use mathlib.Core.Bool.{Bool, true, false, ◌&&◌, and_assoc, and-true}
use mathlib.Core.Path.{◌≡◌, refl, sym, ap, ◌∙◌, subst}
use mathlib.Core.List.{List, [], ◌∷◌, ◌++◌}
use lib.ListN.{length, take, drop, length-append, drop_of_length-le}
use Rattle.kbm_text.specs.Lines.{lines}
use Rattle.kbm_text.specs.Kinds.{kind_of}
use Rattle.kbm_text.specs.Reading.{key_at, not_comment, said, all_fit, all_agree, keys_from}
use Rattle.kbm_text.specs.Parts.{Cut, next_scan, Scanned}
use Rattle.kbm_text.specs.declared.kinds.Kind.{Kind}
use Rattle.kbm_text.specs.declared.kinds.Kind.TheVariants.{Number, Frequency, Mark, Comment, Other}
use Rattle.kbm_text.specs.declared.scan.Scan.{Scan}

-- ---- the kinds from line k on, with one more in front

one_fit : (b f : Bool) (k : ℕ) (rest : List Kind) → (b && (f && all_fit (suc k) rest)) ≡ ((b && f) && all_fit (k + 1) rest)
one_fit b f k rest = sym (and_assoc b f (all_fit (suc k) rest)) ∙ ap (λ (n : ℕ). (b && f) && all_fit n rest) (sym (add-one k))

one_agree : (octave : ℕ) (b f : Bool) (k : ℕ) (rest : List Kind) → (b && (f && all_agree octave (suc k) rest)) ≡ ((b && f) && all_agree octave (k + 1) rest)
one_agree octave b f k rest =
    sym (and_assoc b f (all_agree octave (suc k) rest)) ∙ ap (λ (n : ℕ). (b && f) && all_agree octave n rest) (sym (add-one k))

one_key : (done : ℕ) (key : List ℕ) (k : ℕ) (rest : List Kind) → done + length (key ++ keys_from (suc k) rest) ≡ done + length key + length (keys_from (k + 1) rest)
one_key done key k rest =
    omega (arith, length-append key (keys_from (suc k) rest), ap (λ (n : ℕ). length (keys_from n rest)) (add-one k))

module _ (octave : ℕ) (s : Scan) (rest : List Kind) where
  step_count : (kind : Kind) → s.line + length (not_comment kind ++ rest) ≡ (next_scan octave s kind).line + length rest
  unfolding next_scan
  step_count (Number n) = omega arith
  step_count Frequency = omega arith
  step_count Mark = omega arith
  step_count Comment = refl
  step_count Other = omega arith

  step_fit : (kind : Kind) → (s.fits && all_fit s.line (not_comment kind ++ rest)) ≡ ((next_scan octave s kind).fits && all_fit (next_scan octave s kind).line rest)
  unfolding next_scan all_fit
  step_fit (Number n) = one_fit s.fits _ s.line rest
  step_fit Frequency = one_fit s.fits _ s.line rest
  step_fit Mark = one_fit s.fits _ s.line rest
  step_fit Comment = refl
  step_fit Other = one_fit s.fits false s.line rest

  step_agree : (kind : Kind) → (s.agrees && all_agree octave s.line (not_comment kind ++ rest)) ≡ ((next_scan octave s kind).agrees && all_agree octave (next_scan octave s kind).line rest)
  unfolding next_scan all_agree
  step_agree (Number n) = one_agree octave s.agrees _ s.line rest
  step_agree Frequency = one_agree octave s.agrees true s.line rest
  step_agree Mark = one_agree octave s.agrees true s.line rest
  step_agree Comment = refl
  step_agree Other = one_agree octave s.agrees true s.line rest

  step_keys : (kind : Kind) → s.keys + length (keys_from s.line (not_comment kind ++ rest)) ≡ (next_scan octave s kind).keys + length (keys_from (next_scan octave s kind).line rest)
  unfolding next_scan keys_from
  step_keys (Number n) = one_key s.keys (key_at s.line (Number n)) s.line rest
  step_keys Frequency = one_key s.keys [] s.line rest
  step_keys Mark = one_key s.keys [] s.line rest
  step_keys Comment = refl
  step_keys Other = one_key s.keys [] s.line rest

-- ---- the loop

-- what the lines from a place on say
abbrev pub from : List ℕ → ℕ → List Kind
from text at = said (lines (drop at text))

pub record Scanning (octave : ℕ) (text : List ℕ) (at : ℕ) (s : Scan) : Type 0 where
  pub count : length (said (lines text)) ≡ s.line + length (from text at)
  pub fit : all_fit 0 (said (lines text)) ≡ (s.fits && all_fit s.line (from text at))
  pub agree : all_agree octave 0 (said (lines text)) ≡ (s.agrees && all_agree octave s.line (from text at))
  pub mapped : length (keys_from 0 (said (lines text))) ≡ s.keys + length (keys_from s.line (from text at))
  pub few : s.line ≤ at
  pub fewer : s.keys ≤ s.line

pub scan_start : (octave : ℕ) (text : List ℕ) → Scanning octave text 0 (record { line = 0; fits = true; agrees = true; keys = 0 })
scan_start octave text =
    record { count = omega arith; fit = refl; agree = refl; mapped = omega arith; few = omega arith; fewer = omega arith }

said_first : (line : List ℕ) (rest : List (List ℕ)) → said (line ∷ rest) ≡ not_comment (kind_of line) ++ said rest
unfolding said
said_first line rest = refl

pub from_cut : (text : List ℕ) (at end : ℕ) → Cut text at end → (kind : Kind) → kind ≡ kind_of (take (end - at) (drop at text))
    → from text at ≡ not_comment kind ++ from text (end + 1)
from_cut text at end c kind e =
    ap said c.first
    ∙ said_first (take (end - at) (drop at text)) (lines (drop (end + 1) text))
    ∙ ap (λ (k : Kind). not_comment k ++ from text (end + 1)) (sym e)

pub none_left : (text : List ℕ) (at : ℕ) → length text ≤ at → from text at ≡ []
unfolding lines said
none_left text at h = ap (λ (t : List ℕ). said (lines t)) (drop_of_length-le text h)

module _ (octave : ℕ) (text : List ℕ) (at : ℕ) (s : Scan) (g : Scanning octave text at s) where
  scan_next : (end : ℕ) → Cut text at end → (kind : Kind) → kind ≡ kind_of (take (end - at) (drop at text))
      → (next_scan octave s kind).line ≤ s.line + 1 → (next_scan octave s kind).keys ≤ (next_scan octave s kind).line → Scanning octave text (end + 1) (next_scan octave s kind)
  scan_next end c kind e h l =
      let f = from_cut text at end c kind e in
      record {
        count = g.count ∙ ap (λ (k : List Kind). s.line + length k) f ∙ step_count octave s (from text (end + 1)) kind;
        fit = g.fit ∙ ap (λ (k : List Kind). s.fits && all_fit s.line k) f ∙ step_fit octave s (from text (end + 1)) kind;
        agree = g.agree ∙ ap (λ (k : List Kind). s.agrees && all_agree octave s.line k) f ∙ step_agree octave s (from text (end + 1)) kind;
        mapped = g.mapped ∙ ap (λ (k : List Kind). s.keys + length (keys_from s.line k)) f ∙ step_keys octave s (from text (end + 1)) kind;
        few = omega (arith, h, g.few, c.from);
        fewer = l;
      }

  pub scan_more : (end : ℕ) → Cut text at end → (kind : Kind) → kind ≡ kind_of (take (end - at) (drop at text)) → (r : Scan) → r ≡ next_scan octave s kind
      → r.line ≤ s.line + 1 → r.keys ≤ r.line → Scanning octave text (end + 1) r
  scan_more end c kind e r q h l =
      subst (λ (x : Scan). Scanning octave text (end + 1) x) (sym q)
      (scan_next end c kind e
      (subst (λ (x : Scan). x.line ≤ s.line + 1) q h)
      (subst (λ (x : Scan). x.keys ≤ x.line) q l))

  pub scan_end : length text ≤ at → Scanned octave text s
  unfolding all_fit all_agree keys_from
  scan_end h =
      let n = none_left text at h in
      record {
        count = g.count ∙ ap (λ (k : List Kind). s.line + length k) n ∙ add-zero s.line;
        fit = g.fit ∙ ap (λ (k : List Kind). s.fits && all_fit s.line k) n ∙ and-true s.fits;
        agree = g.agree ∙ ap (λ (k : List Kind). s.agrees && all_agree octave s.line k) n ∙ and-true s.agrees;
        mapped = g.mapped ∙ ap (λ (k : List Kind). s.keys + length (keys_from s.line k)) n ∙ add-zero s.keys;
      }
