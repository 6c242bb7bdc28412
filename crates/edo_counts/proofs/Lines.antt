-- The report's lines: each has at most 24 bytes.
use Prim.Native.Nat.{ℕ, zero, suc, ◌*◌, ◌≤◌, ◌<◌}
use native.Mathlib.Nat.{zero-add}
use native.Mathlib.Numerals.{add-one}
use native.Mathlib.Omega.{arith}
use mathlib.Core.Path.{◌≡◌, refl, ap, ◌∙◌, subst}
use mathlib.Core.List.{List, [], ◌∷◌, ◌++◌}
use lib.ListN.{length, take, drop, length-append}
use lib.Seq.{take-append_seam}
use Rattle.text.specs.Decimal.{digits}
use Rattle.text.specs.Writing.{Wrote, joined}
use Rattle.text.proofs.Writing.{wrote_length, wrote_front}
use Rattle.text.proofs.Joined.{joined_none, length_joined_more}
use Rattle.text.proofs.Digits.{digits_length}
use Rattle.line.specs.Lines.{space, line_feed}
use Rattle.edo_counts.specs.Counts.{all_layouts, tally_of, report_line, chain_line, report}
use Rattle.edo_counts.specs.declared.parts.Tally.{Tally}
use Rattle.edo_counts.proofs.Counting.{tally_few}

-- a number of 16 bits and the byte behind it
pub short : (n behind : ℕ) → n ≤ 65535 → length (digits n ++ (behind ∷ [])) ≤ 6
short n behind h = omega (arith, length-append (digits n) (behind ∷ []), (digits_length n (omega (arith, h))).few)

-- so a line of four
pub short_line : (code above below equal : ℕ) → code ≤ 65535 → above ≤ 65535 → below ≤ 65535 → equal ≤ 65535
    → length (report_line code above below equal) ≤ 24
unfolding report_line
short_line code above below equal h i j k =
    let a = digits code ++ (space ∷ []) in
    let b = digits above ++ (space ∷ []) in
    let d = digits below ++ (space ∷ []) in
    let e = digits equal ++ (line_feed ∷ []) in
    omega (
      arith,
      length-append a b,
      length-append (a ++ b) d,
      length-append (a ++ b ++ d) e,
      short code space h,
      short above space i,
      short below space j,
      short equal line_feed k,
    )

-- a chain's line, by the tally that was counted
pub line_is : (code : ℕ) (t : Tally) → t ≡ tally_of code (all_layouts 400) → report_line code t.above t.below t.equal ≡ chain_line code
unfolding chain_line
line_is code t e = ap (λ (x : Tally). report_line code x.above x.below x.equal) e

-- at most 400 of each are counted
counted_short : (code : ℕ) → code < 6 → (t : Tally) → t ≡ tally_of code (all_layouts 400) → length (chain_line code) ≤ 24
counted_short code h t e =
    let f = tally_few code h 400 t e in
    subst (λ (l : List ℕ). length l ≤ 24) (line_is code t e)
    (short_line code t.above t.below t.equal (omega arith) (omega (arith, f.0)) (omega (arith, f.1)) (omega (arith, f.2)))

pub chain_short : (code : ℕ) → code < 6 → length (chain_line code) ≤ 24
chain_short code h = counted_short code h (tally_of code (all_layouts 400)) refl

lines_short : (k : ℕ) → k ≤ 6 → length (joined chain_line k) ≤ 24 * k
lines_short zero h = omega (arith, ap length (joined_none chain_line))
lines_short (suc k) h =
    rw (← (add-one k))
    (omega (arith, length_joined_more chain_line k, lines_short k (omega arith), chain_short k (omega arith)))

-- so the report fits its buffer, and stands at its front
pub report_is : joined chain_line 6 ≡ report
unfolding report
report_is = refl

report_fits : length report ≤ 144
report_fits = subst (λ (l : List ℕ). length l ≤ 144) report_is (lines_short 6 (omega arith))

pub report_there : {xs ys : List ℕ} {next : ℕ} → length xs ≡ 144 → Wrote xs 0 report ys next
    → (next ≤ length ys) × (take next ys ≡ report) × (next ≡ length report)
report_there {xs} {ys} {next} long w =
    let is : next ≡ length report = w.end ∙ zero-add (length report) in
    let room : length report ≤ length xs = omega (arith, report_fits) in (
      omega (arith, is, report_fits, wrote_length w),
      ap (λ (k : ℕ). take k ys) is ∙ ap (take (length report)) (wrote_front room w) ∙ take-append_seam report (drop (length report) xs),
      is,
    )
