-- How long the line of a refusal is.
use Prim.Native.Nat.{ℕ, ◌+◌, ◌≤◌}
use mathlib.Core.Path.{◌≡◌}
use mathlib.Core.List.{[], ◌∷◌, ◌++◌}
use native.Mathlib.Omega.{arith}
use lib.ListN.{length, length-append}
use Rattle.text.specs.Decimal.{digits}
use Rattle.text.proofs.Digits.{digits_length}
use Rattle.line.specs.Lines.{line_feed}
use Rattle.line.specs.Refusals.{refused_word, refusal_line}

pub length_refusal : (n : ℕ) → length (refusal_line n) ≡ length (digits n) + 9
unfolding refusal_line
length_refusal n = omega (arith, length-append refused_word (digits n), length-append (refused_word ++ digits n) (line_feed ∷ []))

pub refusal_room : (n : ℕ) → n ≤ 65535 → length (refusal_line n) ≤ 16
refusal_room n h = omega (arith, length_refusal n, (digits_length n (omega (arith, h))).few)
