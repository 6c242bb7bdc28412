-- Writing patterns: the four stores of one pattern, and the answers of a listing.
use Prim.Native.Nat.{ℕ, suc, ◌+◌, ◌*◌, ◌≤◌}
use mathlib.Core.Path.{◌≡◌, refl, sym, ap, ◌∙◌}
use mathlib.Core.Bool.{Bool, true, false}
use mathlib.Core.List.{List, [], ◌∷◌}
use native.Mathlib.Nat.{zero-add}
use native.Mathlib.Omega.{arith}
use lib.ListN.{length, set}
use lib.Dec.{leb}
use borrow.Author.Tests.{le-leb, leb-true}
use Rattle.std.specs.Prelude.{Result, IsErr, IsErrAnd}
use Rattle.answer.specs.Outcome.{Outcome, given, refused}
use Rattle.answer.specs.Refusals.{outcome_of}
use Rattle.answer.specs.declared.Refusal.{Refusal}
use Rattle.answer.specs.declared.Refusal.TheVariants.{Size}
use Rattle.answer.proofs.Passing.{refusal_passed}
use Rattle.answer.specs.Lent.{held_in, Filled}
use Rattle.text.specs.Writing.{Room, Wrote}
use Rattle.answer.proofs.Lent.{filled_refused}
use Rattle.text.proofs.Writing.{filled_given}
use Rattle.mos.specs.declared.Mos.{Mos}
use Rattle.mos.specs.Patterns.{is_pattern}
use Rattle.mos.specs.Walks.{listed}
use Rattle.mos.specs.Answers.{listing_outcome}
use Rattle.mos.proofs.Sequences.{length_listed}

pub wrote_four : (xs : List ℕ) (at a b c d : ℕ) → Wrote xs at (a ∷ b ∷ c ∷ d ∷ []) (set (set (set (set xs at a) (at + 1) b) (at + 2) c) (at + 3) d) (at + 4)
wrote_four xs at a b c d =
    let e : at + 1 ≡ suc at = omega arith in
    let f : at + 2 ≡ suc (suc at) = omega arith in
    let g : at + 3 ≡ suc (suc (suc at)) = omega arith in
    record { content = rw (e, f, g); end = refl }

-- whether a listing has room, by what the code tests: a bound on the number of patterns, or their count n
module _ (ms : List Mos) (room : ℕ) where
  pub fits_most : (most : ℕ) → length ms ≤ most → most * 4 ≤ room → true ≡ leb (length (listed ms)) room
  fits_most most h l = sym (le-leb (length (listed ms)) room (omega (arith, length_listed ms)))

  pub fits_count : (n : ℕ) → n ≡ length ms → leb (n * 4) room ≡ leb (length (listed ms)) room
  fits_count n e = ap (λ (k : ℕ). leb k room) (let q : n * 4 ≡ length (listed ms) = omega (arith, e, length_listed ms) in q)

-- the answers of a listing, by what the code tests
module _ (ms : List Mos) (xs : List ℕ) {fit : Bool} (g : fit ≡ leb (length (listed ms)) (length xs)) where
  pub listing_no_room : fit ≡ false → Filled (held_in (length xs) (listed ms)) (refused 10) xs xs
  listing_no_room h = filled_refused 10 xs (simp (sym g ∙ h)) refl

  pub listing_fits : fit ≡ true → Room xs 0 (listed ms)
  listing_fits h = omega (arith, leb-true (length (listed ms)) (length xs) (sym g ∙ h))

  pub listing_given : fit ≡ true → {ys : List ℕ} {next : ℕ} → Wrote xs 0 (listed ms) ys next → Filled (held_in (length xs) (listed ms)) (given next) xs ys
  listing_given h w =
      filled_given (simp (sym g ∙ h)) (ap given (w.end ∙ zero-add _)) (leb-true (length (listed ms)) (length xs) (sym g ∙ h)) w

-- question 7 before them, where `?` asks it
module _ (m : Mos) (ms : List Mos) (xs : List ℕ) where
  pub listing_passed : {q : Refusal} (r : Result ℕ Refusal) → IsErr r × IsErrAnd r (λ (e : Refusal). e ≡ q) → (q ≡ Size) × (is_pattern m ≡ false)
      → Filled (listing_outcome m ms (length xs)) (outcome_of r) xs xs
  unfolding listing_outcome
  listing_passed {q} r h e =
      rw (refusal_passed q r h, e.0) (filled_refused 7 xs (simp e.1) refl)

  pub listing_of : {n : Mos} {ys : List ℕ} {told : Outcome ℕ} → n ≡ m → is_pattern n ≡ true → Filled (held_in (length xs) (listed ms)) told xs ys → Filled (listing_outcome m ms (length xs)) told xs ys
  unfolding listing_outcome
  listing_of e f h = simp (sym (ap is_pattern e) ∙ f) h
