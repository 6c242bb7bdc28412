-- The answers of the calls, by what the code tests; runs are the eight runs that it works from.
use Prim.Native.Nat.{ℕ, ◌/◌, ◌≤◌, ◌<◌}
use mathlib.Core.Path.{◌≡◌, refl, sym, ap, ap₂, subst, ◌∙◌}
use mathlib.Core.Bool.{Bool, true, false}
use mathlib.Core.List.{List}
use native.Mathlib.Nat.{div-le_self}
use native.Mathlib.Omega.{arith}
use lib.ListN.{length}
use Rattle.std.specs.Prelude.{Result, IsErr, IsErrAnd}
use Rattle.answer.specs.Outcome.{Outcome, given, refused}
use Rattle.answer.specs.Refusals.{outcome_of}
use Rattle.answer.specs.declared.Refusal.{Refusal}
use Rattle.answer.specs.declared.Refusal.TheVariants.{Size}
use Rattle.answer.proofs.Passing.{refusal_passed}
use Rattle.answer.specs.Lent.{Filled}
use Rattle.text.specs.Writing.{Wrote}
use Rattle.answer.proofs.Lent.{held, not_held, filled_refused}
use Rattle.text.proofs.Writing.{wrote_as, filled_given}
use Rattle.mos.specs.declared.Mos.{Mos}
use Rattle.mos.specs.Patterns.{primaries, secondaries, primary, secondary, size_of, is_pattern, cycles_of, reduced_size_of}
use Rattle.mos.proofs.Sizes.{pattern_fits}
use Rattle.mos_layers.specs.declared.Runs.{Runs}
use Rattle.mos_layers.specs.Layers.{all_sizes, drop_empty, numbered, layer_sizes, layers_of}
use Rattle.mos_layers.specs.Answers.{layer_sizes_outcome, layers_outcome}
use Rattle.mos_layers.specs.Theorems.{sum}
use Rattle.mos_layers.specs.Parts.{run_sizes}
use Rattle.mos_layers.proofs.Plans.{all_sum}
use Rattle.mos_layers.proofs.Theorems.{reduced_is, layers_fill_the_reduced_size}

-- question 7, where `?` asks it, and the answers of the pattern n that was made of m
module _ (m : Mos) (xs : List ℕ) {q : Refusal} (r : Result ℕ Refusal) (h : IsErr r × IsErrAnd r (λ (e : Refusal). e ≡ q)) (e : (q ≡ Size) × (is_pattern m ≡ false)) where
  pub sizes_passed : Filled (layer_sizes_outcome m (length xs)) (outcome_of r) xs xs
  unfolding layer_sizes_outcome
  sizes_passed = rw (refusal_passed q r h, e.0) (filled_refused 7 xs (simp e.1) refl)

  pub layers_passed : Filled (layers_outcome m (length xs)) (outcome_of r) xs xs
  unfolding layers_outcome
  layers_passed = rw (refusal_passed q r h, e.0) (filled_refused 7 xs (simp e.1) refl)

module _ {n m : Mos} (e : n ≡ m) {told : Outcome ℕ} {xs ys : List ℕ} where
  pub sizes_of : Filled (layer_sizes_outcome n (length xs)) told xs ys → Filled (layer_sizes_outcome m (length xs)) told xs ys
  sizes_of f = subst (λ (x : Mos). Filled (layer_sizes_outcome x (length xs)) told xs ys) e f

  pub layers_of_lem : Filled (layers_outcome n (length xs)) told xs ys → Filled (layers_outcome m (length xs)) told xs ys
  layers_of_lem f = subst (λ (x : Mos). Filled (layers_outcome x (length xs)) told xs ys) e f

reduced_fits : (m : Mos) → is_pattern m ≡ true → reduced_size_of m ≤ 65535
unfolding reduced_size_of
reduced_fits m e = omega (arith, div-le_self (size_of m) (cycles_of m), pattern_fits m e)

-- the runs are the pattern's
abbrev pub RunsOf : Mos → Runs → Type 0
RunsOf m runs = run_sizes runs ≡ all_sizes (primaries m) (secondaries m) (primary m / cycles_of m) (secondary m / cycles_of m)

module _ (m : Mos) (runs : Runs) (is : RunsOf m runs) where
  pub runs_sizes : drop_empty (run_sizes runs) ≡ layer_sizes m
  unfolding layer_sizes
  runs_sizes = ap drop_empty is

  runs_layers : numbered 0 (drop_empty (run_sizes runs)) ≡ layers_of m
  unfolding layers_of
  runs_layers = ap (numbered 0) runs_sizes

  runs_sum : sum (run_sizes runs) ≡ reduced_size_of m
  runs_sum = ap sum is ∙ all_sum (primaries m) (secondaries m) (primary m / cycles_of m) (secondary m / cycles_of m) ∙ sym (reduced_is m)

  module _ (xs : List ℕ) {test : Bool} (e : test ≡ is_pattern m) (f : test ≡ true) where
    module _ {n : ℕ} (counted : n ≡ length (drop_empty (run_sizes runs))) where
      sizes_len : n ≡ length (layer_sizes m)
      sizes_len = counted ∙ ap length runs_sizes

      pub sizes_no_room : length xs < n → Filled (layer_sizes_outcome m (length xs)) (refused 10) xs xs
      unfolding layer_sizes_outcome
      sizes_no_room h =
          filled_refused 10 xs (simp (sym e ∙ f) (not_held (length xs) (layer_sizes m) (omega (arith, sizes_len)))) refl

      pub sizes_given : n ≤ length xs → {ys : List ℕ} {next : ℕ} → Wrote xs 0 (drop_empty (run_sizes runs)) ys next
          → Filled (layer_sizes_outcome m (length xs)) (given n) xs ys
      unfolding layer_sizes_outcome
      sizes_given h w =
          filled_given (simp (sym e ∙ f) (held (length xs) (layer_sizes m) (omega (arith, sizes_len)))) (ap given sizes_len) (omega (arith, sizes_len)) (wrote_as runs_sizes w)

    pub layers_given : {n : ℕ} → n ≡ reduced_size_of m → n ≤ length xs → {ys : List ℕ} {next : ℕ} → Wrote xs 0 (numbered 0 (drop_empty (run_sizes runs))) ys next
        → Filled (layers_outcome m (length xs)) (given n) xs ys
    unfolding layers_outcome
    layers_given {n} reduced h w =
        let len : n ≡ length (layers_of m) = reduced ∙ sym (layers_fill_the_reduced_size m) in
        filled_given (simp (sym e ∙ f) (held (length xs) (layers_of m) (omega arith))) (ap given len) (omega arith) (wrote_as runs_layers w)

    -- there is room for what the code writes
    pub layers_room : {n : ℕ} → n ≡ reduced_size_of m → n ≤ length xs → (sum (run_sizes runs) ≤ 65535) × (sum (run_sizes runs) ≤ length xs)
    layers_room reduced h =
        (omega (arith, runs_sum, reduced_fits m (sym e ∙ f)), omega (arith, runs_sum))

module _ (m : Mos) (xs : List ℕ) {test : Bool} (e : test ≡ is_pattern m) (f : test ≡ true) where
  pub layers_no_room : {n : ℕ} → n ≡ reduced_size_of m → length xs < n → Filled (layers_outcome m (length xs)) (refused 10) xs xs
  unfolding layers_outcome
  layers_no_room {n} reduced h =
      let len : n ≡ length (layers_of m) = reduced ∙ sym (layers_fill_the_reduced_size m) in
      filled_refused 10 xs (simp (sym e ∙ f) (not_held (length xs) (layers_of m) (omega arith))) refl

-- the reduced size as the code divides it
pub code_reduced : (m : Mos) {size g : ℕ} → size ≡ size_of m → g ≡ cycles_of m → size / g ≡ reduced_size_of m
unfolding reduced_size_of
code_reduced m e f = ap₂ (λ (x y : ℕ). x / y) e f
