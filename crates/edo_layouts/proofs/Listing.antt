-- All chains, one after the other: the numbers of the list are the numbers of each chain, joined.
use Prim.Native.Nat.{ℕ, zero, suc, ◌+◌, ◌*◌, ◌≤◌}
use native.Mathlib.Nat.{zero-add}
use native.Mathlib.Omega.{arith}
use mathlib.Core.Path.{◌≡◌, refl, sym, ap, ◌∙◌, subst}
use mathlib.Core.Bool.{Bool, true, false}
use mathlib.Core.List.{List, [], ◌∷◌, ◌++◌, append_assoc, append-nil}
use lib.ListN.{length, set, take, drop, length-append}
use lib.Seq.{take-append_seam}
use Rattle.std.specs.Int.{from_bool}
use Rattle.answer.specs.Outcome.{Outcome, given, refused, ask, and_then}
use Rattle.answer.specs.Lent.{held_in, in_room}
use Rattle.answer.proofs.Asked.{asked_yes}
use Rattle.text.specs.Writing.{Wrote, joined}
use Rattle.text.proofs.Writing.{wrote_one, then, wrote_as, wrote_length, wrote_front}
use Rattle.text.proofs.Joined.{joined_same}
use Rattle.edo_tritaves.specs.declared.Choices.{Choices}
use Rattle.edo_tritaves.specs.Tritaves.{is_division, choices_of, tritaves_of}
use Rattle.edo_layouts.specs.declared.EdoLayout.{EdoLayout}
use Rattle.edo_layouts.specs.Layouts.{chain_served, chain_outcome, given_of, gathered, layouts_of, one, numbers_of, joined_over, find_by_edo}
use Rattle.edo_layouts.specs.Parts.{chain_numbers}
use Rattle.edo_layouts.proofs.Serving.{chain_served_lem}

-- ---- what is said of a list that is gathered

pub joined_over_append : (said : EdoLayout → List ℕ) (xs ys : List EdoLayout) → joined_over said (xs ++ ys) ≡ joined_over said xs ++ joined_over said ys
unfolding joined_over
joined_over_append said [] ys = refl
joined_over_append said (x ∷ xs) ys =
    ap (λ (l : List ℕ). said x ++ l) (joined_over_append said xs ys) ∙ sym (append_assoc (said x) (joined_over said xs) (joined_over said ys))

pub joined_over_gathered : (said : EdoLayout → List ℕ) (list : ℕ → List EdoLayout) (k : ℕ)
    → joined_over said (gathered list k) ≡ joined (λ (i : ℕ). joined_over said (list i)) k
unfolding gathered joined joined_over
joined_over_gathered said list zero = refl
joined_over_gathered said list (suc k) =
    joined_over_append said (gathered list k) (list k) ∙ ap (λ (l : List ℕ). l ++ joined_over said (list k)) (joined_over_gathered said list k)

pub joined_over_one : (said : EdoLayout → List ℕ) (c : EdoLayout) → joined_over said (c ∷ []) ≡ said c
unfolding joined_over
joined_over_one said c = append-nil (said c)

pub joined_over_none : (said : EdoLayout → List ℕ) → joined_over said [] ≡ []
unfolding joined_over
joined_over_none said = refl

-- ---- the numbers of one chain

module _ (n : ℕ) (t : Choices) (code : ℕ) where
  pub chain_numbers_lem : (c : EdoLayout) → given c ≡ chain_served n code t → numbers_of c ≡ chain_numbers n t code
  unfolding chain_numbers
  chain_numbers_lem c e = sym (joined_over_one numbers_of c) ∙ ap (λ (o : Outcome EdoLayout). joined_over numbers_of (given_of o)) e

  pub no_numbers : (q : ℕ) → refused q ≡ chain_served n code t → [] ≡ chain_numbers n t code
  unfolding chain_numbers
  no_numbers q e = sym (joined_over_none numbers_of) ∙ ap (λ (o : Outcome EdoLayout). joined_over numbers_of (given_of o)) e

  at_most : (o : Outcome EdoLayout) → length (joined_over numbers_of (given_of o)) ≤ 3
  at_most (given c) = omega (arith, ap length (joined_over_one numbers_of c))
  at_most (refused q) = omega (arith, ap length (joined_over_none numbers_of))

  pub few_numbers : length (chain_numbers n t code) ≤ 3
  unfolding chain_numbers
  few_numbers = at_most (chain_served n code t)

-- 1 for a yes
pub as_one : (b : Bool) → from_bool b ≡ one b
as_one true = refl
as_one false = refl

-- three numbers, stored one by one
pub three_stored : (xs : List ℕ) (at : ℕ) (c : EdoLayout) (second : ℕ) → second ≡ one c.second
    → Wrote xs at (numbers_of c) (set (set (set xs at c.layout.genchain) (at + 1) c.layout.tritave) (at + 2) second) (at + 3)
three_stored xs at c second e =
    let g = c.layout.genchain in
    let k = c.layout.tritave in
    let a = set xs at g in
    let b = set a (at + 1) k in
    let two : Wrote xs at (g ∷ k ∷ []) b (at + 1 + 1) = then (wrote_one xs at g) (wrote_one a (at + 1) k) in
    let three : Wrote xs at (g ∷ k ∷ second ∷ []) (set b (at + 1 + 1) second) (at + 1 + 1 + 1) = then two (wrote_one b (at + 1 + 1) second) in
    let place : at + 1 + 1 ≡ at + 2 = omega arith in
    let there : Wrote xs at (g ∷ k ∷ second ∷ []) (set b (at + 2) second) (at + 2 + 1)
    = subst (λ (o : ℕ). Wrote xs at (g ∷ k ∷ second ∷ []) (set b o second) (o + 1)) place three in
    wrote_as (ap (λ (n : ℕ). g ∷ k ∷ n ∷ []) e) (record { content = there.content; end = refl })

-- ---- of all chains

-- at most 18
few_joined : (n : ℕ) (t : Choices) (k : ℕ) → length (joined (chain_numbers n t) k) ≤ 3 * k
unfolding joined
few_joined n t zero = omega arith
few_joined n t (suc k) =
    omega (arith, length-append (joined (chain_numbers n t) k) (chain_numbers n t k), few_joined n t k, few_numbers n t k)

-- they stand at the front of a slice of 18
module _ (n : ℕ) (t : Choices) {xs ys : List ℕ} {next : ℕ} (long : length xs ≡ 18)
    (w : Wrote xs 0 (joined (chain_numbers n t) 6) ys next)
  where
    fits : length (joined (chain_numbers n t) 6) ≤ length xs
    fits = omega (arith, few_joined n t 6)

    pub all_there : (next ≤ length ys) × (take next ys ≡ joined (chain_numbers n t) 6)
    all_there =
        let text = joined (chain_numbers n t) 6 in
        let is : next ≡ length text = w.end ∙ zero-add (length text) in (
          omega (arith, is, fits, wrote_length w),
          ap (λ (k : ℕ). take k ys) is ∙ ap (take (length text)) (wrote_front fits w) ∙ take-append_seam text (drop (length text) xs),
        )

module _ (n : ℕ) where
  pub find_refused : (q : ℕ) → refused q ≡ tritaves_of n → refused q ≡ find_by_edo n
  unfolding find_by_edo tritaves_of
  find_refused q e = by (is_division n) e
    where
      by : (test : Bool) → refused q ≡ ask 15 test (given (choices_of n)) → refused q ≡ ask 15 test (given (joined_over numbers_of (layouts_of n)))
      by true f = absurd (let z : ◌≡◌ {A = ℕ} 0 1 = cc in omega arith)
      by false f = let same : q ≡ 15 = cc in ap refused same

  module _ (t : Choices) (e : given t ≡ tritaves_of n) where
    all_numbers : joined (chain_numbers n t) 6 ≡ joined_over numbers_of (layouts_of n)
    unfolding layouts_of chain_numbers
    all_numbers =
        joined_same (chain_numbers n t) (λ (code : ℕ). joined_over numbers_of (given_of (chain_outcome n code))) 6
        (λ code h. ap (λ (o : Outcome EdoLayout). joined_over numbers_of (given_of o)) (chain_served_lem n code t e))
        ∙ sym (joined_over_gathered numbers_of (λ (code : ℕ). given_of (chain_outcome n code)) 6)

    pub find_given : given (joined (chain_numbers n t) 6) ≡ find_by_edo n
    unfolding find_by_edo tritaves_of
    find_given =
        ap given all_numbers
        ∙ ap (λ (test : Bool). ask 15 test (given (joined_over numbers_of (layouts_of n)))) (sym (asked_yes 15 (is_division n) _ (sym e)))

    pub find_in_room : (room : ℕ) → held_in room (joined (chain_numbers n t) 6) ≡ in_room room (find_by_edo n)
    find_in_room room = ap (λ (o : Outcome (List ℕ)). and_then o (held_in room)) find_given
