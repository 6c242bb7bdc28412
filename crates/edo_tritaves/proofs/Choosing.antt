-- The number that meets the rule is the first that does; from there to each way in which the choices end.
use mathlib.Core.Path.{◌≡◌, refl, sym, ap, ◌∙◌}
use mathlib.Core.Bool.{Bool, true, false}
use mathlib.Core.List.{[], ◌∷◌}
use Prim.Native.Nat.{ℕ, ◌+◌, ◌*◌, ◌-◌, ◌≤◌, ◌<◌, ◌^◌}
use native.Mathlib.Nat.{pow-le-pow_right}
use native.Mathlib.Omega.{arith}
use lib.Dec.{ltb}
use Rattle.std.specs.Prelude.{Option, Some, None}
use Rattle.std.specs.Option.{option_to_list}
use borrow.Author.Tests.{lt-ltb, le-ltb, le-leb, lt-leb, ltb-true}
use Rattle.answer.specs.Outcome.{given, refused, ask}
use Rattle.answer.specs.Choice.{pick}
use Rattle.answer.proofs.Asked.{and_left, and_right}
use Rattle.math.specs.Passing.{first}
use Rattle.math.proofs.Passing.{first_finds}
use Rattle.edo_tritaves.specs.declared.Choices.{Choices}
use Rattle.edo_tritaves.specs.Tritaves.{TritaveRule, is_tritave, tritave, goes_up, goes_down, second_choice, choices_of, choice_numbers, is_division, tritaves_of}
use Rattle.edo_tritaves.specs.Theorems.{OneTritave, NeverBoth}
use Rattle.edo_tritaves.proofs.TableRule.{Sides}

-- ---- only one: two counts would lie a factor of 4 apart, and the rule leaves room for less

never_less : (n k l : ℕ) → TritaveRule n k → TritaveRule n l → k < l → ⊥
never_less n k l a b h =
    let e : 2 ^ (2 * k + 1) ≤ 2 ^ (2 * l - 1) = pow-le-pow_right (omega arith) (omega arith) in
    omega (arith, a.below, b.above)

pub one_tritave : OneTritave
one_tritave n k l a b =
    let g : k < l → ⊥ = never_less n k l a b in
    let s : l < k → ⊥ = never_less n l k b a in
    omega arith

pub never_both : NeverBoth
never_both n k u d =
    let e : 2 ^ (3 * k - 1) ≤ 2 ^ (3 * k + 1) = pow-le-pow_right (omega arith) (omega arith) in
    omega (arith, ltb-true (2 ^ (3 * k + 1)) (3 ^ (3 * n)) u, ltb-true (3 ^ (3 * n)) (2 ^ (3 * k - 1)) d)

-- ---- the first that meets the rule

as_test : (n k : ℕ) → TritaveRule n k → is_tritave n k ≡ true
as_test n k r = simp (lt-ltb _ _ r.above, lt-ltb _ _ r.below)

as_rule : (n k : ℕ) → is_tritave n k ≡ true → TritaveRule n k
as_rule n k e =
    let a = ltb (2 ^ (2 * k - 1)) (3 ^ (2 * n)) in
    let b = ltb (3 ^ (2 * n)) (2 ^ (2 * k + 1)) in
    record { above = ltb-true _ _ (and_left a b e); below = ltb-true _ _ (and_right a b e) }

pub tritave_is : (n k : ℕ) → k ≤ 2 * n → TritaveRule n k → k ≡ tritave n
unfolding tritave
tritave_is n k h r =
    let f = first_finds (is_tritave n) (2 * n + 1) 0 k (omega arith) (omega arith) (as_test n k r) in
    one_tritave n k (first (is_tritave n) (2 * n + 1) 0) r (as_rule n _ f.0)

-- ---- the three ways in which the choices end

module _ (n k : ℕ) (s : Sides n k) where
  by_tests : (u d : Bool) → goes_up n k ≡ u → goes_down n k ≡ d → pick u (Some (k + 1)) (pick d (Some (k - 1)) None) ≡ second_choice n k
  unfolding second_choice
  by_tests u d e f = sym (simp (e, f))

  pub chosen_up : 665 * (3 * k + 1) < 3162 * n → Some (k + 1) ≡ second_choice n k
  chosen_up h = by_tests true (goes_down n k) (s.up ∙ lt-ltb _ _ h) refl

  module _ (h : 3162 * n ≤ 665 * (3 * k + 1)) where
    pub chosen_down : 3162 * n < 665 * (3 * k - 1) → Some (k - 1) ≡ second_choice n k
    chosen_down d = by_tests false true (s.up ∙ le-ltb _ _ h) (s.down ∙ lt-ltb _ _ d)

    pub chosen_first : 665 * (3 * k - 1) ≤ 3162 * n → None ≡ second_choice n k
    chosen_first d = by_tests false false (s.up ∙ le-ltb _ _ h) (s.down ∙ le-ltb _ _ d)

pub chosen : (n k : ℕ) (second : Option ℕ) → k ≡ tritave n → second ≡ second_choice n k → record { first = k; second = second } ≡ choices_of n
unfolding choices_of
chosen n k second is e =
    ap (λ (x : Option ℕ). record { first = k; second = x }) e
    ∙ ap (λ (x : ℕ). record { first = x; second = second_choice n x }) is

-- ---- question 15

module _ (n : ℕ) where
  asked : (test : Bool) → is_division n ≡ test → ask 15 test (given (choices_of n)) ≡ tritaves_of n
  unfolding tritaves_of
  asked test e = ap (λ (t : Bool). ask 15 t (given (choices_of n))) (sym e)

  pub division : 1 ≤ n → n ≤ 400 → is_division n ≡ true
  division l h = simp (le-leb 1 n l, le-leb n 400 h)

  pub no_steps : n ≡ 0 → refused 15 ≡ tritaves_of n
  no_steps e = asked false (ap is_division e)

  pub too_many : 400 < n → refused 15 ≡ tritaves_of n
  too_many h = asked false (simp (le-leb 1 n (omega arith), lt-leb n 400 h))

  pub tritaves_given : 1 ≤ n → n ≤ 400 → (t : Choices) → t ≡ choices_of n → given t ≡ tritaves_of n
  tritaves_given l h t e = ap given e ∙ asked true (division l h)

-- ---- as a list

module _ (t : Choices) where
  pub one_number : t.second ≡ None → t.first ∷ [] ≡ choice_numbers t
  one_number e = ap (λ (second : Option ℕ). t.first ∷ option_to_list second) (sym e)

  pub two_numbers : (second : ℕ) → t.second ≡ Some second → t.first ∷ second ∷ [] ≡ choice_numbers t
  two_numbers second e = ap (λ (s : Option ℕ). t.first ∷ option_to_list s) (sym e)
