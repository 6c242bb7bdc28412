-- What an answer tells of the questions that were asked; tests that are joined, and a test on each of a list.
use Prim.Native.Nat.{ℕ, zero, suc, ◌<◌}
use native.Mathlib.Nat.{le_of_suc-le-suc, not-suc-le-zero}
use native.Mathlib.Omega.{arith}
use mathlib.Core.Bool.{Bool, true, false, ◌&&◌, false≢true}
use mathlib.Core.List.{List, [], ◌∷◌}
use mathlib.Core.Path.{◌≡◌, refl, ap}
use lib.ListN.{length, get_or}
use Rattle.answer.specs.Outcome.{Outcome, given, refused, ask, and_then}
use Rattle.answer.specs.Tests.{all_of}

pub given_same : {A : Type 0} {a b : A} → given a ≡ given b → a ≡ b
given_same e = cc

pub refused_same : {A B : Type 0} {m n : ℕ} → ◌≡◌ {A = Outcome A} (refused m) (refused n) → ◌≡◌ {A = Outcome B} (refused m) (refused n)
refused_same {m = m} {n = n} e = let z : m ≡ n = cc in ap refused z

-- where there is an answer, the question was answered with yes
pub asked_yes : {A : Type 0} {a : A} (n : ℕ) (test : Bool) (rest : Outcome A) → ask n test rest ≡ given a → test ≡ true
asked_yes n true rest e = refl
asked_yes n false rest e = let z : ◌≡◌ {A = ℕ} 0 1 = cc in absurd (omega arith)

-- .. and it is the answer of the later questions
pub asked_rest : {A : Type 0} {a : A} (n : ℕ) (test : Bool) (rest : Outcome A) → ask n test rest ≡ given a → rest ≡ given a
asked_rest n true rest e = e
asked_rest n false rest e = let z : ◌≡◌ {A = ℕ} 0 1 = cc in absurd (omega arith)

-- a question comes before those that its value brings
pub ask_then : {A B : Type 0} (n : ℕ) (test : Bool) (o : Outcome A) (next : A → Outcome B) → and_then (ask n test o) next ≡ ask n test (and_then o next)
ask_then n true o next = refl
ask_then n false o next = refl

-- both of two tests
pub and_left : (a b : Bool) → (a && b) ≡ true → a ≡ true
and_left true b e = refl
and_left false b e = e

pub and_right : (a b : Bool) → (a && b) ≡ true → b ≡ true
and_right true b e = e
and_right false b e = absurd (false≢true e)

pub and_both : (a b : Bool) → a ≡ true → b ≡ true → (a && b) ≡ true
and_both true b e f = f
and_both false b e f = e

-- a test that cannot pass fails
pub never_true : (b : Bool) → (b ≡ true → ⊥) → b ≡ false
never_true true h = absurd (h refl)
never_true false h = refl

-- all pass, so the one at any place does
pub all_at : {A : Type 0} (test : A → Bool) (l : List A) (k : ℕ) (d : A) → all_of test l ≡ true → k < length l → test (get_or l k d) ≡ true
all_at test [] k d e h = absurd (not-suc-le-zero h)
all_at test (x ∷ l) zero d e h = and_left (test x) (all_of test l) e
all_at test (x ∷ l) (suc k) d e h = all_at test l k d (and_right (test x) (all_of test l) e) (le_of_suc-le-suc h)
