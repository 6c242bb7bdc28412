-- How a question of the form "is it at least 1?" and "is it below that?" is answered, by what the code tests.
use mathlib.Core.Path.{◌≡◌}
use Prim.Native.Nat.{ℕ, ◌≤◌, ◌<◌}
use native.Mathlib.Nat.{pos_of_ne-zero}
use native.Mathlib.Omega.{arith}
use lib.Dec.{leb, ltb}
use borrow.Author.Tests.{le-leb, lt-leb, lt-ltb, le-ltb}
use Rattle.answer.specs.Outcome.{Outcome, refused, ask}

-- is d at least 1?
pub ask_none : {A : Type 0} (n d : ℕ) (rest : Outcome A) → d ≡ 0 → ask n (leb 1 d) rest ≡ refused n
ask_none n d rest e = simp (lt-leb 1 d (omega arith))

pub ask_some : {A : Type 0} (n d : ℕ) (rest : Outcome A) → (d ≡ 0 → ⊥) → ask n (leb 1 d) rest ≡ rest
ask_some n d rest h = simp (le-leb 1 d (pos_of_ne-zero h))

pub ask_least : {A : Type 0} (n d : ℕ) (rest : Outcome A) → 0 < d → ask n (leb 1 d) rest ≡ rest
ask_least n d rest h = simp (le-leb 1 d h)

-- is a below b?
pub ask_above : {A : Type 0} (n a b : ℕ) (rest : Outcome A) → b ≤ a → ask n (ltb a b) rest ≡ refused n
ask_above n a b rest h = simp (le-ltb a b h)

pub ask_below : {A : Type 0} (n a b : ℕ) (rest : Outcome A) → a < b → ask n (ltb a b) rest ≡ rest
ask_below n a b rest h = simp (lt-ltb a b h)
