-- The writer's vocabulary: a text, of bytes or of any other elements, put into a lent slice at a place, and texts joined over a range of
-- keys.
use Rattle.std.specs.Prelude.{ℕ, zero, suc, ◌+◌, ◌≤◌, ◌≡◌, List, [], ◌++◌, length}
use Rattle.std.proofs.lemmas.List.Edits.{sets}

-- `text` has room in `slice` from the place `at` on.
abbrev pub Room : {A : Type 0} → List A → ℕ → List A → Type 0
Room slice at text = at + length text ≤ length slice

-- `after` is `before` with `text` stored from the place `at` on, and `next` is the place after it.
pub record Wrote {A : Type 0} (before : List A) (at : ℕ) (text after : List A) (next : ℕ) : Type 0 where
  pub content : after ≡ sets before at text
  pub end : next ≡ at + length text

-- The texts of the keys 0 to count − 1, one after the other.
unfoldable pub joined : (ℕ → List ℕ) → ℕ → List ℕ
joined text zero = []
joined text (suc count) = joined text count ++ text count
