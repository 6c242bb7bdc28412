-- What each call answers: question 2, then the pattern and its moves; and what a lent table then holds.
use Rattle.std.specs.Prelude.{ℕ, ◌≡◌, List, leb, ℤ, Option, None, Some, slice_get}
use Rattle.answer.specs.Outcome.{Outcome, given, refused, ask}
use Rattle.mos.specs.declared.Mos.{Mos}
use Rattle.mos.specs.Patterns.{genesis}
use Rattle.mos.specs.Walks.{children}
use Rattle.mos_moves.specs.Moves.{Table, genesis_moves, walk_moves, listed_moves}

-- ---- a lent table

-- The moves, where there are any; a refusal, and a walk that has no such pattern, leave what was there.
abbrev pub table_after : Outcome (Option (Table ℤ)) → Table ℤ → Table ℤ
table_after (given (Some t)) before = t
table_after (given None) before = before
table_after (refused n) before = before

-- The promise of a call that puts moves into a lent table: what it answers, and what the table then holds.
pub record Tabled {A : Type 0} (answer outcome : Outcome A) (table : Outcome (Option (Table ℤ))) (before after : Table ℤ) : Type 0 where
  pub answered : answer ≡ outcome
  pub content : after ≡ table_after table before

-- Question 2, then the moves of the genesis; the pattern is `genesis_outcome`'s.
unfoldable pub genesis_table : ℕ → ℕ → Outcome (Option (Table ℤ))
unfolding genesis_moves
genesis_table P G = ask 2 (leb 1 P) (given (Some (genesis_moves P G)))

-- Question 2, then the k-th pattern of the walk from the genesis, if it has one, and its moves.
unfoldable pub nth_outcome : ℕ → ℕ → ℕ → Outcome (Option Mos)
unfolding children
nth_outcome P G k = ask 2 (leb 1 P) (given (slice_get (children (genesis P G)) k))

unfoldable pub nth_table : ℕ → ℕ → ℕ → Outcome (Option (Table ℤ))
unfolding walk_moves
nth_table P G k = ask 2 (leb 1 P) (given (slice_get (walk_moves P G) k))

-- ---- a lent slice

-- Question 2, then the moves of the whole walk, in its order.
unfoldable pub get_walk_moves : ℕ → ℕ → Outcome (List ℤ)
unfolding walk_moves
get_walk_moves P G = ask 2 (leb 1 P) (given (listed_moves (walk_moves P G)))
