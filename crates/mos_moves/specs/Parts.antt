-- What the parts behind the calls ask and promise.
use Rattle.std.specs.Prelude.{ℕ, ◌≡◌, Some, slice_get}
use Rattle.mos.specs.declared.Mos.{Mos}
use Rattle.mos.specs.Patterns.{genesis}
use Rattle.mos.specs.Walks.{children}

-- m is a pattern of the walk from the genesis of P and G, at some place.
abbrev pub OnWalk : ℕ → ℕ → Mos → Type 0
OnWalk P G m = (k : ℕ) × (slice_get (children (genesis P G)) k ≡ Some m)
