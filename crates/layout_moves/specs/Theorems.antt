-- What holds of every accepted layout's moves. Proofs: proofs/Theorems.antt.
use Rattle.std.specs.Prelude.{ℕ, ◌≤◌, ◌≡◌, ℤ, pos, ◌+ℤ◌, Some}
use Rattle.mos.specs.Patterns.{key_at}
use Rattle.mos_moves.specs.Moves.{Table, pattern_moves}
use Rattle.mos_moves.specs.Theorems.{MovesAt, BoardMoves, ReachedInOneWay}
use Rattle.pergen.specs.Pergen.{key_cycle}
use Rattle.layout.specs.declared.IsomorphicLayout.{IsomorphicLayout}
use Rattle.layout.specs.Layouts.{Layout, Accepted}
use Rattle.layout_moves.specs.Answers.{moves_in}

-- A layout always has moves, those that stand beside its pattern on the walk. So their rows reach the steps, the determinant is −1, the
-- numbers are small, where octave and generator have 16 bits, and all octaves and generators are made of them in one way.
pub record OwnMoves (l : Layout) (t : Table ℤ) : Type 0 where
  pub are : moves_in l ≡ Some t
  pub at : (k : ℕ) × MovesAt l.octave l.generator k l.pattern t
  pub by_pattern : t ≡ pattern_moves l.octave l.generator l.pattern
  pub board : l.octave ≤ 65535 → l.generator ≤ 65535 → BoardMoves l.octave l.generator l.pattern t
  pub reach : (x y : ℤ) → ReachedInOneWay l.octave l.generator l.pattern t x y

abbrev pub LayoutsHaveMoves : Type 0
LayoutsHaveMoves = (r : IsomorphicLayout) (l : Layout) → Accepted r l → (t : Table ℤ) × OwnMoves l t

-- And the two moves reach every key, each from the key with its cycle's number: where there is one cycle, from key 0.
abbrev pub MovesReachEveryKey : Type 0
MovesReachEveryKey =
    (r : IsomorphicLayout) (l : Layout) → Accepted r l
    → (key : ℤ) → (c : ℤ) × (d : ℤ) × (key ≡ key_at l.pattern c d +ℤ pos (key_cycle l.octave l.generator key))
