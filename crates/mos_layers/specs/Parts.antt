-- What the inner functions promise to the entry points: layers as eight runs, and runs written at a cursor.
use Rattle.std.specs.Prelude.{ℕ, ◌+◌, ◌≤◌, ◌≡◌, List, length, get_or, replicate}
use Rattle.text.specs.Writing.{Wrote, joined}
use Rattle.mos_layers.specs.declared.Cursor.{Cursor}
use Rattle.mos_layers.specs.declared.Runs.{Runs}
use Rattle.mos_layers.specs.Layers.{drop_empty, numbered}

-- Run i: layers of one size, as often as the run says.
abbrev pub run_at : List ℕ → List ℕ → ℕ → List ℕ
run_at sizes times i = replicate (get_or times i 0) (get_or sizes i 0)

-- The sizes of all layers of the runs, empty ones included.
abbrev pub run_sizes : Runs → List ℕ
run_sizes r = joined (run_at r.sizes r.times) 8

-- From the cursor c to the cursor d the layers of these sizes were written, the empty ones dropped before numbering.
pub record Laid (sizes : List ℕ) (c d : Cursor) (before after : List ℕ) : Type 0 where
  pub wrote : Wrote before c.at (numbered c.number (drop_empty sizes)) after d.at
  pub next : d.number ≡ c.number + length (drop_empty sizes)

-- There is room for n entries at the cursor, and their numbers fit 16 bits.
pub record Space (n : ℕ) (c : Cursor) (out : List ℕ) : Type 0 where
  pub fits : c.at + n ≤ length out
  pub small : c.at + n ≤ 65535
  pub low : c.number ≤ c.at
