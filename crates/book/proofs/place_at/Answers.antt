-- The pair's two numbers, as they are read.
use mathlib.Core.Path.{ap, ◌∙◌}
use Prim.Native.Nat.{ℕ, ◌+◌, ◌*◌}
use Rattle.text.specs.LittleEndian.{value32}
use Rattle.book.specs.Books.{place_of, offset, size}
use Rattle.book.proofs.place_at.Goals as goal

pub returns : goal.returns
unfolding place_of offset size
returns c =
    ap (λ (x : ℕ). record { offset = x; length = c.read_u32-length.result }) c.read_u32-offset.ensures
    ∙ ap (λ (x : ℕ). record { offset = value32 c.args.book.now (4 + 8 * c.args.key); length = x }) c.read_u32-length.ensures
