-- The count's questions, then the key's; the pair is read where the count says that it is held.
use native.Mathlib.Omega.{arith}
use mir.Syntax.{w32}
use Rattle.math.proofs.Signed.{by_mirror, positive_cast, by_cast}
use Rattle.answer.proofs.Passing.{passed_on}
use Rattle.book.proofs.Lookup.{book_refused, negative_key, unknown_key, pair_held, found}
use Rattle.book.proofs.find.Goals as goal

pub returns-then-key-lt0 : goal.returns-then-key-lt0
returns-then-key-lt0 c =
    negative_key _ _ _ _ c.in_ok-keys.ensures
    (by_mirror w32 c.args.key c.ranges.key c.if-key-lt0.true)

pub overflow_cast-index : goal.overflow_cast-index
overflow_cast-index c =
    positive_cast w32 c.args.key c.ranges.key c.if-key-lt0.false

pub returns-then-keys-index : goal.returns-then-keys-index
returns-then-keys-index c =
    unknown_key _ _ _ _ c.in_ok-keys.ensures
    (by_cast w32 c.args.key c.ranges.key c.if-key-lt0.false) c.if-keys-index.true

pub place_at-requires : goal.place_at-requires
place_at-requires c =
    let first = by_cast w32 c.args.key c.ranges.key c.if-key-lt0.false in
    omega (arith, pair_held _ c.args.key _ _ c.in_ok-keys.ensures first c.if-keys-index.false)

pub returns : goal.returns
returns c =
    found _ c.args.key _ _ c.in_ok-keys.ensures
    (by_cast w32 c.args.key c.ranges.key c.if-key-lt0.false) c.if-keys-index.false _ c.place_at.ensures

pub returns-in_err-keys : goal.returns-in_err-keys
returns-in_err-keys c =
    rw (passed_on _ _ c.from_residual.ensures)
    (book_refused _ _ _ c.in_err-keys.ensures)
