-- Each way in which the count is refused or given, by the tests that led there.
use Rattle.book.proofs.Lookup.{too_short, no_keys, too_many, pairs_are_held, keys_given, not_covered}
use Rattle.book.proofs.count.Goals as goal

pub returns-then-book-lt4 : goal.returns-then-book-lt4
returns-then-book-lt4 c = too_short _ c.if-book-lt4.true

pub returns-then-keys-lt1 : goal.returns-then-keys-lt1
returns-then-keys-lt1 c = no_keys _ _ c.read_u32-keys.ensures c.if-keys-lt1.true

pub returns-then-book-keys : goal.returns-then-book-keys
returns-then-book-keys c = too_many _ _ c.read_u32-keys.ensures c.if-book-keys.true

pub covers-requires : goal.covers-requires
covers-requires c = pairs_are_held _ _ c.read_u32-keys.ensures c.if-keys-lt1.false c.if-book-keys.false

pub returns-then-covers : goal.returns-then-covers
returns-then-covers c =
    keys_given _ _ c.read_u32-keys.ensures c.if-keys-lt1.false c.if-book-keys.false c.covers.ensures c.if-covers.true

pub returns : goal.returns
returns c =
    not_covered _ _ c.read_u32-keys.ensures c.if-keys-lt1.false c.if-book-keys.false c.covers.ensures c.if-covers.false
