-- Both keys, with the same stars.
use mathlib.Core.Path.{ap, ◌∙◌}
use Rattle.layout.specs.Names.{key_of}
use Rattle.layout_reading.proofs.Keys.{same_key, two_keys}
use Rattle.layout_reading.proofs.reader.Reader.key_of_both.Goals as goal

pub returns-then-one-other : goal.returns-then-one-other
returns-then-one-other c = same_key _ _ _ _ _ _ (c.key_of-one.ensures ∙ ap (key_of _) c.with_stars.ensures) (c.key_of-other.ensures ∙ ap (key_of _) c.with_stars-2.ensures) c.if-one-other.true

pub returns : goal.returns
returns c = two_keys _ _ _ _ _ _ (c.key_of-one.ensures ∙ ap (key_of _) c.with_stars.ensures) (c.key_of-other.ensures ∙ ap (key_of _) c.with_stars-2.ensures) c.if-one-other.false
