-- Behind a letter's last entry both keys go on by a letter, else by a sharp.
use mathlib.Core.Logic.{inl, inr}
use mathlib.Core.Path.{refl}
use Rattle.layout_retuning.proofs.Strides.{first_on, second_on, both_on}
use Rattle.layout_retuning.proofs.parts.next_keys.Goals as goal

pub both_raised-requires : goal.both_raised-requires
both_raised-requires c =
    let behind = inl (c.if-entry-eq16.true, refl) in
    let first = first_on _ c.args.tunings.positive _ c.requires.0 _ _ c.requires.1 _ behind in
    let second = second_on _ c.args.tunings.positive _ c.requires.0 _ _ c.requires.1 _ behind in
    (first.0, first.1, second.0, second.1)

pub returns-then-entry-eq16 : goal.returns-then-entry-eq16
returns-then-entry-eq16 c =
    both_on _ c.args.tunings.positive _ c.requires.0 _ _ c.requires.1 _ (inl (c.if-entry-eq16.true, refl))
    _ _ c.both_raised.ensures.0 c.both_raised.ensures.1

pub both_raised-requires-2 : goal.both_raised-requires-2
both_raised-requires-2 c =
    let behind = inr (c.if-entry-eq16.false, refl) in
    let first = first_on _ c.args.tunings.positive _ c.requires.0 _ _ c.requires.1 _ behind in
    let second = second_on _ c.args.tunings.positive _ c.requires.0 _ _ c.requires.1 _ behind in
    (first.0, first.1, second.0, second.1)

pub returns : goal.returns
returns c =
    both_on _ c.args.tunings.positive _ c.requires.0 _ _ c.requires.1 _ (inr (c.if-entry-eq16.false, refl))
    _ _ c.both_raised-2.ensures.0 c.both_raised-2.ensures.1
