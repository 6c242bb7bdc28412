-- At the end nothing is counted; else one byte more, here and in the lent count.
use Rattle.std.proofs.Common.{refl}
use Rattle.streams.specs.Streams.{taken_same, taken_more}
use Rattle.streams.proofs.input.next_byte.Goals as goal

pub returns-then-is_err : goal.returns-then-is_err
returns-then-is_err c = record { same = λ bytes h. taken_same _ _ _ bytes refl h; same_kept = refl }

pub returns : goal.returns
returns c =
    let counted = c.wrapping_add_usize.ensures.value in
    let taken = c.wrapping_add_usize-2.ensures.value in
    record { more = λ bytes h. taken_more _ _ _ _ bytes _ taken counted h; more_kept = c.one_more.ensures }
