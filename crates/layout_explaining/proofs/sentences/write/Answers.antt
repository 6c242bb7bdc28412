-- What stands behind each name is put together first; then question 10, and the parts one after the other.
use mathlib.Core.Path.{refl, sym, ap, ◌∙◌}
use native.Mathlib.Nat.{zero-add}
use native.Mathlib.Omega.{arith}
use lib.ListN.{length}
use lib.Seq.{length-take-le}
use Rattle.answer.specs.Outcome.{given}
use Rattle.answer.proofs.Lent.{held, not_held, filled_refused}
use Rattle.text.proofs.Writing.{filled_given}
use Rattle.notes.specs.Names.{letter_text}
use Rattle.layout_explaining.specs.Sentences.{sentences}
use Rattle.layout_explaining.proofs.Wording.{length_in_parts, front_there, front_length, sentences_written}
use Rattle.layout_explaining.proofs.sentences.write.Goals as goal

pub returns-then-out-bytes : goal.returns-then-out-bytes
returns-then-out-bytes c =
    let p = c.put_standing-one_end.ensures in
    let q = c.put_rest-other_end.ensures in
    let bytes = length_in_parts (letter_text c.args.counting.letter) c.args.counting.generator c.args.counting.octave c.args.first.now c.args.second.now c.args.explanation _ _ (p.0.end ∙ zero-add _) (q.0.end ∙ zero-add _) in
    filled_refused 10 _ (not_held (length c.args.out.now) (sentences (letter_text c.args.counting.letter) c.args.counting.generator c.args.counting.octave c.args.first.now c.args.second.now c.args.explanation) (omega (arith, bytes, c.if-out-bytes.true))) refl

pub slice_bounds-put_text-end : goal.slice_bounds-put_text-end
slice_bounds-put_text-end c =
    let p = c.put_standing-one_end.ensures in
    let one = front_there p.0 (omega (arith, p.1)) in
    sym (length-take-le _ _ one.0)

pub put_text-told-requires : goal.put_text-told-requires
put_text-told-requires c =
    let p = c.put_standing-one_end.ensures in
    let room_told = c.if-out-bytes.false in
    omega (arith, room_told, c.put_text-named.ensures.end, front_length p.0 (omega (arith, p.1)))

pub put_text-next-requires : goal.put_text-next-requires
put_text-next-requires c =
    let p = c.put_standing-one_end.ensures in
    let room_next = c.if-out-bytes.false in
    omega (arith, room_next, c.put_text-named.ensures.end, c.put_text-told.ensures.end, front_length p.0 (omega (arith, p.1)))

pub slice_bounds-put_text-end-2 : goal.slice_bounds-put_text-end-2
slice_bounds-put_text-end-2 c =
    let q = c.put_rest-other_end.ensures in
    let other = front_there q.0 (omega (arith, q.1)) in
    sym (length-take-le _ _ other.0)

pub put_text-requires : goal.put_text-requires
put_text-requires c =
    let p = c.put_standing-one_end.ensures in
    let q = c.put_rest-other_end.ensures in
    let room_rest = c.if-out-bytes.false in
    omega (arith, room_rest, c.put_text-named.ensures.end, c.put_text-told.ensures.end, c.put_text-next.ensures.end, front_length p.0 (omega (arith, p.1)), front_length q.0 (omega (arith, q.1)))

pub returns : goal.returns
returns c =
    let p = c.put_standing-one_end.ensures in
    let q = c.put_rest-other_end.ensures in
    let room_all = c.if-out-bytes.false in
    let one = front_there p.0 (omega (arith, p.1)) in
    let other = front_there q.0 (omega (arith, q.1)) in
    let bytes = length_in_parts (letter_text c.args.counting.letter) c.args.counting.generator c.args.counting.octave c.args.first.now c.args.second.now c.args.explanation _ _ (p.0.end ∙ zero-add _) (q.0.end ∙ zero-add _) in
    filled_given (held (length c.args.out.now) (sentences (letter_text c.args.counting.letter) c.args.counting.generator c.args.counting.octave c.args.first.now c.args.second.now c.args.explanation) (omega (arith, bytes, room_all))) (ap given bytes) (omega (arith, bytes, room_all))
    (sentences_written (letter_text c.args.counting.letter) c.args.counting.generator c.args.counting.octave c.args.first.now c.args.second.now c.args.explanation
    c.put_text-named.ensures c.put_text-told.ensures one.1 c.put_text-next.ensures c.put_text.ensures other.1)
