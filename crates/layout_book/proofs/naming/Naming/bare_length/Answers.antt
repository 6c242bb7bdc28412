-- The rounds at both ends, and the middle.
use native.Mathlib.Omega.{arith}
use Rattle.layout.proofs.Kept.{made_ready}
use Rattle.layout_book.proofs.ReadyNumbers.{made_numbers}
use Rattle.layout_book.proofs.LettersRead.{ready_row, row_length}
use Rattle.layout_book.proofs.BareLengths.{round_inside, middle_stretch, few_rounds, few_signs, few_signs_all, few_letters, bare_length}
use Rattle.layout_book.proofs.naming.Naming.bare_length.Goals as goal

pub rounds_of-rounds-requires : goal.rounds_of-rounds-requires
rounds_of-rounds-requires c =
    let h = made_numbers c.args.self.prepared (omega arith) in
    (omega (arith, h.five), h.enough)

pub overflow_add-rounds : goal.overflow_add-rounds
overflow_add-rounds c = omega (arith, few_rounds _ (made_numbers c.args.self.prepared (omega arith)) _ c.rounds_of-rounds.ensures)

pub overflow_mul-letters : goal.overflow_mul-letters
overflow_mul-letters c = omega (arith, round_inside _ (made_numbers c.args.self.prepared (omega arith)) _ c.rounds_of-rounds.ensures, (made_numbers c.args.self.prepared (omega arith)).few_degrees)

pub overflow_sub-degrees : goal.overflow_sub-degrees
overflow_sub-degrees c = round_inside _ (made_numbers c.args.self.prepared (omega arith)) _ c.rounds_of-rounds.ensures

pub stretch_length-middle-requires : goal.stretch_length-middle-requires
stretch_length-middle-requires c = middle_stretch _ (made_numbers c.args.self.prepared (omega arith)) _ c.rounds_of-rounds.ensures

pub letters_length-alone-requires : goal.letters_length-alone-requires
letters_length-alone-requires c = ready_row _ (made_ready c.args.self.prepared) _ c.args.self.own_row

pub overflow_mul-signs : goal.overflow_mul-signs
overflow_mul-signs c =
    omega (arith, few_signs _ (made_numbers c.args.self.prepared (omega arith)) _ c.rounds_of-rounds.ensures)

pub overflow_mul-signs-2 : goal.overflow_mul-signs-2
overflow_mul-signs-2 c =
    omega (arith, few_signs_all _ (made_numbers c.args.self.prepared (omega arith)) _ c.rounds_of-rounds.ensures)

pub overflow_mul-result-2 : goal.overflow_mul-result-2
overflow_mul-result-2 c =
    omega (arith, few_letters _ (made_numbers c.args.self.prepared (omega arith)) _ c.rounds_of-rounds.ensures _ c.letters_length-alone.ensures.1)

pub overflow_add-result-2 : goal.overflow_add-result-2
overflow_add-result-2 c =
    omega (
      arith,
      few_letters _ (made_numbers c.args.self.prepared (omega arith)) _ c.rounds_of-rounds.ensures _ c.letters_length-alone.ensures.1,
      few_signs_all _ (made_numbers c.args.self.prepared (omega arith)) _ c.rounds_of-rounds.ensures,
    )

pub overflow_add-result-3 : goal.overflow_add-result-3
overflow_add-result-3 c =
    omega (
      arith,
      few_letters _ (made_numbers c.args.self.prepared (omega arith)) _ c.rounds_of-rounds.ensures _ c.letters_length-alone.ensures.1,
      few_signs_all _ (made_numbers c.args.self.prepared (omega arith)) _ c.rounds_of-rounds.ensures,
      c.stretch_length-middle.ensures.1,
    )

pub returns : goal.returns
returns c =
    bare_length _ (made_numbers c.args.self.prepared (omega arith)) _ c.rounds_of-rounds.ensures (row_length _ (made_ready c.args.self.prepared) _ c.args.self.own_row c.letters_length-alone.ensures.0) c.stretch_length-middle.ensures.0
