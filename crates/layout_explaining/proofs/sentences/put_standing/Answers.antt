-- The place is read back from the record.
use mir.Syntax.{w64}
use mir.ValLaws.{to_z-of_z}
use Rattle.text.proofs.Writing.{wrote_as}
use Rattle.notes.specs.Names.{letter_text}
use Rattle.layout_explaining.proofs.Wording.{placed_as}
use borrow.Author.Rules.{rules}
use Rattle.layout_explaining.proofs.sentences.put_standing.Goals as goal

pub returns : goal.returns
returns c =
    let read = to_z-of_z w64 c.args.standing.place (search rules) in (
      wrote_as
          (placed_as (letter_text c.args.counting.letter) c.args.counting.generator c.args.counting.octave c.args.standing.stars c.args.standing.key _ _ read)
          c.put_placed.ensures.0,
      c.put_placed.ensures.1,
    )
