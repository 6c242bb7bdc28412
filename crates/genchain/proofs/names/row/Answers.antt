-- The table is the rows of all texts, computed once.
use mathlib.Core.List.{[]}
use Rattle.text.proofs.Copying.{mapped_at}
use Rattle.genchain.specs.Texts.{texts, text_at, text_row_of}
use borrow.Author.Rules.{rules}
use Rattle.genchain.proofs.names.row.Goals as goal

pub returns : goal.returns
unfolding text_at text_row_of
returns c = mapped_at text_row_of texts c.args.place _ [] (search rules)
