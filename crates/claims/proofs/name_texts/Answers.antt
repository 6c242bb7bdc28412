use Rattle.genchain.proofs.GoodChains.{chains_are_good}
use Rattle.notes.proofs.Printing.{spellings_in_a_name_are_the_keys}
use Rattle.notes.proofs.Reader.{reading_gives_the_first_spelling}
use Rattle.notes.proofs.OneSpelling.{equal_names_have_one_first_spelling}
use Rattle.claims.proofs.name_texts.Goals as goal

pub returns : goal.returns
returns c = (chains_are_good, spellings_in_a_name_are_the_keys, reading_gives_the_first_spelling, equal_names_have_one_first_spelling)
