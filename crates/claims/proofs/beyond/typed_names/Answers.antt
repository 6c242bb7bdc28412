use Rattle.layout_reading.proofs.Undoing.{reading_undoes_writing}
use Rattle.layout_reading.proofs.NothingElse.{nothing_else_is_read}
use Rattle.layout_reading.proofs.OnlyNames.{nothing_else_leads_to_a_key}
use Rattle.layout_reading.proofs.NamesBack.{two_spellings_lead_to_their_key, names_lead_back}
use Rattle.claims.proofs.beyond.typed_names.Goals as goal

pub returns : goal.returns
returns c =
    (reading_undoes_writing, two_spellings_lead_to_their_key, nothing_else_is_read, nothing_else_leads_to_a_key, names_lead_back)
