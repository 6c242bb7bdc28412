use Rattle.layout_sheet.proofs.Theorems.{sheets_hold_single_calls, lamps_are_the_strips, sheets_sound_their_keys, only_the_key_counts, refused_by_its_layout}
use Rattle.claims.proofs.w_208.Goals as goal

pub returns : goal.returns
returns c = (sheets_hold_single_calls, lamps_are_the_strips, sheets_sound_their_keys, only_the_key_counts, refused_by_its_layout)
