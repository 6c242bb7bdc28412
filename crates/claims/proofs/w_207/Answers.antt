use Rattle.layout_lamps.proofs.Theorems.{codes_fit, lamps_by_count}
use Rattle.lamp_codes.proofs.Partners.{partners, round_trips}
use Rattle.layout_lamps.proofs.Conversions.{old_strips_convert, first_strips_convert}
use Rattle.claims.proofs.w_207.Goals as goal

pub returns : goal.returns
returns c = (codes_fit, partners, round_trips, old_strips_convert, first_strips_convert, lamps_by_count)
