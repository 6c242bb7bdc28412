-- What the parts behind the report promise.
use Rattle.std.specs.Prelude.{◌+◌, ◌<◌}
use Rattle.mos.specs.declared.Mos.{Mos}
use Rattle.edo_layouts.specs.Layouts.{one}
use Rattle.edo_counts.specs.declared.parts.Tally.{Tally}
use Rattle.edo_counts.specs.Counts.{is_above, is_below, is_equal}

-- Two tallies, number by number.
abbrev pub plus : Tally → Tally → Tally
plus s t = record { above = s.above + t.above; below = s.below + t.below; equal = s.equal + t.equal }

-- One layout, by its pattern.
abbrev pub side : Mos → Tally
side m = record { above = one (is_above m); below = one (is_below m); equal = one (is_equal m) }

-- One more of each can be counted.
pub record Small (t : Tally) : Type 0 where
  pub above : t.above < 400
  pub below : t.below < 400
  pub equal : t.equal < 400
