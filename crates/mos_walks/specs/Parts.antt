-- What the search that calls itself promises to the entry point.
use Rattle.std.specs.Prelude.{◌≡◌, Bool, Option, None, Some, is_some}
use Rattle.mos.specs.declared.Mos.{Mos}

-- What a lent place holds after a search: the pattern, or where there is none what it held before.
abbrev pub left_by : Option Mos → Option Mos → Option Mos
left_by None before = before
left_by (Some m) before = Some m

-- What a walk that is to meet a pattern says, and what it leaves in the lent place.
pub record Meets (pattern : Option Mos) (says : Bool) (before after : Option Mos) : Type 0 where
  pub answer : says ≡ is_some pattern
  pub found : after ≡ left_by pattern before
