-- What the parts behind the calls promise, by the numbers that the code carries.
use Rattle.std.specs.Prelude.{ℕ, ◌+◌, ◌*◌, ◌-◌, ◌<◌, ◌≤◌, min, ◌≡◌, ◌⊎◌, ℤ, pos, ◌-ℤ◌}
use Rattle.math.specs.Division.{remainder}
use Rattle.pergen.specs.Pergen.{cycles}
use Rattle.pergen.specs.Spelling.{sounds}
use Rattle.layout_reach.specs.Reach.{distance}
use Rattle.layout_reach.specs.declared.parts.Span.{Span}

-- n neighbouring keys of the octave, from `base` on.
pub record Block (octave base n : ℕ) : Type 0 where
  pub some : 0 < n
  pub fits : base + n ≤ octave

-- r is the nearer of a block's ends, the first of two equally near.
pub record NearerEnd (octave base last key r : ℕ) : Type 0 where
  pub which : ((r ≡ last) × (distance octave (pos last) (pos key) < distance octave (pos base) (pos key)))
      ⊎ ((r ≡ base) × (distance octave (pos base) (pos key) ≤ distance octave (pos last) (pos key)))

-- r is the first of a block's keys that are nearest to a key of the octave.
pub record NearestIn (octave base n key r : ℕ) : Type 0 where
  pub from : base ≤ r
  pub below : r < base + n
  pub least : (j : ℕ) → base ≤ j → j < base + n → distance octave (pos r) (pos key) ≤ distance octave (pos j) (pos key)
  pub lower : (j : ℕ) → base ≤ j → j < base + n → distance octave (pos r) (pos key) ≡ distance octave (pos j) (pos key) → r ≤ j

-- r is the first of the nearest keys that a letter without signs sounds, with any stars below the number of cycles.
pub record NearestFrom (octave G start : ℕ) (key : ℤ) (letter r : ℕ) : Type 0 where
  pub is : NearestIn octave (sounds octave G (pos letter -ℤ pos start) 0) (cycles octave G) (remainder key octave) r

-- The keys of the octave that are in reach are those below `wrapped` and those of `from` to `to` − 1; how many that are does not depend
-- on the key.
pub record SpanOf (octave key d : ℕ) (s : Span) : Type 0 where
  pub first : s.wrapped ≤ s.from
  pub second : s.from ≤ s.to
  pub third : s.to ≤ octave
  pub near_first : (j : ℕ) → j < s.wrapped → distance octave (pos j) (pos key) ≤ d
  pub far_first : (j : ℕ) → s.wrapped ≤ j → j < s.from → d < distance octave (pos j) (pos key)
  pub near_second : (j : ℕ) → s.from ≤ j → j < s.to → distance octave (pos j) (pos key) ≤ d
  pub far_second : (j : ℕ) → s.to ≤ j → j < octave → d < distance octave (pos j) (pos key)
  pub together : s.wrapped + (s.to - s.from) ≡ min (2 * d + 1) octave
