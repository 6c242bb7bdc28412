-- What holds of every accepted layout's scale name. Proofs: proofs/BySharpness.antt.
use Rattle.std.specs.Prelude.{ℕ, suc, ◌≡◌, pos, negsuc}
use Rattle.answer.specs.Outcome.{given}
use Rattle.genchain.specs.Chains.{chain_of, equalized}
use Rattle.mos.specs.Patterns.{sharpness_of}
use Rattle.layout.specs.declared.IsomorphicLayout.{IsomorphicLayout}
use Rattle.layout.specs.Layouts.{Layout, Accepted}
use Rattle.layout.specs.Answers.{get_scale_name}

-- "Scale names, sharpness above / below 0: .. at 0 always equalized": above 0 is `pos (suc k)`, below it `negsuc k`, which is −1 − k.
pub record NamedBySharpness (r : IsomorphicLayout) (l : Layout) : Type 0 where
  pub above : (k : ℕ) → sharpness_of l.pattern ≡ pos (suc k) → get_scale_name r ≡ given (chain_of l.chain).scale_above
  pub below : (k : ℕ) → sharpness_of l.pattern ≡ negsuc k → get_scale_name r ≡ given (chain_of l.chain).scale_below
  pub at_zero : sharpness_of l.pattern ≡ pos 0 → get_scale_name r ≡ given equalized

-- Theorem: the scale of every accepted layout is named by its sharpness.
abbrev pub ScaleNamesGoBySharpness : Type 0
ScaleNamesGoBySharpness = (r : IsomorphicLayout) (l : Layout) → Accepted r l → NamedBySharpness r l
