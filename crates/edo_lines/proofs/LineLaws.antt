-- A layout's line, by the places of its two names in the table, and how long it can be.
use Prim.Native.Nat.{ℕ, ◌+◌, ◌*◌, ◌≤◌, ◌<◌}
use native.Mathlib.Omega.{arith}
use mathlib.Core.Path.{◌≡◌, sym, ap, ap₂, ◌∙◌}
use mathlib.Core.List.{List, [], ◌∷◌, ◌++◌}
use lib.ListN.{length, length-append}
use Rattle.answer.specs.Outcome.{Outcome, given, refused}
use Rattle.genchain.specs.Texts.{text_at, PlaceOf}
use Rattle.genchain.proofs.TextTable.{texts_at, text_small}
use Rattle.layout.specs.ScaleNames.{scale_name}
use Rattle.text.specs.Decimal.{digits}
use Rattle.text.proofs.Digits.{digits_length}
use Rattle.edo_tritaves.specs.declared.Choices.{Choices}
use Rattle.edo_layouts.specs.declared.EdoLayout.{EdoLayout}
use Rattle.edo_layouts.specs.Layouts.{chain_served, given_of, joined_over}
use Rattle.edo_layouts.proofs.Listing.{joined_over_one, joined_over_none}
use Rattle.edo_layouts.proofs.Serving.{served_chain}
use Rattle.edo_lines.specs.Lines.{line_with, layout_line}
use Rattle.edo_lines.specs.Parts.{served_line}

-- a number of 16 bits and the byte behind it; a text of the table
pub short : (n behind : ℕ) → n ≤ 65535 → length (digits n ++ (behind ∷ [])) ≤ 6
short n behind h = omega (arith, length-append (digits n) (behind ∷ []), (digits_length n (omega (arith, h))).few)

pub short_name : (place : ℕ) → place < 19 → length (text_at place) ≤ 12
short_name place h = text_small place h

module _ (n : ℕ) (t : Choices) (code : ℕ) where
  pub no_line_lem : (q : ℕ) → refused q ≡ chain_served n code t → [] ≡ served_line n t code
  unfolding served_line
  no_line_lem q e = sym (joined_over_none layout_line) ∙ ap (λ (o : Outcome EdoLayout). joined_over layout_line (given_of o)) e

  module _ (c : EdoLayout) (e : given c ≡ chain_served n code t) where
    -- a layout that was found is one of its chain
    pub of_known_chain : code < 6 → c.layout.genchain < 6
    of_known_chain h = omega (arith, served_chain n code c t e)

    pub line_is : layout_line c ≡ served_line n t code
    unfolding served_line
    line_is = sym (joined_over_one layout_line c) ∙ ap (λ (o : Outcome EdoLayout). joined_over layout_line (given_of o)) e

-- a layout's line, by the places of its names
pub line_of : (c : EdoLayout) → c.layout.genchain < 6 → (scale : ℕ) → PlaceOf (scale_name c.layout.genchain c.pattern) scale
    → line_with c.layout.genchain c.layout.octave c.layout.tritave (text_at (1 + 3 * c.layout.genchain)) (text_at scale) ≡ layout_line c
unfolding layout_line
line_of c h scale p =
    ap₂ (λ (x y : List ℕ). line_with c.layout.genchain c.layout.octave c.layout.tritave x y) (texts_at c.layout.genchain h).name p.is
