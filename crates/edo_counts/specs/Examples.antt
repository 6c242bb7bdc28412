-- Worked examples, and one theorem that the definitions give them.
use Rattle.std.specs.Prelude.{ℕ, ◌≡◌, [], ◌∷◌, map}
use Rattle.edo_counts.specs.declared.parts.Tally.{Tally}
use Rattle.edo_counts.specs.Counts.{all_layouts, tally_of, report_line}

abbrev pub tally : ℕ → ℕ → ℕ → Tally
tally above below equal = record { above = above; below = below; equal = equal }

-- Theorem.
pub record ExamplesHold : Type 0 where
  -- the divisions 1 to 13
  pub tallies : map (λ (code : ℕ). tally_of code (all_layouts 13)) (0 ∷ 1 ∷ 2 ∷ 3 ∷ 4 ∷ 5 ∷ [])
      ≡ tally 0 2 1 ∷ tally 1 3 1 ∷ tally 2 4 2 ∷ tally 0 0 1 ∷ tally 1 0 1 ∷ tally 1 0 0 ∷ []
  -- "1 377 8 5" and a line feed
  pub line : report_line 1 377 8 5 ≡ 49 ∷ 32 ∷ 51 ∷ 55 ∷ 55 ∷ 32 ∷ 56 ∷ 32 ∷ 53 ∷ 10 ∷ []
