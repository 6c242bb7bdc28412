-- Worked examples of the definitions, and one theorem that they hold.
use Rattle.std.specs.Prelude.{◌+◌, [], ◌∷◌, map, ◌≡◌, replicate, None}
use Rattle.text.specs.Writing.{joined}
use Rattle.text.specs.Decimal.{digits, numeral, number_at}
use Rattle.text.specs.LittleEndian.{le32, value32}

-- Theorem.
pub record ExamplesHold : Type 0 where
  -- keys 0, 1 and 2, with 1, 2 and 3 times their number
  pub in_turn_lem : joined (λ k. replicate (k + 1) k) 3 ≡ 0 ∷ 1 ∷ 1 ∷ 2 ∷ 2 ∷ 2 ∷ []
  pub numbers : map digits (0 ∷ 9 ∷ 10 ∷ 4096 ∷ 65535 ∷ [])
      ≡ (48 ∷ []) ∷ (57 ∷ []) ∷ (49 ∷ 48 ∷ []) ∷ (52 ∷ 48 ∷ 57 ∷ 54 ∷ []) ∷ (54 ∷ 53 ∷ 53 ∷ 51 ∷ 53 ∷ []) ∷ []
  -- "a12", from each of its places and past its end; "007", "65536", "000001"
  pub readings : map (number_at (97 ∷ 49 ∷ 50 ∷ [])) (0 ∷ 1 ∷ 2 ∷ 3 ∷ []) ≡ None ∷ numeral 12 3 ∷ numeral 2 3 ∷ None ∷ []
  pub zeros : number_at (48 ∷ 48 ∷ 55 ∷ []) 0 ≡ numeral 7 3
  pub too_large : number_at (54 ∷ 53 ∷ 53 ∷ 51 ∷ 54 ∷ []) 0 ≡ None
  pub too_long : number_at (48 ∷ 48 ∷ 48 ∷ 48 ∷ 48 ∷ 49 ∷ []) 0 ≡ None
  pub least_first : le32 67305985 ≡ 1 ∷ 2 ∷ 3 ∷ 4 ∷ []
  pub number : value32 (9 ∷ 1 ∷ 2 ∷ 3 ∷ 4 ∷ 9 ∷ []) 1 ≡ 67305985
  pub past_the_end : value32 (7 ∷ []) 0 ≡ 7
