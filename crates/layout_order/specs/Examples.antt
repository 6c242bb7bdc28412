-- Worked examples, and one theorem that the definitions give them. An entry here is the number of its key, or of its place.
use Rattle.std.specs.Prelude.{ℕ, zero, suc, List, [], ◌∷◌, ◌≡◌}
use Rattle.answer.specs.Outcome.{given, refused}
use Rattle.layout.specs.Examples.{layout, beginning}
use Rattle.layout_order.specs.Answers.{get_chain_order, get_key_order}

-- The numbers from `from` on, so many.
abbrev pub count_up : ℕ → ℕ → List ℕ
count_up from zero = []
count_up from (suc count) = from ∷ count_up (suc from) count

-- Theorem.
pub record ExamplesHold : Type 0 where
  -- the chain of fifths from D: D A E B, then the keys that have signs, F C G at the end
  pub twelve : get_chain_order (layout 1 12 19) (count_up 0 12)
      ≡ given (0 ∷ 7 ∷ 2 ∷ 9 ∷ 4 ∷ 11 ∷ 6 ∷ 1 ∷ 8 ∷ 3 ∷ 10 ∷ 5 ∷ [])
  -- two cycles of twelve: D A E .. and behind them D* A* E* ..
  pub cycles : get_chain_order (layout 1 24 38) (count_up 0 24)
      ≡ given
      (0 ∷ 14 ∷ 4 ∷ 18 ∷ 8 ∷ 22 ∷ 12 ∷ 2 ∷ 16 ∷ 6 ∷ 20 ∷ 10
      ∷ 1 ∷ 15 ∷ 5 ∷ 19 ∷ 9 ∷ 23 ∷ 13 ∷ 3 ∷ 17 ∷ 7 ∷ 21 ∷ 11 ∷ [])
  -- its places, in the order of the keys: D 0, D* 12, (D#/Eb) 7, (D#/Eb)* 19, ..
  pub places : get_key_order (layout 1 24 38) (count_up 0 24)
      ≡ given
      (0 ∷ 12 ∷ 7 ∷ 19 ∷ 2 ∷ 14 ∷ 9 ∷ 21 ∷ 4 ∷ 16 ∷ 11 ∷ 23
      ∷ 6 ∷ 18 ∷ 1 ∷ 13 ∷ 8 ∷ 20 ∷ 3 ∷ 15 ∷ 10 ∷ 22 ∷ 5 ∷ 17 ∷ [])
  -- the start changes nothing: places are counted from key 0
  pub from_c : get_chain_order (beginning 1 1 12 19) (count_up 0 12)
      ≡ given (0 ∷ 7 ∷ 2 ∷ 9 ∷ 4 ∷ 11 ∷ 6 ∷ 1 ∷ 8 ∷ 3 ∷ 10 ∷ 5 ∷ [])
  -- any entries, more than the octave: the first 7 go
  pub longer : get_chain_order (layout 1 7 11) (65535 ∷ 0 ∷ 0 ∷ 9 ∷ 9 ∷ 1 ∷ 65535 ∷ 8 ∷ 8 ∷ [])
      ≡ given (65535 ∷ 9 ∷ 0 ∷ 1 ∷ 0 ∷ 65535 ∷ 9 ∷ [])
  pub back_again : get_key_order (layout 1 7 11) (65535 ∷ 9 ∷ 0 ∷ 1 ∷ 0 ∷ 65535 ∷ 9 ∷ [])
      ≡ given (65535 ∷ 0 ∷ 0 ∷ 9 ∷ 9 ∷ 1 ∷ 65535 ∷ [])
  -- one entry too few; the layout's questions go first
  pub short : get_chain_order (layout 1 12 19) (count_up 0 11) ≡ refused 10
  pub short_back : get_key_order (layout 1 12 19) (count_up 0 11) ≡ refused 10
  pub no_start : get_chain_order (beginning 7 1 12 19) [] ≡ refused 18
  pub no_pattern : get_key_order (layout 0 12 19) [] ≡ refused 4
  pub no_generator : get_key_order (layout 3 12 19) [] ≡ refused 3
  pub no_octave : get_chain_order (layout 1 0 19) [] ≡ refused 2
  pub no_chain_lem : get_key_order (layout 6 0 0) [] ≡ refused 1
