use Rattle.text.proofs.ReadBack.{digits_read_back}
use Rattle.text.proofs.FourBytes.{four_bytes_read_back}
use Rattle.math.proofs.LowestTerms.{lowest_terms_are_lowest}
use Rattle.math.proofs.OddFactors.{odd_factors_are_left}
use Rattle.claims.proofs.beyond.numbers_read_back.Goals as goal

pub returns : goal.returns
returns c = (digits_read_back, four_bytes_read_back, lowest_terms_are_lowest, odd_factors_are_left)
