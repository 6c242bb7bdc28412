-- Worked examples of the definitions: inputs and answers, and one theorem that each definition gives its column.
use Rattle.std.specs.Prelude.{◌≡◌, List, [], ◌∷◌, map, ℕ, ℤ, pos, negsuc}
use Rattle.answer.specs.Outcome.{given, refused}
use Rattle.math.specs.Gcd.{gcd_or_one, lowest_terms}
use Rattle.math.specs.Answers.{divide_outcome, div_outcome, rem_outcome}
use Rattle.math.specs.OddFactors.{odd_factors}

-- Two numbers with their greatest common divisor and their fraction in lowest terms.
pub record GcdExample : Type 0 where
  pub x : ℕ
  pub y : ℕ
  pub gcd : ℕ
  pub numer : ℕ
  pub denom : ℕ

abbrev pub gcd_examples : List GcdExample
gcd_examples =
    record { x = 35; y = 20; gcd = 5; numer = 7; denom = 4 }
    ∷ record { x = 35; y = 22; gcd = 1; numer = 35; denom = 22 }
    ∷ record { x = 35; y = 0; gcd = 35; numer = 1; denom = 0 }
    ∷ record { x = 0; y = 21; gcd = 21; numer = 0; denom = 1 }
    ∷ record { x = 0; y = 0; gcd = 1; numer = 0; denom = 0 }
    ∷ record { x = 65535; y = 43690; gcd = 21845; numer = 3; denom = 2 }
    ∷ []

-- An integer divided by a number, with quotient and remainder; `negsuc 3` is −4.
pub record DivisionExample : Type 0 where
  pub numer : ℤ
  pub denom : ℕ
  pub quotient : ℤ
  pub remainder : ℕ

abbrev pub division_examples : List DivisionExample
division_examples =
    record { numer = negsuc 3; denom = 12; quotient = negsuc 0; remainder = 8 }
    ∷ record { numer = pos 6; denom = 5; quotient = pos 1; remainder = 1 }
    ∷ record { numer = pos 17; denom = 5; quotient = pos 3; remainder = 2 }
    ∷ record { numer = negsuc 0; denom = 5; quotient = negsuc 0; remainder = 4 }
    ∷ record { numer = negsuc 4; denom = 5; quotient = negsuc 0; remainder = 0 }
    ∷ record { numer = negsuc 5; denom = 5; quotient = negsuc 1; remainder = 4 }
    ∷ record { numer = negsuc 2147483647; denom = 4294967295; quotient = negsuc 0; remainder = 2147483647 }
    ∷ record { numer = negsuc 2147483647; denom = 1; quotient = negsuc 2147483647; remainder = 0 }
    ∷ []

pub record OddExample : Type 0 where
  pub number : ℕ
  pub odd : ℕ

abbrev pub odd_examples : List OddExample
odd_examples =
    record { number = 0; odd = 0 }
    ∷ record { number = 1; odd = 1 }
    ∷ record { number = 2; odd = 1 }
    ∷ record { number = 24; odd = 3 }
    ∷ record { number = 35; odd = 35 }
    ∷ record { number = 32768; odd = 1 }
    ∷ []

-- Theorem: the definitions give what the examples say.
pub record ExamplesHold : Type 0 where
  pub gcds : map (λ (e : GcdExample). gcd_or_one e.x e.y) gcd_examples ≡ map (λ (e : GcdExample). e.gcd) gcd_examples
  pub fractions : map (λ (e : GcdExample). lowest_terms e.x e.y) gcd_examples
      ≡ map (λ (e : GcdExample). record { numer = e.numer; denom = e.denom }) gcd_examples
  pub divided : map (λ (e : DivisionExample). divide_outcome e.numer e.denom) division_examples
      ≡ map (λ (e : DivisionExample). given (e.quotient, e.remainder)) division_examples
  pub quotients : map (λ (e : DivisionExample). div_outcome e.numer e.denom) division_examples
      ≡ map (λ (e : DivisionExample). given e.quotient) division_examples
  pub remainders : map (λ (e : DivisionExample). rem_outcome e.numer e.denom) division_examples
      ≡ map (λ (e : DivisionExample). given e.remainder) division_examples
  -- a denominator of 0 is refused as a period below 1 is
  pub none_divided : divide_outcome (pos 7) 0 ≡ refused 2
  pub no_quotient : div_outcome (pos 7) 0 ≡ refused 2
  pub no_remainder : rem_outcome (pos 7) 0 ≡ refused 2
  pub odds : map (λ (e : OddExample). odd_factors e.number) odd_examples ≡ map (λ (e : OddExample). e.odd) odd_examples
