-- What holds of the two ways. Proofs: proofs/Partners.antt.
use Rattle.std.specs.Prelude.{ℕ, ◌<◌, ◌↔◌, true, List, ◌≡◌}
use Rattle.answer.specs.Outcome.{given}
use Rattle.lamp_codes.specs.Codes.{is_old, wide_code, is_converted, old_code}
use Rattle.lamp_codes.specs.Answers.{get_widened, get_narrowed}

-- Theorem: every old code has one partner, and no two have the same; a code is converted exactly where some old code converts to it.
pub record Partners : Type 0 where
  pub back : (code : ℕ) → is_old code ≡ true → old_code (wide_code code) ≡ code
  pub converted : (code : ℕ) → (is_converted code ≡ true) ↔ ((old : ℕ) × (is_old old ≡ true) × (wide_code old ≡ code))
  -- codes fit their elements
  pub two_bytes : (code : ℕ) → is_old code ≡ true → wide_code code < 65536
  pub one_byte : (code : ℕ) → is_converted code ≡ true → old_code code < 256

-- Theorem: "Stored one_byte strips are converted without loss, and those converted strips go back to the same bytes"; and what goes back
-- is converted to the same codes again.
pub record RoundTrips : Type 0 where
  pub there_and_back : (strip wide : List ℕ) → get_widened strip ≡ given wide → get_narrowed wide ≡ given strip
  pub back_and_there : (wide strip : List ℕ) → get_narrowed wide ≡ given strip → get_widened strip ≡ given wide
