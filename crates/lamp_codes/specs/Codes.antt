-- Lamp codes of one byte, and of two. One byte (document 01, "Lamps and book"): home 0, "natural 1, sharp k 2 + k, flat k 102 + k,
-- enharmonic 255", with k below 100. Two (document 02, W-207): "home 0, natural 1, sharp k 2 + 2 × k, flat k 3 + 2 × k, enharmonic 65,535".
use Rattle.std.specs.Prelude.{ℕ, ◌+◌, ◌*◌, ◌-◌, ◌/◌, ◌%◌, Bool, ◌||◌, eqb, ltb}
use Rattle.answer.specs.Choice.{pick}

-- Of the bytes, those "from 202 to 254" are no codes.
abbrev pub is_old : ℕ → Bool
is_old code = ltb code 202 || eqb code 255

-- The two-byte code of what a one-byte code stands for: home and natural; sharp; flat; enharmonic.
unfoldable pub wide_code : ℕ → ℕ
wide_code code =
    pick (ltb code 2) code
    (pick (ltb code 102) (2 + 2 * (code - 2))
    (pick (ltb code 202) (3 + 2 * (code - 102)) 65535))

-- Of the two-byte codes, those that an old code converts to (`Partners` says so).
abbrev pub is_converted : ℕ → Bool
is_converted code = ltb code 202 || eqb code 65535

-- The one-byte code of what such a code stands for: home and natural; sharp, by even numbers, and flat, by odd ones; enharmonic.
unfoldable pub old_code : ℕ → ℕ
old_code code =
    pick (ltb code 2) code
    (pick (ltb code 202) (pick (eqb (code % 2) 0) (2 + (code - 2) / 2) (102 + (code - 3) / 2)) 255)
