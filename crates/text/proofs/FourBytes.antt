-- A number in four bytes: read as the code reads it, and read back after it was written.
use Prim.Native.Nat.{ℕ, ◌+◌, ◌*◌, ◌/◌, ◌%◌, ◌<◌}
use native.Mathlib.Nat.{add-zero, add_assoc, div-div-eq-div-mul, div-add-mod, mod-eq_of_lt}
use native.Mathlib.Omega.{arith}
use mathlib.Core.Path.{◌≡◌, refl, sym, ap, ◌∙◌}
use mathlib.Core.List.{List, ◌++◌, append_assoc}
use lib.ListN.{length, get_or}
use lib.Seq.{get_or-append-add}
use Rattle.std.specs.Int.{to_le_bytes}
use Rattle.std.proofs.Common.{w32}
use Rattle.text.specs.LittleEndian.{le32, value32}
use Rattle.text.specs.Theorems.{FourBytesReadBack}

-- the kit's four bytes
pub four_bytes : (n : ℕ) → to_le_bytes w32 n ≡ le32 n
unfolding le32
four_bytes n = refl

pub length_le32 : (n : ℕ) → length (le32 n) ≡ 4
unfolding le32
length_le32 n = refl

-- as the kit reads them
pub value_is : (bytes : List ℕ) (at : ℕ)
    → get_or bytes at 0 + get_or bytes (at + 1) 0 * 256 + get_or bytes (at + 2) 0 * 65536 + get_or bytes (at + 3) 0 * 16777216 ≡ value32 bytes at
unfolding value32
value_is bytes at = omega arith

-- only what stands from the place on counts
pub value_behind : (before bytes : List ℕ) (at : ℕ) → value32 (before ++ bytes) (length before + at) ≡ value32 bytes at
unfolding value32
value_behind before bytes at =
    simp (add_assoc (length before) at 1, add_assoc (length before) at 2, add_assoc (length before) at 3, get_or-append-add)

-- each byte is what is left of a quotient
value_front : (n : ℕ) (behind : List ℕ) → n < 4294967296 → value32 (le32 n ++ behind) 0 ≡ n
unfolding value32 le32
value_front n behind h =
    let q = n / 256 in
    let second : n / 65536 ≡ q / 256 = sym (div-div-eq-div-mul n 256 256) in
    let third : n / 16777216 ≡ q / 256 / 256 = sym (div-div-eq-div-mul q 256 256 ∙ div-div-eq-div-mul n 256 65536) in
    let last : n / 16777216 % 256 ≡ n / 16777216 = mod-eq_of_lt (omega arith) in
    rw (last, second, third) (omega (arith, div-add-mod n 256, div-add-mod q 256, div-add-mod (q / 256) 256))

pub four_bytes_read_back : FourBytesReadBack
four_bytes_read_back n before behind h =
    ap (λ (bytes : List ℕ). value32 bytes (length before)) (append_assoc before (le32 n) behind)
    ∙ ap (value32 (before ++ (le32 n ++ behind))) (sym (add-zero (length before)))
    ∙ value_behind before (le32 n ++ behind) 0
    ∙ value_front n behind h
