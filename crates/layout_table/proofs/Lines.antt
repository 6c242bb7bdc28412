-- A key's line: its length part by part, and the sum of the lines' lengths: all names, and all the rest.
use Prim.Native.Nat.{ℕ, zero, suc, ◌+◌}
use mathlib.Core.Path.{◌≡◌, refl, ap, ap₂}
use mathlib.Core.List.{List, [], ◌∷◌, ◌++◌}
use native.Mathlib.Omega.{arith}
use lib.ListN.{length, length-append}
use Rattle.text.specs.Writing.{joined}
use Rattle.text.specs.Decimal.{digits}
use Rattle.line.specs.Lines.{space, line_feed}
use Rattle.layout.specs.Layouts.{Layout}
use Rattle.layout.specs.Names.{listed_name}
use Rattle.layout_lamps.specs.Lamps.{lamp_in}
use Rattle.layout_table.specs.Tables.{key_line, line_in}
use Rattle.layout_table.specs.Parts.{numbers_in}

-- ---- the length of a line

pub length_line : (key : ℕ) (name : List ℕ) (lamp : ℕ) → length (key_line key name lamp) ≡ length (digits key) + length name + length (digits lamp) + 3
unfolding key_line
length_line key name lamp =
    omega (
      arith,
      length-append (digits key) (space ∷ []),
      length-append (digits key ++ (space ∷ [])) name,
      length-append (digits key ++ (space ∷ []) ++ name) (space ∷ []),
      length-append (digits key ++ (space ∷ []) ++ name ++ (space ∷ [])) (digits lamp),
      length-append (digits key ++ (space ∷ []) ++ name ++ (space ∷ []) ++ digits lamp) (line_feed ∷ []),
    )

-- a line by the name that the code planned, and the lamp that it found
pub line_is : (l : Layout) (k : ℕ) (name : List ℕ) (lamp : ℕ) → name ≡ listed_name l k → lamp ≡ lamp_in l k → key_line k name lamp ≡ line_in l k
unfolding line_in
line_is l k name lamp e f = ap₂ (λ (x : List ℕ) (y : ℕ). key_line k x y) e f

-- ---- the sum of the lengths

-- of a line without its name
pub length_numbers : (l : Layout) (k lamp : ℕ) → lamp ≡ lamp_in l k → length (numbers_in l k) ≡ length (digits k) + length (digits lamp) + 3
unfolding numbers_in
length_numbers l k lamp e = omega (arith, length_line k [] (lamp_in l k), ap (λ (x : ℕ). length (digits x)) e)

-- all names, and all the rest
pub length_lines : (l : Layout) (keys : ℕ)
    → length (joined (listed_name l) keys) + length (joined (numbers_in l) keys) ≡ length (joined (line_in l) keys)
unfolding joined
length_lines l zero = refl
length_lines l (suc k) =
    let lamp = lamp_in l k in
    let name = listed_name l k in
    omega (
      arith,
      length_lines l k,
      length-append (joined (listed_name l) k) name,
      length-append (joined (numbers_in l) k) (numbers_in l k),
      length-append (joined (line_in l) k) (line_in l k),
      length_numbers l k lamp refl,
      length_line k name lamp,
      ap length (line_is l k name lamp refl refl),
    )
