-- What holds of every walk from a fractional generator. Each statement is proved in proofs/Theorems.antt.
use Rattle.std.specs.Prelude.{ℕ, ◌*◌, ◌%◌, ◌≤◌, ◌<◌, ◌≡◌, Bool, false, ◌∷◌, T, ℤ, pos, length, Float, Some, slice_get}
use Rattle.std.specs.Float.{fin, binary64}
use Rattle.std.specs.Float.Ieee.{up, down, fits, rem, mul, div, of_int}
use Rattle.std.specs.Float.Ieee.Exact.{HasValue}
use Rattle.mos.specs.declared.Mos.{Mos}
use Rattle.mos.specs.Patterns as whole
use Rattle.mos.specs.Walks as whole-walk
use Rattle.mos_fractional.specs.declared.FractionalMos.{FractionalMos}
use Rattle.mos_fractional.specs.Fractional.{primaries, secondaries, count_of, one, child_of}
use Rattle.mos_fractional.specs.Walk.{onward, children, children_from}
use Rattle.mos_fractional.specs.WholeParts.{Parts, Same}

-- Theorem: the walk is the genesis, its child, and so on until there is none, so the bound in the definition of `children` is never met;
-- it ends for every generator, after 65,535 patterns at most.
pub record WalkIsWhole : Type 0 where
  pub follows : (m : FractionalMos) → 0 < primaries m → 0 < secondaries m → children m ≡ m ∷ onward (child_of m) children
  pub counts : (g : Float) (k : ℕ) (m : FractionalMos) → slice_get (children_from g) k ≡ Some m → (0 < primaries m) × (0 < secondaries m)
  pub ends : (g : Float) → length (children_from g) ≤ 65535

-- Theorem: counts only grow, from any record to its child; with each child of a walk their sum does; and "two counts up to 65,535" they
-- stay.
pub record FractionalCountsGrow : Type 0 where
  pub never_fall : (m c : FractionalMos) → child_of m ≡ Some c → (primaries m ≤ primaries c) × (secondaries m ≤ secondaries c)
  pub grow : (m c : FractionalMos) → 0 < primaries m → 0 < secondaries m → child_of m ≡ Some c → count_of m < count_of c
  pub fit : (g : Float) (k : ℕ) (m : FractionalMos) → slice_get (children_from g) k ≡ Some m → (primaries m ≤ 65535) × (secondaries m ≤ 65535)

-- 65,536 as a double.
abbrev pub scale : Float
scale = fin false 1 (pos 16)

-- Theorem: "Where the generator is a whole number k of 65,536ths, k from 0 to 65,535", the walk goes with that of period 65,536 and
-- generator k by document 01's rules, pattern by pattern, and is as long. So no subtraction loses anything there, and no count is cut off.
pub record WholePartsAreExact : Type 0 where
  pub same_length : (g : Float) (k : ℕ) → Parts g k → k < 65536
      → length (children_from g) ≡ length (whole-walk.children (whole.genesis 65536 k))
  pub same_patterns : (g : Float) (k : ℕ) → Parts g k → k < 65536 → (j : ℕ) (x : FractionalMos) (m : Mos)
      → slice_get (children_from g) j ≡ Some x → slice_get (whole-walk.children (whole.genesis 65536 k)) j ≡ Some m → Same x m
  -- each k has such a generator: k as a double, divided by 65,536
  pub generator : (k : ℕ) → k < 65536 → Parts (div binary64 (of_int binary64 (pos k)) scale) k
  -- and a step above 0 that is k 65,536ths, multiplied by 65,536 in double precision, is k as a double
  pub product : (x : Float) (k : ℕ) → Parts x k → 0 < k → mul binary64 x scale ≡ of_int binary64 (pos k)

-- Theorem: the remainder by 1 of a double rounds nothing. It is what is left of the dividend's size after whole numbers, with the
-- dividend's sign: of m × up e / down e, (m × up e mod down e) / down e.
abbrev pub RemainderIsExact : Type 0
RemainderIsExact =
    (s : Bool) (m : ℕ) (e : ℤ) → T (fits binary64 (fin s m e)) → HasValue (rem binary64 (fin s m e) one) s (m * up e % down e) (down e)
