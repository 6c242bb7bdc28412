-- Layer sizes and layers (document 01, "Step patterns", the paragraph on layer sizes).
use Rattle.std.specs.Prelude.{ℕ, zero, suc, ◌+◌, ◌-◌, ◌/◌, ◌%◌, min, List, [], ◌∷◌, ◌++◌, reverse, replicate, eqb}
use Rattle.answer.specs.Choice.{pick}
use Rattle.mos.specs.declared.Mos.{Mos}
use Rattle.mos.specs.Patterns.{primaries, secondaries, primary, secondary, cycles_of}

-- Of the counts a and b, those whose number, x or y, is above 0.
unfoldable pub holding : (a b x y : ℕ) → ℕ
holding a b x y = pick (eqb x 0) 0 a + pick (eqb y 0) 0 b

-- "each count's e div 2 sharp layers, full ones with both counts first, then the ones with the count left over":
-- h layers hold the count a, and k hold the count b.
unfoldable pub sharps : (a b h k : ℕ) → List ℕ
sharps a b h k = replicate (min h k) (a + b) ++ (replicate (h - k) a ++ replicate (k - h) b)

-- The layers of counts a and b whose steps, divided by their greatest common divisor, are x and y.
-- "e is the quotient less 1, or 0 for step 0". In order: "the natural layer, holding the counts with a step above 0"; the sharp layers;
-- "one enharmonic layer of the counts with odd e"; "the sharp layers again in reverse".
unfoldable pub all_sizes : (a b x y : ℕ) → List ℕ
unfolding holding sharps
all_sizes a b x y =
    holding a b x y
    ∷ (sharps a b ((x - 1) / 2) ((y - 1) / 2)
    ++ (holding a b ((x - 1) % 2) ((y - 1) % 2) ∷ reverse (sharps a b ((x - 1) / 2) ((y - 1) / 2))))

-- "Empty layers drop out."
abbrev pub drop_empty : List ℕ → List ℕ
drop_empty [] = []
drop_empty (zero ∷ sizes) = drop_empty sizes
drop_empty (suc size ∷ sizes) = suc size ∷ drop_empty sizes

-- "Divide each step by the steps' greatest common divisor (1 where both are 0)."
unfoldable pub layer_sizes : Mos → List ℕ
unfolding all_sizes cycles_of
layer_sizes m = drop_empty (all_sizes (primaries m) (secondaries m) (primary m / cycles_of m) (secondary m / cycles_of m))

-- Each layer's number, from j on, as often as its size.
abbrev pub numbered : ℕ → List ℕ → List ℕ
numbered j [] = []
numbered j (size ∷ sizes) = replicate size j ++ numbered (suc j) sizes

-- "`Mos::get_layers` lists each layer's number, from 0, as often as its size."
unfoldable pub layers_of : Mos → List ℕ
unfolding layer_sizes
layers_of m = numbered 0 (layer_sizes m)
