-- The code by which a lamp shows a layer. `layout_lamps` says which lamps a layout has.
use Rattle.std.specs.Prelude.{ℕ, ◌+◌, ◌*◌}
use Rattle.layout_layers.specs.declared.Layer.{Layer}
use Rattle.layout_layers.specs.declared.Layer.TheVariants.{Natural, Sharp, Enharmonic, Flat}
use Rattle.layout_layers.specs.KeyLayers.{kind_of}

-- "natural 1, sharp k 2 + 2 × k, flat k 3 + 2 × k, enharmonic 65,535" (document 02, W-207)
unfoldable pub lamp_code : Layer → ℕ
lamp_code Natural = 1
lamp_code (Sharp k) = 2 + 2 * k
lamp_code (Enharmonic k) = 65535
lamp_code (Flat k) = 3 + 2 * k

-- The code of a layer's number, of T.
unfoldable pub code_of : (T j : ℕ) → ℕ
unfolding lamp_code kind_of
code_of T j = lamp_code (kind_of T j)
