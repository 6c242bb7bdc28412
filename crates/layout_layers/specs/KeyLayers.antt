-- The layer of each key (document 01, "Step patterns", the last paragraph): P is the period, G the generator, N the number of letters,
-- `start` the place of key 0's letter and m the letters' pattern; n is `cycles P G`, R is `reduced P G`, s the secondary count.
use Rattle.std.specs.Prelude.{ℕ, ◌+◌, ◌*◌, ◌-◌, ◌/◌, ◌%◌, Bool, List, [], ◌∷◌, length, get_or, eqb, ltb, ℤ}
use Rattle.answer.specs.Choice.{pick}
use Rattle.math.specs.Division.{remainder}
use Rattle.text.specs.Writing.{joined}
use Rattle.mos.specs.declared.Mos.{Mos}
use Rattle.mos.specs.Patterns.{primary, secondary, secondaries}
use Rattle.pergen.specs.Pergen.{cycles, reduced, degree, cycle}
use Rattle.mos_layers.specs.Layers.{layer_sizes, layers_of}
use Rattle.layout.specs.Layouts.{Layout}
use Rattle.layout_layers.specs.declared.Layer.{Layer}
use Rattle.layout_layers.specs.declared.Layer.TheVariants.{Natural, Sharp, Enharmonic, Flat}

-- "when sharpness is 0": both steps are equal.
abbrev pub equalized : Mos → Bool
equalized m = eqb (primary m) (secondary m)

-- "`IsomorphicLayout::get_layers` gives P entries, or 2 × P when sharpness is 0."
abbrev pub entry_count : ℕ → Mos → ℕ
entry_count P m = pick (equalized m) (2 * P) P

-- "that list's element at (start + degree) mod R"; the list is `Mos::get_layers`.
unfoldable pub listed_layer : (P G start : ℕ) → Mos → ℕ → ℕ
unfolding layers_of degree reduced
listed_layer P G start m i = get_or (layers_of m) ((start + degree P G i) % reduced P G) 0

-- "1 where (h × s) div N and (.. + h) × s div N differ in parity, else 0": the layer of scale degree q.
unfoldable pub alternating : (N s h q : ℕ) → ℕ
alternating N s h q = pick (eqb (h * s / N % 2) ((q + h) * s / N % 2)) 0 1

-- The same of entry i, "with h = G × start div n" and "(i div n + h)".
unfoldable pub alternate_layer : (P G N start s i : ℕ) → ℕ
unfolding alternating cycles
alternate_layer P G N start s i = alternating N s (G * start / cycles P G) (i / cycles P G)

-- The layer of entry i among those of its own cycle: document 01's a.
unfoldable pub layer_of : (P G N start : ℕ) → Mos → ℕ → ℕ
unfolding alternate_layer listed_layer
layer_of P G N start m i = pick (equalized m) (alternate_layer P G N start (secondaries m) i) (listed_layer P G start m i)

-- "Entry i has the number a × n + i mod n."
unfoldable pub layer_number : (P G N start : ℕ) → Mos → ℕ → ℕ
unfolding layer_of cycles cycle
layer_number P G N start m i = layer_of P G N start m i * cycles P G + cycle P G i

-- All entries, in the order of the keys.
unfoldable pub key_layers : (P G N start : ℕ) → Mos → List ℕ
unfolding joined layer_number
key_layers P G N start m = joined (λ i. layer_number P G N start m i ∷ []) (entry_count P m)

-- "Of T numbers (layers × n; 2 × n at sharpness 0)"
unfoldable pub layer_count : (P G : ℕ) → Mos → ℕ
unfolding layer_sizes cycles
layer_count P G m = pick (equalized m) 2 (length (layer_sizes m)) * cycles P G

-- "0 is natural, j below T / 2 is sharp j − 1, j = T / 2 is enharmonic j − 1, any other is flat T − j − 1": the half is exact.
-- A number from T on, which no entry has, counts as flat 0, but 0 is natural whatever T is.
unfoldable pub kind_of : (T j : ℕ) → Layer
kind_of T j =
    pick (eqb j 0) Natural
    (pick (ltb (2 * j) T) (Sharp (j - 1)) (pick (eqb (2 * j) T) (Enharmonic (j - 1)) (Flat (T - j - 1))))

-- ---- in a layout "P is the octave, G the chain's generator, N its number of letters and the origin the start"

abbrev pub layer_in : Layout → ℕ → ℕ
layer_in l i = layer_of l.octave l.generator l.letters l.start l.pattern i

abbrev pub number_in : Layout → ℕ → ℕ
number_in l i = layer_number l.octave l.generator l.letters l.start l.pattern i

-- One key's number, below 0 too: the entries repeat, so it is that of the entry at the remainder, never negative, by their number.
abbrev pub key_number_in : Layout → ℤ → ℕ
key_number_in l key = number_in l (remainder key (entry_count l.octave l.pattern))

abbrev pub layers_in : Layout → List ℕ
layers_in l = key_layers l.octave l.generator l.letters l.start l.pattern

abbrev pub count_in : Layout → ℕ
count_in l = layer_count l.octave l.generator l.pattern
