-- What the parts behind the calls promise: the definitions of KeyLayers, by the numbers that the code carries.
use Rattle.std.specs.Prelude.{ℕ, Bool, ◌+◌, ◌*◌, ◌-◌, ◌/◌, ◌%◌, ◌≤◌, ◌<◌, ◌≡◌, List, [], ◌∷◌, ◌++◌, length, get_or, drop, replicate, Option, None, Some}
use Rattle.answer.specs.Choice.{pick}
use Rattle.text.specs.Writing.{joined}
use Rattle.mos.specs.Patterns.{primaries, secondaries, primary, secondary, cycles_of}
use Rattle.pergen.specs.Pergen.{inverse}
use Rattle.mos_layers.specs.declared.Runs.{Runs}
use Rattle.mos_layers.specs.Layers.{all_sizes, drop_empty, numbered, layer_sizes}
use Rattle.mos_layers.specs.Parts.{run_sizes}
use Rattle.layout.specs.Layouts.{Layout, cycles_in, reduced_in}
use Rattle.layout_layers.specs.declared.keys.Sizes.{Sizes}
use Rattle.layout_layers.specs.declared.chain.Chain.{Chain}
use Rattle.layout_layers.specs.declared.chain.Spot.{Spot}
use Rattle.layout_layers.specs.declared.plan.Plan.{Plan}
use Rattle.layout_layers.specs.Kept.{inverse_of, keys_of, Unbroken, layers_of_runs, IsSound}
use Rattle.layout_layers.specs.KeyLayers.{equalized, alternating}
use Rattle.layout_layers.specs.LampCodes.{code_of}

-- ---- the sizes of layers, by five numbers

-- How many places are natural or sharp.
abbrev pub sharp_places : Sizes → ℕ
sharp_places s = s.letters * s.full + s.rest * s.partial

-- The enharmonic layer has the places that are left: flat are as many as sharp, so all of those but the natural ones.
abbrev pub enharmonic_in : Sizes → ℕ
enharmonic_in s = s.places - sharp_places s - (sharp_places s - s.letters)

-- The sizes of all layers in their order. The enharmonic one is 0 where there is none.
abbrev pub sizes_in : Sizes → List ℕ
sizes_in s =
    (replicate s.full s.letters ++ replicate s.partial s.rest)
    ++ (enharmonic_in s ∷ (replicate s.partial s.rest ++ replicate (s.full - 1) s.letters))

-- Sizes that places are counted by: only the enharmonic layer may be empty, the others leave it what there is, and places fit 16 bits.
pub record Countable (s : Sizes) : Type 0 where
  pub some_full : 0 < s.full
  pub some_letters : 0 < s.letters
  pub some_rest : 0 < s.rest
  pub within : sharp_places s + (sharp_places s - s.letters) ≤ s.places
  pub places_fit : s.places ≤ 65535

-- The sizes of a layout's layers.
pub record SizesOf (l : Layout) (s : Sizes) : Type 0 where
  pub countable : Countable s
  pub sizes_are : drop_empty (sizes_in s) ≡ layer_sizes l.pattern
  pub places_are : s.places ≡ reduced_in l

-- The layer at a place of the chain.
unfoldable pub layer_at : Sizes → ℕ → ℕ
layer_at s place = get_or (numbered 0 (drop_empty (sizes_in s))) place 0

-- The layer of a group of keys, one of each cycle, in an equalized scale.
abbrev pub alternate_in : Layout → ℕ → ℕ
alternate_in l group = alternating l.letters (secondaries l.pattern) (l.generator * l.start / cycles_in l) group

-- ---- the chain

-- The place of scale degree `turn`: "(start + degree) mod R".
unfoldable pub place_of : Chain → ℕ → ℕ
place_of c turn = (c.start + inverse_of c * turn % c.reduced_period) % c.reduced_period

-- A spot of the walk holds the scale degree of its place; behind the last place comes the first again.
pub record SpotAt (c : Chain) (s : Spot) : Type 0 where
  pub turn_below : s.turn < c.reduced_period
  pub leads : place_of c s.turn ≡ s.place % c.reduced_period

-- ---- stores that are not in a row

-- The elements that `Told` tells of hold what `element` says; all others are as before.
pub record Spread (Told : ℕ → Type 0) (element : ℕ → ℕ) (before after : List ℕ) : Type 0 where
  pub kept : length after ≡ length before
  pub stored : (i : ℕ) → Told i → get_or after i 0 ≡ element i
  pub same : (i : ℕ) → (Told i → ⊥) → get_or after i 0 ≡ get_or before i 0

-- The keys of one scale degree, of n cycles.
abbrev pub InTurn : (n turn : ℕ) → ℕ → Type 0
InTurn n turn i = i / n ≡ turn

-- The keys of the scale degrees below `turns`.
abbrev pub InTurns : (n turns : ℕ) → ℕ → Type 0
InTurns n turns i = i / n < turns

-- The keys whose places on the chain are p and more, and below q.
abbrev pub OnChain : Chain → (p q : ℕ) → ℕ → Type 0
OnChain c p q i =
    (i / c.num_cycles < c.reduced_period) × (p ≤ place_of c (i / c.num_cycles)) × (place_of c (i / c.num_cycles) < q)

-- From one spot to another `count` places on, the keys between have their elements.
pub record Walk (c : Chain) (from to : Spot) (count : ℕ) (element : ℕ → ℕ) (before after : List ℕ) : Type 0 where
  pub spread : Spread (OnChain c from.place (from.place + count)) element before after
  pub arrived : SpotAt c to
  pub place_is : to.place ≡ from.place + count

-- Where a walk may go on: `count` more places are on the chain, and all keys in the slice.
pub record Ahead (c : Chain) (s : Spot) (count : ℕ) (out : List ℕ) : Type 0 where
  pub unbroken : Unbroken c
  pub at : SpotAt c s
  pub on_chain : s.place + count ≤ c.reduced_period
  pub held : keys_of c ≤ length out

-- ---- layers on the chain

-- The element at a place of the list of layers that eight runs make.
unfoldable pub run_layer : Runs → ℕ → ℕ
run_layer runs place = get_or (numbered 0 (drop_empty (run_sizes runs))) place 0

-- Key i's number in a run of layers of one size that begins at a place with layer `first`.
abbrev pub run_number : (c : Chain) (place size first : ℕ) → ℕ → ℕ
run_number c place size first i =
    (first + (place_of c (i / c.num_cycles) - place) / size) * c.num_cycles + i % c.num_cycles

-- Key i's number, by the layer at its place.
abbrev pub listed_number : Runs → Chain → ℕ → ℕ
listed_number runs c i = run_layer runs (place_of c (i / c.num_cycles)) * c.num_cycles + i % c.num_cycles

-- How many layers of one cycle a plan has.
abbrev pub layers_of_plan : Plan → ℕ
layers_of_plan p = layers_of_runs p.equalized p.runs

-- How many numbers there are: document 01's T.
abbrev pub total_of : Plan → ℕ
total_of p = layers_of_plan p * p.chain.num_cycles

-- A plan that can be followed, as all can.
abbrev pub Sound : Plan → Type 0
Sound p = IsSound p.chain p.runs p.offset p.letters p.secondaries p.equalized

-- The plan of a layout's layers.
pub record PlanOf (l : Layout) (p : Plan) : Type 0 where
  pub sound : Sound p
  pub cycles_are : p.chain.num_cycles ≡ cycles_in l
  pub period_is : p.chain.reduced_period ≡ reduced_in l
  pub inverse_is : inverse_of p.chain ≡ inverse l.octave l.generator
  pub start_is : p.chain.start ≡ l.start
  pub letters_are : p.letters ≡ l.letters
  pub secondaries_are : p.secondaries ≡ secondaries l.pattern
  pub offset_is : p.offset ≡ l.generator * l.start / cycles_in l
  pub equalized_is : p.equalized ≡ equalized l.pattern
  pub runs_are : run_sizes p.runs
      ≡ all_sizes (primaries l.pattern) (secondaries l.pattern) (primary l.pattern / cycles_of l.pattern) (secondary l.pattern / cycles_of l.pattern)

-- The layer of scale degree `turn`.
unfoldable pub turn_layer : Plan → ℕ → ℕ
unfolding alternating run_layer place_of
turn_layer p turn =
    pick p.equalized (alternating p.letters p.secondaries p.offset turn) (run_layer p.runs (place_of p.chain turn))

-- Key i's number.
abbrev pub plan_number : Plan → ℕ → ℕ
plan_number p i = turn_layer p (i / p.chain.num_cycles) * p.chain.num_cycles + i % p.chain.num_cycles

-- How many scale degrees the entries have, of a chain whose scale is equalized or not, and of a plan.
abbrev pub turns_on : Bool → Chain → ℕ
turns_on equalized chain = pick equalized (2 * chain.reduced_period) chain.reduced_period

abbrev pub turns_of : Plan → ℕ
turns_of p = turns_on p.equalized p.chain

-- The elements of the keys below `count`.
abbrev pub listed : (ℕ → ℕ) → ℕ → List ℕ
listed element count = joined (λ i. element i ∷ []) count

-- A text at the front of a slice whose other elements are as before.
abbrev pub Fronted : List ℕ → List ℕ → List ℕ → Type 0
Fronted text before after = after ≡ text ++ drop (length text) before

-- All entries.
abbrev pub plan_layers : Plan → List ℕ
plan_layers p = listed (plan_number p) (turns_of p * p.chain.num_cycles)

-- What a writer of entries writes for a number: the number itself, or its code, of T.
unfoldable pub shown_as : Option ℕ → (j : ℕ) → ℕ
unfolding code_of
shown_as None j = j
shown_as (Some T) j = code_of T j

-- The numbers that it writes something for are below this.
abbrev pub limit : Option ℕ → ℕ
limit None = 65535
limit (Some T) = T

-- So many numbers fit 16 bits, and are what it writes something for.
abbrev pub Held : Option ℕ → ℕ → Type 0
Held t n = (n ≤ limit t) × (n ≤ 65535)

-- All entries as they are written.
abbrev pub plan_entries : Plan → Option ℕ → List ℕ
plan_entries p t = listed (λ i. shown_as t (plan_number p i)) (turns_of p * p.chain.num_cycles)
