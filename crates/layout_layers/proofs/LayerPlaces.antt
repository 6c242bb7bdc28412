-- The layer at a place of the chain, by the five numbers of the layers' sizes: in the front part the place is divided by the layer's size,
-- and the back part is the front part in a mirror.
use Prim.Native.Nat.{ℕ, ◌+◌, ◌*◌, ◌-◌, ◌/◌, ◌≤◌, ◌<◌}
use mathlib.Core.Path.{◌≡◌, sym, subst, ap, ap₂, ◌∙◌}
use mathlib.Core.List.{List, [], ◌∷◌, ◌++◌}
use native.Mathlib.Nat.{add-zero, zero-add, add-sub_of_le, add-mul, one-mul, mul_comm, mul-le-mul_left, mul-one, mod-lt, div-add-mod', div-eq_of_lt, div-eq_of_lt-le, div-le_self, div-lt_iff_lt-mul}
use native.Mathlib.Omega.{arith}
use native.Mathlib.Decide.{dec_lt}
use lib.ListN.{length, get_or, replicate, length-append, length-replicate}
use Rattle.mos_layers.specs.Layers.{drop_empty, numbered}
use Rattle.mos_layers.specs.Theorems.{sum}
use Rattle.mos_layers.proofs.Sizes.{sum_append, sum_replicate, sum_drop, drop_append, drop_all, few}
use Rattle.layout_layers.specs.declared.keys.Sizes.{Sizes}
use Rattle.layout_layers.specs.Parts.{sharp_places, enharmonic_in, sizes_in, Countable, layer_at}
use Rattle.layout_layers.proofs.RunPlaces.{numbered_front, numbered_behind, numbered_run}

-- ---- in a mirror

-- so many places before the end of layers of one size are so many layers before the end
pub mirrored : (size times place : ℕ) → 0 < size → place < times * size
    → ((times * size - 1 - place) / size ≡ times - 1 - place / size) × (place / size < times)
mirrored size times place some h =
    let within : place / size < times = (div-lt_iff_lt-mul some).1 h in
    let d = place / size in
    let w = times - 1 - d in
    let split : times * size ≡ (d + (w + 1)) * size = ap (λ (k : ℕ). k * size) (let q : times ≡ d + (w + 1) = omega arith in q) in
    let whole : times * size ≡ d * size + (w * size + size)
    = split ∙ add-mul d (w + 1) size ∙ ap (λ (k : ℕ). d * size + k) (add-mul w 1 size ∙ ap (λ (k : ℕ). w * size + k) (one-mul size)) in
    let rest = mod-lt place some in
    let parts = div-add-mod' place size in (
      div-eq_of_lt-le {k = w} size (omega arith) (omega (arith, add-mul w 1 size, one-mul size)),
      within,
    )

-- so many places before the end of all are so many before the end of the sharp ones, with N natural ones before them
mirror_place : (sharp N h left places : ℕ) → N ≤ sharp → places ≡ sharp + h + (sharp - N) → left < sharp - N
    → places - 1 - (sharp + h + left) + N ≡ sharp - 1 - left
mirror_place sharp N h left places a b l = omega arith

left_within : (flat more places place : ℕ) → places ≡ flat + more → flat ≤ place → place < places → place - flat < more
left_within flat more places place a b l = omega arith

-- ---- the parts of the list

module _ (s : Sizes) where
  abbrev N : ℕ
  N = s.letters

  abbrev c : ℕ
  c = s.rest

  abbrev fulls : List ℕ
  fulls = replicate s.full N

  abbrev partials : List ℕ
  partials = replicate s.partial c

  abbrev front : List ℕ
  front = fulls ++ partials

  abbrev back : List ℕ
  back = partials ++ replicate (s.full - 1) N

  -- the place behind the full layers, and the one behind all sharp ones
  abbrev whole : ℕ
  whole = N * s.full

  abbrev sharp : ℕ
  sharp = sharp_places s

  sum_fulls : sum fulls ≡ whole
  sum_fulls = sum_replicate s.full N ∙ mul_comm s.full N

  sum_partials : sum partials ≡ c * s.partial
  sum_partials = sum_replicate s.partial c ∙ mul_comm s.partial c

  sum_front : sum front ≡ sharp
  sum_front = sum_append fulls partials ∙ ap₂ (λ (x y : ℕ). x + y) sum_fulls sum_partials

  sum_back : sum back ≡ c * s.partial + (s.full - 1) * N
  sum_back =
      sum_append partials (replicate (s.full - 1) N) ∙ ap₂ (λ (x y : ℕ). x + y) sum_partials (sum_replicate (s.full - 1) N)

  length_front : length front ≡ s.full + s.partial
  length_front =
      length-append fulls partials
      ∙ ap₂ (λ (x y : ℕ). x + y) (length-replicate s.full N) (length-replicate s.partial c)

  length_back : length back ≡ s.partial + (s.full - 1)
  length_back =
      length-append partials (replicate (s.full - 1) N)
      ∙ ap₂ (λ (x y : ℕ). x + y) (length-replicate s.partial c) (length-replicate (s.full - 1) N)

  -- the flat places are the sharp ones without the natural layer
  flat_places : 0 < s.full → c * s.partial + (s.full - 1) * N ≡ sharp - N
  flat_places some =
      let last : whole ≡ (s.full - 1) * N + N
      = mul_comm N s.full ∙ ap (λ (k : ℕ). k * N) (let q : s.full ≡ s.full - 1 + 1 = omega arith in q) ∙ add-mul (s.full - 1) 1 N ∙ ap (λ (k : ℕ). (s.full - 1) * N + k) (one-mul N) in
      omega (arith, last)

  -- with any layer in the middle
  pub sum_around : 0 < s.full → (middle : ℕ) → sum (front ++ (middle ∷ back)) ≡ sharp + (middle + (sharp - N))
  sum_around some middle =
      sum_append front (middle ∷ back) ∙ omega (arith, sum_front, sum_back, flat_places some)

  module _ (ok : Countable s) where
    abbrev h : ℕ
    h = enharmonic_in s

    -- the enharmonic layer, if there is one
    abbrev middle : List ℕ
    middle = drop_empty (h ∷ [])

    pub sum_sizes : sum (sizes_in s) ≡ s.places
    sum_sizes = sum_around ok.some_full h ∙ omega (arith, ok.within)

    -- the place behind the enharmonic layer
    abbrev flat : ℕ
    flat = sharp + h

    all_places : s.places ≡ flat + (sharp - N)
    all_places = omega (arith, ok.within)

    natural_first : N ≤ whole
    natural_first = omega (arith, mul-le-mul_left N ok.some_full, mul-one N)

    sum_middle : sum middle ≡ h
    sum_middle = sum_drop (h ∷ []) ∙ add-zero h

    drop_fulls : (n : ℕ) → drop_empty (replicate n N) ≡ replicate n N
    drop_fulls n = drop_all n N (λ e. omega (arith, ok.some_letters))

    drop_partials : drop_empty partials ≡ partials
    drop_partials = drop_all s.partial c (λ e. omega (arith, ok.some_rest))

    -- only the enharmonic layer may drop out
    dropped : drop_empty (sizes_in s) ≡ front ++ (middle ++ back)
    dropped =
        drop_append front (h ∷ back)
        ∙ ap₂ (λ (x y : List ℕ). x ++ y)
        (drop_append fulls partials ∙ ap₂ (λ (x y : List ℕ). x ++ y) (drop_fulls s.full) drop_partials)
        (drop_append (h ∷ []) back
        ∙ ap (λ (x : List ℕ). middle ++ x)
        (drop_append partials (replicate (s.full - 1) N) ∙ ap₂ (λ (x y : List ℕ). x ++ y) drop_partials (drop_fulls (s.full - 1))))

    -- ---- how many layers

    count_is : length (drop_empty (sizes_in s)) ≡ s.full + s.partial + (length middle + (s.partial + (s.full - 1)))
    count_is =
        ap length dropped
        ∙ length-append front (middle ++ back)
        ∙ ap₂ (λ (x y : ℕ). x + y) length_front
        (length-append middle back ∙ ap (λ (k : ℕ). length middle + k) length_back)

    pub count_without : (found : ℕ) → found ≡ sharp → s.places - found ≡ found - N → s.full + s.partial + (s.full + s.partial - 1) ≡ length (drop_empty (sizes_in s))
    count_without found is e =
        let none : length middle ≡ 0 = ap (λ (k : ℕ). length (drop_empty (k ∷ []))) (let q : h ≡ 0 = omega (arith, is) in q) in
        omega (arith, count_is, none, ok.some_full)

    pub count_with : (found : ℕ) → found ≡ sharp → (s.places - found ≡ found - N → ⊥) → s.full + s.partial + (s.full + s.partial) ≡ length (drop_empty (sizes_in s))
    count_with found is some =
        let one : length middle ≡ 1 = ap length (drop_all 1 h (λ e. some (omega (arith, is, ok.within)))) in
        omega (arith, count_is, one, ok.some_full)

    pub count_fits : (s.full + s.partial ≤ length (drop_empty (sizes_in s))) × (length (drop_empty (sizes_in s)) ≤ 65535)
    count_fits = (omega (arith, count_is), omega (arith, few (sizes_in s), sum_sizes, ok.places_fit))

    -- ---- what the code computes with

    pub sharp_fits : (sharp ≤ s.places) × (N ≤ sharp)
    sharp_fits = (omega (arith, ok.within), omega (arith, natural_first))

    pub layer_small : (place : ℕ) → whole ≤ place → s.full + (place - whole) / c ≤ place
    layer_small place b =
        omega (
          arith,
          div-le_self (place - whole) c,
          mul-le-mul_left s.full ok.some_letters,
          mul-one s.full,
          mul_comm s.full N,
        )

    -- ---- natural and sharp

    sharp_front : (place : ℕ) → place < sharp → layer_at s place ≡ get_or (numbered 0 front) place 0
    unfolding layer_at
    sharp_front place b =
        ap (λ (x : List ℕ). get_or (numbered 0 x) place 0) dropped ∙ numbered_front 0 front (middle ++ back) place (omega (arith, sum_front))

    pub layer_full : (place : ℕ) → place < whole → place / N ≡ layer_at s place
    layer_full place b =
        sym
        (sharp_front place (omega arith)
        ∙ numbered_front 0 fulls partials place (omega (arith, sum_fulls))
        ∙ numbered_run 0 s.full N place ok.some_letters (omega (arith, mul_comm N s.full))
        ∙ zero-add (place / N))

    pub layer_partial : (place : ℕ) → whole ≤ place → place < sharp → s.full + (place - whole) / c ≡ layer_at s place
    layer_partial place a b =
        let left = place - whole in
        sym
        (sharp_front place b
        ∙ ap (λ (k : ℕ). get_or (numbered 0 front) k 0) (let q : place ≡ sum fulls + left = omega (arith, sum_fulls) in q)
        ∙ numbered_behind 0 fulls partials left
        ∙ ap (λ (k : ℕ). get_or (numbered k partials) left 0) (zero-add (length fulls) ∙ length-replicate s.full N)
        ∙ numbered_run s.full s.partial c left ok.some_rest (omega (arith, mul_comm c s.partial)))

    -- ---- enharmonic

    behind_front : (left : ℕ) → layer_at s (sharp + left) ≡ get_or (numbered (s.full + s.partial) (middle ++ back)) left 0
    unfolding layer_at
    behind_front left =
        ap (λ (x : List ℕ). get_or (numbered 0 x) (sharp + left) 0) dropped
        ∙ ap (λ (k : ℕ). get_or (numbered 0 (front ++ (middle ++ back))) (k + left) 0) (sym sum_front)
        ∙ numbered_behind 0 front (middle ++ back) left
        ∙ ap (λ (k : ℕ). get_or (numbered k (middle ++ back)) left 0) (zero-add (length front) ∙ length_front)

    pub layer_enharmonic : (place : ℕ) → place < s.places → sharp - N ≤ s.places - 1 - place → sharp ≤ place → s.full + s.partial ≡ layer_at s place
    layer_enharmonic place b before behind =
        let left = place - sharp in
        let inside : left < h = omega (arith, all_places) in
        let one : middle ≡ h ∷ [] = drop_all 1 h (λ e. omega arith) in
        sym
        (ap (layer_at s) (let q : place ≡ sharp + left = omega arith in q)
        ∙ behind_front left
        ∙ numbered_front (s.full + s.partial) middle back left (omega (arith, sum_middle))
        ∙ ap (λ (x : List ℕ). get_or (numbered (s.full + s.partial) x) left 0) one
        ∙ numbered_run (s.full + s.partial) 1 h left (omega arith) (omega (arith, one-mul h))
        ∙ ap (λ (k : ℕ). s.full + s.partial + k) (div-eq_of_lt inside)
        ∙ add-zero (s.full + s.partial))

    -- ---- flat

    -- the number of the first flat layer
    abbrev first : ℕ
    first = s.full + s.partial + length middle

    behind_middle : (left : ℕ) → layer_at s (flat + left) ≡ get_or (numbered first back) left 0
    behind_middle left =
        ap (layer_at s) (let q : flat + left ≡ sharp + (sum middle + left) = omega (arith, sum_middle) in q)
        ∙ behind_front (sum middle + left)
        ∙ numbered_behind (s.full + s.partial) middle back left

    -- a flat place and the sharp one that it mirrors
    facing : (left : ℕ) → left < sharp - N → Dec (left < c * s.partial)
        → get_or (numbered first back) left 0 + layer_at s (sharp - 1 - left) ≡ length (drop_empty (sizes_in s))
    facing left b (yes l) =
        let at : get_or (numbered first back) left 0 ≡ first + left / c
        = numbered_front first partials (replicate (s.full - 1) N) left (omega (arith, sum_partials))
        ∙ numbered_run first s.partial c left ok.some_rest (omega (arith, mul_comm c s.partial)) in
        let mirror = mirrored c s.partial left ok.some_rest (omega (arith, l, mul_comm c s.partial)) in
        let opposite : layer_at s (sharp - 1 - left) ≡ s.full + (s.partial - 1 - left / c)
        = sym (layer_partial (sharp - 1 - left) (omega (arith, l)) (omega (arith, l)))
        ∙ ap (λ (k : ℕ). s.full + k / c) (let q : sharp - 1 - left - whole ≡ s.partial * c - 1 - left = omega (arith, mul_comm c s.partial) in q)
        ∙ ap (λ (k : ℕ). s.full + k) mirror.0 in
        omega (arith, at, opposite, mirror.1, count_is, ok.some_full)
    facing left b (no l) =
        let k = left - c * s.partial in
        let inside : k < (s.full - 1) * N = omega (arith, l, b, flat_places ok.some_full) in
        let at : get_or (numbered first back) left 0 ≡ first + s.partial + k / N
        = ap (λ (i : ℕ). get_or (numbered first back) i 0) (let q : left ≡ sum partials + k = omega (arith, sum_partials, l) in q)
        ∙ numbered_behind first partials (replicate (s.full - 1) N) k
        ∙ ap (λ (i : ℕ). get_or (numbered (first + i) (replicate (s.full - 1) N)) k 0) (length-replicate s.partial c)
        ∙ numbered_run (first + s.partial) (s.full - 1) N k ok.some_letters inside in
        let mirror = mirrored N s.full k ok.some_letters (omega (arith, inside, flat_places ok.some_full, natural_first, mul_comm N s.full)) in
        let opposite : layer_at s (sharp - 1 - left) ≡ s.full - 1 - k / N
        = sym (layer_full (sharp - 1 - left) (omega (arith, l, b, natural_first, ok.some_letters)))
        ∙ ap (λ (i : ℕ). i / N) (let q : sharp - 1 - left ≡ s.full * N - 1 - k = omega (arith, l, mul_comm N s.full) in q)
        ∙ mirror.0 in
        omega (arith, at, opposite, mirror.1, count_is, ok.some_full)

    module _ (place : ℕ) (inside : place < s.places) (found : ℕ) (is : found ≡ sharp) (few_behind : s.places - 1 - place < found - N) where
      abbrev left : ℕ
      left = place - flat

      pub faced_sharp : s.places - 1 - place + N < sharp
      faced_sharp = omega (arith, is)

      few_left : s.places - 1 - place < sharp - N
      few_left = subst (λ (i : ℕ). s.places - 1 - place < i - N) is few_behind

      from_flat : flat ≤ place
      from_flat = omega (arith, all_places, few_left)

      both : layer_at s place + layer_at s (s.places - 1 - place + N) ≡ length (drop_empty (sizes_in s))
      both =
          let at : place ≡ flat + left = sym (add-sub_of_le from_flat) in
          let within = left_within flat (sharp - N) s.places place all_places from_flat inside in
          ap₂ (λ (x y : ℕ). x + layer_at s y) (ap (layer_at s) at ∙ behind_middle left)
          (ap (λ (i : ℕ). s.places - 1 - i + N) at ∙ mirror_place sharp N h left s.places sharp_fits.1 all_places within)
          ∙ facing left within (dec_lt left (c * s.partial))

      pub layer_flat : length (drop_empty (sizes_in s)) - layer_at s (s.places - 1 - place + N) ≡ layer_at s place
      layer_flat = omega (arith, both)

      pub flat_below : layer_at s (s.places - 1 - place + N) ≤ length (drop_empty (sizes_in s))
      flat_below = omega (arith, both)
