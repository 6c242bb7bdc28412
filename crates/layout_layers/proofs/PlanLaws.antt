-- A layout's plan: that it can be followed, and that what follows from it is the layout's.
use Rattle.std.specs.Prelude.{Option}
use Prim.Native.Nat.{ℕ, ◌+◌, ◌*◌, ◌-◌, ◌/◌, ◌%◌, ◌≤◌, ◌<◌}
use mathlib.Core.Path.{◌≡◌, refl, sym, ap, ap₂, subst, ◌∙◌}
use mathlib.Core.Bool.{Bool, true, false}
use mathlib.Core.List.{List, [], ◌∷◌}
use native.Mathlib.Nat.{add_comm, suc-mul, mul-le-mul_right, mul-le-mul, mul_assoc, mod-eq_of_lt, div-one}
use native.Mathlib.Omega.{arith}
use lib.ListN.{length, get_or}
use lib.Dec.{eqb}
use borrow.Author.Tests.{eq-eqb, ne_eqb, lt-ltb, le-ltb}
use Rattle.answer.specs.Choice.{pick}
use Rattle.text.specs.Writing.{joined}
use Rattle.text.proofs.Joined.{joined_same}
use Rattle.mos.specs.Patterns.{primaries, secondaries, primary, secondary, is_pattern, cycles_of}
use Rattle.mos.proofs.Sizes.{fits_pattern}
use Rattle.math.specs.Gcd.{gcd_or_one}
use Rattle.pergen.specs.Pergen.{reduced, degree, cycle}
use Rattle.pergen.proofs.Inverse.{period_is, cycles_positive}
use Rattle.pergen.proofs.CarriedWalk.{turn_stays, turn_wraps}
use Rattle.mos_layers.specs.declared.Runs.{Runs}
use Rattle.mos_layers.specs.Layers.{drop_empty, numbered, layer_sizes, layers_of}
use Rattle.mos_layers.specs.Parts.{run_sizes}
use Rattle.mos_layers.specs.Theorems.{sum}
use Rattle.mos_layers.proofs.Sizes.{few, sum_drop}
use Rattle.mos_layers.proofs.Plans.{all_sum}
use Rattle.mos_layers.proofs.Theorems as Sums
use Rattle.mos_layers.proofs.Theorems.{code_cycles}
use Rattle.mos_layers.proofs.Answers.{RunsOf}
use Rattle.layout.specs.Layouts.{Layout, cycles_in, reduced_in}
use Rattle.layout.specs.Parts.{Laid}
use Rattle.layout.proofs.Finding.{Parts, laid}
use Rattle.layout.proofs.PatternShape.{PatternShape, pattern_shape}
use Rattle.layout_layers.specs.declared.chain.Chain.{Chain}
use Rattle.layout_layers.specs.declared.plan.Plan.{Plan}
use Rattle.layout_layers.specs.declared.Layer.TheVariants.{Natural, Sharp, Enharmonic, Flat}
use Rattle.layout_layers.specs.KeyLayers.{equalized, entry_count, listed_layer, alternating, alternate_layer, layer_of, layer_number, key_layers, layer_count, kind_of, number_in, layers_in, count_in}
use Rattle.layout_layers.specs.Kept.{keys_of, layers_of_runs, IsSound}
use Rattle.layout_layers.specs.Parts.{place_of, Spread, InTurns, run_layer, listed_number, layers_of_plan, total_of, Sound, PlanOf, turn_layer, plan_number, turns_of, listed, Fronted, plan_layers, shown_as, plan_entries}
use Rattle.layout_layers.proofs.RunPlaces.{numbered_below}
use Rattle.layout_layers.proofs.SpreadLaws.{length_listed, spread_front}
use Rattle.layout_layers.proofs.ChainLaws.{place_below}
use Rattle.layout_layers.proofs.Advance.{chain_inverse, chain_unbroken}

-- ---- what the code tests

module _ (T j : ℕ) where
  pub kind_natural : j ≡ 0 → Natural ≡ kind_of T j
  unfolding kind_of
  kind_natural e = simp (eq-eqb j 0 e)

  module _ (some : j ≡ 0 → ⊥) where
    pub kind_sharp : 2 * j < T → Sharp (j - 1) ≡ kind_of T j
    unfolding kind_of
    kind_sharp h = simp (ne_eqb j 0 some, lt-ltb (2 * j) T h)

    pub kind_enharmonic : 2 * j ≡ T → Enharmonic (j - 1) ≡ kind_of T j
    unfolding kind_of
    kind_enharmonic e = simp (ne_eqb j 0 some, le-ltb (2 * j) T (omega arith), eq-eqb (2 * j) T e)

    pub kind_flat : T < 2 * j → {k : ℕ} → k ≡ T - j - 1 → Flat k ≡ kind_of T j
    unfolding kind_of
    kind_flat h e = simp (ne_eqb j 0 some, le-ltb (2 * j) T (omega arith), ne_eqb (2 * j) T (λ q. omega arith)) (ap Flat e)

module _ (N s h q : ℕ) where
  pub alternating_same : h * s / N % 2 ≡ (q + h) * s / N % 2 → 0 ≡ alternating N s h q
  unfolding alternating
  alternating_same e = simp (eq-eqb _ _ e)

  pub alternating_other : (h * s / N % 2 ≡ (q + h) * s / N % 2 → ⊥) → 1 ≡ alternating N s h q
  unfolding alternating
  alternating_other e = simp (ne_eqb _ _ e)

pub place_stays : (start d R : ℕ) → start < R → d < R - start → d + start ≡ (start + d) % R
place_stays start d R h l = turn_stays d start R h l ∙ ap (λ (x : ℕ). x % R) (add_comm d start)

pub place_wraps : (start d R : ℕ) → start < R → d < R → R - start ≤ d → d - (R - start) ≡ (start + d) % R
place_wraps start d R h b l = turn_wraps d start R h b l ∙ ap (λ (x : ℕ). x % R) (add_comm d start)

pub steps_fit : (h s q : ℕ) → s ≤ 9 → h ≤ 524280 → q ≤ 131070 → (q + h) * s ≤ 5898150
steps_fit h s q a b c = mul-le-mul {n₂ = 655350} {m₂ = 9} (omega arith) a

pub offset_fits : (g start : ℕ) → g ≤ 65535 → start ≤ 8 → g * start ≤ 524280
offset_fits g start a b = mul-le-mul {n₂ = 65535} {m₂ = 8} a b

pub step_small : (G P : ℕ) → G < P → G ≡ G % P
step_small G P h = sym (mod-eq_of_lt h)

pub offset_single : (x cycles : ℕ) → cycles ≡ 1 → x ≡ x / cycles
offset_single x cycles e = sym (ap (λ (n : ℕ). x / n) e ∙ div-one x)

-- ---- a plan that can be followed

module _ (p : Plan) where
  pub layer_alternates : (turn r : ℕ) → p.equalized ≡ true → r ≡ alternating p.letters p.secondaries p.offset turn → r ≡ turn_layer p turn
  unfolding turn_layer
  layer_alternates turn r t e = simp t e

  pub layer_listed : (turn place r : ℕ) → p.equalized ≡ false → place ≡ place_of p.chain turn → r ≡ run_layer p.runs place → r ≡ turn_layer p turn
  unfolding turn_layer
  layer_listed turn place r t q e = simp t (e ∙ ap (run_layer p.runs) q)

  pub number_alternates : (turn layer i : ℕ) → layer ≡ turn_layer p turn → i / p.chain.num_cycles ≡ turn
      → layer * p.chain.num_cycles + i % p.chain.num_cycles ≡ plan_number p i
  number_alternates turn layer i e t =
      ap (λ (k : ℕ). k * p.chain.num_cycles + i % p.chain.num_cycles) (e ∙ ap (turn_layer p) (sym t))

  pub number_listed : p.equalized ≡ false → (i : ℕ) → listed_number p.runs p.chain i ≡ plan_number p i
  number_listed t i =
      ap (λ (k : ℕ). k * p.chain.num_cycles + i % p.chain.num_cycles)
      (layer_listed (i / p.chain.num_cycles) (place_of p.chain (i / p.chain.num_cycles)) _ t refl refl)

  pub count_alternates : p.equalized ≡ true → 2 ≡ layers_of_plan p
  count_alternates t = simp t

  pub count_listed : p.equalized ≡ false → length (drop_empty (run_sizes p.runs)) ≡ layers_of_plan p
  count_listed t = simp t

  pub turns_double : p.equalized ≡ true → 2 * p.chain.reduced_period ≡ turns_of p
  turns_double t = simp t

  pub turns_single : p.equalized ≡ false → p.chain.reduced_period ≡ turns_of p
  turns_single t = simp t

  pub entries_double : (P : ℕ) → p.equalized ≡ true → 2 * P ≡ pick p.equalized (2 * P) P
  entries_double P t = simp t

  pub entries_single : (P : ℕ) → p.equalized ≡ false → P ≡ pick p.equalized (2 * P) P
  entries_single P t = simp t

  pub entries_some : (P count : ℕ) → 0 < P → count ≡ pick p.equalized (2 * P) P → 0 < count
  entries_some P count h e = go p.equalized e
    where
      go : (b : Bool) → count ≡ pick b (2 * P) P → 0 < count
      go true q = omega arith
      go false q = omega arith

pub listed_most : (p : Plan) {T : ℕ} → p.equalized ≡ false → T ≡ total_of p → length (drop_empty (run_sizes p.runs)) * p.chain.num_cycles ≤ T
listed_most p t e = omega (arith, ap (λ (k : ℕ). k * p.chain.num_cycles) (count_listed p t))

pub length_plan : (p : Plan) {turns : ℕ} → turns ≡ turns_of p → turns * p.chain.num_cycles ≡ length (plan_layers p)
length_plan p {turns} e =
    ap (λ (k : ℕ). k * p.chain.num_cycles) e ∙ sym (length_listed (plan_number p) (turns_of p * p.chain.num_cycles))

pub counts_entries : (p : Plan) {count : ℕ} → count ≡ turns_of p * p.chain.num_cycles → count ≡ length (plan_layers p)
counts_entries p e = e ∙ length_plan p refl

pub alternating_below : (N s h q : ℕ) → alternating N s h q < 2
unfolding alternating
alternating_below N s h q = go (eqb (h * s / N % 2) ((q + h) * s / N % 2))
  where
    go : (b : Bool) → pick b 0 1 < 2
    go true = omega arith
    go false = omega arith

pub pick_below : (b : Bool) (u v m n : ℕ) → u < m → v < n → pick b u v < pick b m n
pick_below true u v m n h k = h
pick_below false u v m n h k = k

pub block_fits : (a L n : ℕ) → a < L → a * n + n ≤ L * n
block_fits a L n h = omega (arith, mul-le-mul_right n h, suc-mul a n)

module _ (p : Plan) (sound : Sound p) where
  abbrev R : ℕ
  R = p.chain.reduced_period

  abbrev n : ℕ
  n = p.chain.num_cycles

  pub place_listed : (turn : ℕ) → place_of p.chain turn < sum (run_sizes p.runs)
  place_listed turn = rw sound.runs_fill (place_below p.chain sound.unbroken turn)

  pub layer_below : (turn : ℕ) → turn_layer p turn < layers_of_plan p
  unfolding turn_layer run_layer
  layer_below turn =
      let place = place_of p.chain turn in
      pick_below p.equalized _ _ 2 (length (drop_empty (run_sizes p.runs))) (alternating_below p.letters p.secondaries p.offset turn)
      (subst (λ (k : ℕ). get_or (numbered 0 (drop_empty (run_sizes p.runs))) place 0 < k) (let q : 0 + length (drop_empty (run_sizes p.runs)) ≡ length (drop_empty (run_sizes p.runs)) = omega arith in q)
      (numbered_below 0 (drop_empty (run_sizes p.runs)) place (omega (arith, place_listed turn, sum_drop (run_sizes p.runs)))))

  -- the numbers of one scale degree are below T, which fits 16 bits
  pub turn_below : (turn : ℕ) → turn_layer p turn * n + n ≤ total_of p
  turn_below turn = block_fits (turn_layer p turn) (layers_of_plan p) n (layer_below turn)

  pub turn_within : (turn layer most : ℕ) → layer ≡ turn_layer p turn → total_of p ≤ most → layer * n + n ≤ most
  turn_within turn layer most e h = omega (arith, ap (λ (k : ℕ). k * n) e, turn_below turn, h)

  pub turn_fits : (turn layer : ℕ) → layer ≡ turn_layer p turn → layer * n + n ≤ 65535
  turn_fits turn layer e = turn_within turn layer 65535 e sound.layers_fit

  pub listed_within : (most : ℕ) → p.equalized ≡ false → total_of p ≤ most → length (drop_empty (run_sizes p.runs)) * n ≤ most
  listed_within most t h = omega (arith, listed_most p t refl, h)

  -- entries that are stored in any order are the list
  pub entries_front : (t : Option ℕ) (turns : ℕ) {xs ys : List ℕ} → turns ≡ turns_of p → length (plan_layers p) ≤ length xs
      → Spread (InTurns n turns) (λ i. shown_as t (plan_number p i)) xs ys → Fronted (plan_entries p t) xs ys
  entries_front t turns {xs} {ys} e room s =
      subst (λ (k : ℕ). Fronted (listed (λ i. shown_as t (plan_number p i)) (k * n)) xs ys) e
      (spread_front n turns (λ i. shown_as t (plan_number p i)) sound.unbroken.some_cycles (omega (arith, length_plan p e)) s)

-- ---- the plan of a layout

abbrev chain_with : Layout → (n R a : ℕ) → Chain
chain_with l n R a = record { num_cycles = n; reduced_period = R; advance = a; start = l.start }

pub pick_most : (b : Bool) (u v m : ℕ) → u ≤ m → v ≤ m → pick b u v ≤ m
pick_most true u v m h k = h
pick_most false u v m h k = k

module _ (l : Layout) (ok : Laid l) where
  abbrev P : ℕ
  P = l.octave

  abbrev G : ℕ
  G = l.generator

  pub plan_parts : Parts l
  plan_parts = laid l ok

  pub plan_shape : PatternShape l
  plan_shape = pattern_shape l plan_parts

  -- the divisor of the steps is the number of cycles
  pub divisor_is_cycles : (n : ℕ) → n ≡ gcd_or_one (primary l.pattern) (secondary l.pattern) → n ≡ cycles_in l
  divisor_is_cycles n divisor = code_cycles l.pattern n divisor ∙ plan_shape.cycles_are

  module _ (fits : P ≤ 65535) where
    pub plan_pattern : is_pattern l.pattern ≡ true
    plan_pattern = fits_pattern l.pattern (omega (arith, plan_shape.size))

    module _ (n : ℕ) (number-of-cycles : n ≡ cycles_in l) where
      pub runs_room : (is_pattern l.pattern ≡ true) × (n ≡ cycles_of l.pattern)
      runs_room = (plan_pattern, number-of-cycles ∙ sym plan_shape.cycles_are)

      pub some_divisor : 0 < n
      some_divisor = subst (λ (k : ℕ). 0 < k) (sym number-of-cycles) (cycles_positive P G plan_parts.positive)

      pub offset_room : (0 < n) × (l.start ≤ 8)
      offset_room = (some_divisor, omega (arith, plan_shape.start_below, plan_shape.at_most_nine))

      module _ (R : ℕ) (divided : R ≡ P / n) (step : ℕ) (rest : step ≡ G % P) (a : ℕ) (divided-step : a ≡ step / n) where
        period_of_cycle : R ≡ reduced_in l
        unfolding reduced
        period_of_cycle = divided ∙ ap (λ (k : ℕ). P / k) number-of-cycles

        advance_of_cycle : a ≡ G % P / cycles_in l
        advance_of_cycle = divided-step ∙ ap₂ (λ (x y : ℕ). x / y) rest number-of-cycles

        module _ (runs : Runs) (runs_are : RunsOf l.pattern runs) (h : ℕ) (offset : (h ≡ G * l.start / n) × (h ≤ 524280)) where
          abbrev chain : Chain
          chain = chain_with l n R a

          runs_sum : sum (run_sizes runs) ≡ R
          runs_sum =
              ap sum runs_are
              ∙ all_sum (primaries l.pattern) (secondaries l.pattern) (primary l.pattern / cycles_of l.pattern) (secondary l.pattern / cycles_of l.pattern)
              ∙ sym (Sums.reduced_is l.pattern)
              ∙ plan_shape.reduced_is
              ∙ sym period_of_cycle

          layers_few : layers_of_runs (equalized l.pattern) runs ≤ R
          layers_few =
              pick_most (eqb (primary l.pattern) (secondary l.pattern)) 2 (length (drop_empty (run_sizes runs))) R
              (omega (arith, plan_shape.at_least_five, plan_shape.enough_keys, period_of_cycle))
              (omega (arith, few (run_sizes runs), runs_sum))

          keys_few : R * n ≤ 65535
          keys_few =
              omega (arith, ap₂ (λ (x y : ℕ). x * y) period_of_cycle number-of-cycles, period_is P G plan_parts.positive)

          pub sound_plan : IsSound chain runs h l.letters (secondaries l.pattern) (equalized l.pattern)
          sound_plan =
              record {
                unbroken = chain_unbroken P G plan_parts.positive chain number-of-cycles period_of_cycle advance_of_cycle
                    (omega (arith, plan_shape.start_below, plan_shape.enough_keys));
                runs_fill = runs_sum;
                some_letters = omega (arith, plan_shape.at_least_five);
                few_secondaries = omega (arith, plan_shape.letters, plan_shape.at_most_nine);
                near_offset = offset.1;
                layers_fit = omega (arith, mul-le-mul_right n layers_few, keys_few);
                keys_fit = keys_few;
              }

          pub plan_made : (equal : Bool) → equal ≡ equalized l.pattern
              → (s : IsSound chain runs h l.letters (secondaries l.pattern) equal)
              → PlanOf l
              (record { chain = chain; runs = runs; offset = h; letters = l.letters; secondaries = secondaries l.pattern; equalized = equal; sound = s })
          plan_made equal same s =
              record {
                sound = s;
                cycles_are = number-of-cycles;
                period_is = period_of_cycle;
                inverse_is = chain_inverse P G plan_parts.positive chain number-of-cycles period_of_cycle advance_of_cycle;
                start_is = refl;
                letters_are = refl;
                secondaries_are = refl;
                offset_is = offset.0 ∙ ap (λ (k : ℕ). G * l.start / k) number-of-cycles;
                equalized_is = same;
                runs_are = runs_are;
              }

-- ---- what follows from it

module _ (l : Layout) (p : Plan) (k : PlanOf l p) where
  pub number_is : (i : ℕ) → plan_number p i ≡ number_in l i
  unfolding turn_layer place_of run_layer layer_number layer_of alternate_layer listed_layer degree cycle layers_of layer_sizes
  number_is i =
      simp (k.cycles_are, k.period_is, k.inverse_is, k.start_is, k.letters_are, k.secondaries_are, k.offset_is, k.equalized_is, k.runs_are)

  pub count_is : total_of p ≡ count_in l
  unfolding layer_count layer_sizes
  count_is = simp (k.cycles_are, k.equalized_is, k.runs_are)

  pub keys_are : 0 < l.octave → keys_of p.chain ≡ l.octave
  keys_are some = ap₂ (λ (x y : ℕ). x * y) k.period_is k.cycles_are ∙ sym (period_is l.octave l.generator some)

  pub turns_fill : 0 < l.octave → turns_of p * p.chain.num_cycles ≡ entry_count l.octave l.pattern
  turns_fill some = ap (λ (b : Bool). pick b (2 * p.chain.reduced_period) p.chain.reduced_period * p.chain.num_cycles) k.equalized_is ∙ go (equalized l.pattern)
    where
      go : (b : Bool) → pick b (2 * p.chain.reduced_period) p.chain.reduced_period * p.chain.num_cycles ≡ pick b (2 * l.octave) l.octave
      go true = mul_assoc 2 p.chain.reduced_period p.chain.num_cycles ∙ ap (λ (x : ℕ). 2 * x) (keys_are some)
      go false = keys_are some

  pub layers_are : 0 < l.octave → plan_layers p ≡ layers_in l
  unfolding key_layers
  layers_are some =
      joined_same (λ i. plan_number p i ∷ []) (λ i. number_in l i ∷ []) (turns_of p * p.chain.num_cycles) (λ i h. ap (λ (x : ℕ). x ∷ []) (number_is i))
      ∙ ap (joined (λ i. number_in l i ∷ [])) (turns_fill some)
