-- Codes and strips: a plan's layers, turned into codes, with home, are the strip; and where there was a strip of one-byte codes: T at most
-- 202 leaves sharp and flat layers below 100, T above 202 has a key in sharp layer 100.
use Rattle.std.specs.Prelude.{Some}
use Prim.Native.Nat.{ℕ, ◌+◌, ◌*◌, ◌-◌, ◌/◌, ◌%◌, ◌≤◌, ◌<◌}
use mathlib.Core.Path.{◌≡◌, refl, sym, ap, ap₂, subst, ◌∙◌}
use mathlib.Core.Bool.{Bool, true, false}
use mathlib.Core.List.{List, [], ◌∷◌, ◌++◌}
use native.Mathlib.Nat.{mod-lt, mod-eq_of_lt, mod-eq-sub-mod, mod_self, zero-mod, div-eq_of_lt, mul-pos}
use native.Mathlib.Decide.{dec_lt}
use native.Mathlib.Omega.{arith}
use lib.ListN.{length, get_or, set, drop, length-set, length-append, length-drop}
use lib.Seq.{set-append_left, set_out, get_or-set_same, get_or-set_other, ext_get_or}
use lib.Dec.{eqb, ltb, leb}
use borrow.Author.Tests.{eq-eqb, ne_eqb, eqb-true, eqb-false, lt-ltb, ltb-true, ltb-false, leb-true, leb-false}
use Rattle.answer.specs.Choice.{pick}
use Rattle.math.specs.Passing.{all_below}
use Rattle.math.proofs.Passing.{all_of, all_fails}
use Rattle.text.specs.Writing.{joined}
use Rattle.text.proofs.Joined.{joined_same}
use Rattle.pergen.specs.Pergen.{cycle}
use Rattle.mos_layers.specs.Layers.{layer_sizes}
use Rattle.layout.specs.declared.IsomorphicLayout.{IsomorphicLayout}
use Rattle.layout.specs.Layouts.{Layout, Accepted, cycles_in}
use Rattle.layout_layers.specs.declared.Layer.TheVariants.{Natural, Sharp, Enharmonic, Flat}
use Rattle.layout_layers.specs.declared.plan.Plan.{Plan}
use Rattle.layout_layers.specs.KeyLayers.{equalized, layer_count, kind_of, number_in, count_in}
use Rattle.layout_layers.specs.Kept.{keys_of}
use Rattle.layout_layers.specs.Parts.{total_of, Sound, PlanOf, plan_number, turns_of, listed, Fronted, plan_layers, limit, plan_entries}
use Rattle.layout_layers.proofs.SpreadLaws.{length_listed, listed_at}
use Rattle.layout_layers.proofs.ChainLaws.{some_places}
use Rattle.layout_layers.proofs.LampCodeLaws.{codes_written}
use Rattle.layout_layers.proofs.PlanLaws.{number_is, keys_are, turns_fill, kind_sharp, turn_below}
use Rattle.layout_layers.proofs.Theorems.{counts_fit, each_number_is_met, first_keys}
use Rattle.layout_layers.specs.LampCodes.{lamp_code, code_of}
use Rattle.layout_lamps.specs.Lamps.{kind_at, lamp_of, codes_of, strip_of, lampable, lamp_in, strip_length_in, strip_in, had_lamps_in, first_had_lamps_in, kind_in}
use Rattle.layout_lamps.specs.Parts.{plan_codes, homed, plan_strip}

pub equal_or_not : (i j : ℕ) → Dec (i ≡ j)
equal_or_not i j = by (eqb i j) refl
  where
    by : (b : Bool) → eqb i j ≡ b → Dec (i ≡ j)
    by true e = yes (eqb-true i j e)
    by false e = no (eqb-false i j e)

-- the scale degrees of an octave, or of two
pub some_turns : (p : Plan) → Sound p → 0 < turns_of p
some_turns p sound = by p.equalized
  where
    by : (b : Bool) → 0 < pick b (2 * p.chain.reduced_period) p.chain.reduced_period
    by true = omega (arith, some_places p.chain sound.unbroken)
    by false = some_places p.chain sound.unbroken

-- ---- codes

-- with T at most 202 every sharp and flat number is below 100
pub few_layers : (T j : ℕ) → T ≤ 202 → lampable (kind_of T j) ≡ true
unfolding kind_of
few_layers T j h = by (eqb j 0) (ltb (2 * j) T) (eqb (2 * j) T) refl refl
  where
    by : (a b c : Bool) → ltb (2 * j) T ≡ b → eqb (2 * j) T ≡ c
        → lampable (pick a Natural (pick b (Sharp (j - 1)) (pick c (Enharmonic (j - 1)) (Flat (T - j - 1))))) ≡ true
    by true b c e f = refl
    by false true c e f = lt-ltb (j - 1) 100 (omega (arith, ltb-true (2 * j) T e))
    by false false true e f = refl
    by false false false e f =
        lt-ltb (T - j - 1) 100 (omega (arith, ltb-false (2 * j) T e, eqb-false (2 * j) T f))

-- a key's number is below T
pub number_below : (p : Plan) → Sound p → (i j T : ℕ) → j ≡ plan_number p i → T ≡ total_of p → j < T
number_below p sound i j T e is =
    let n = p.chain.num_cycles in
    omega (arith, turn_below p sound (i / n), mod-lt i sound.unbroken.some_cycles)

-- ---- the codes of all entries

abbrev pub entries_of : Plan → ℕ
entries_of p = turns_of p * p.chain.num_cycles

pub length_codes : (p : Plan) (T : ℕ) → length (plan_codes p T) ≡ entries_of p
length_codes p T = length_listed (λ i. code_of T (plan_number p i)) (entries_of p)

pub length_strip : (p : Plan) (T : ℕ) → length (plan_layers p) ≡ length (plan_strip p T)
length_strip p T =
    length_listed (plan_number p) (entries_of p)
    ∙ sym (length-set (set (plan_codes p T) 0 0) (keys_of p.chain) 0 ∙ length-set (plan_codes p T) 0 0 ∙ length_codes p T)

-- all numbers are below T
pub counted_within : (p : Plan) (T : ℕ) → T ≡ total_of p → total_of p ≤ limit (Some T)
counted_within p T is = omega (arith, is)

pub strip_coded : (p : Plan) (T : ℕ) (xs ys : List ℕ) → T ≡ total_of p → Fronted (plan_entries p (Some T)) xs ys
    → Fronted (plan_codes p (total_of p)) xs ys
strip_coded p T xs ys is f =
    subst (λ (n : ℕ). Fronted (plan_codes p n) xs ys) is (subst (λ (text : List ℕ). Fronted text xs ys) (codes_written p T) f)

-- a text in front leaves a slice as long as it was
pub front_kept : (text xs ys : List ℕ) → length text ≤ length xs → Fronted text xs ys → length ys ≡ length xs
front_kept text xs ys room f =
    ap length f
    ∙ length-append text (drop (length text) xs)
    ∙ ap (λ (k : ℕ). length text + k) (length-drop (length text) xs)
    ∙ omega (arith, room)

-- ---- home, stored over the codes of key 0 and of the octave

pub some_entries : (p : Plan) → Sound p → 0 < entries_of p
some_entries p sound = mul-pos (some_turns p sound) sound.unbroken.some_cycles

module _ (p : Plan) (T : ℕ) (sound : Sound p) (xs ys : List ℕ) (codes : Fronted (plan_codes p T) xs ys) where
  -- by the number of entries that the code has
  module _ (room : length (plan_layers p) ≤ length xs) where
    codes_kept : length ys ≡ length xs
    codes_kept = front_kept (plan_codes p T) xs ys (omega (arith, room, length_codes p T, length_listed (plan_number p) (entries_of p))) codes

    pub first_inside : 0 < length ys
    first_inside = omega (arith, codes_kept, room, some_entries p sound, length_listed (plan_number p) (entries_of p))

    pub octave_inside : (n : ℕ) → n ≡ length (plan_layers p) → keys_of p.chain < n → keys_of p.chain < length (set ys 0 0)
    octave_inside n e h = omega (arith, codes_kept, room, e, h, length-set ys 0 0)

  fronted : set ys 0 0 ≡ set (plan_codes p T) 0 0 ++ drop (length (plan_codes p T)) xs
  fronted =
      let text = plan_codes p T in
      ap (λ (l : List ℕ). set l 0 0) codes ∙ set-append_left text (drop (length text) xs) 0 0 (omega (arith, length_codes p T, some_entries p sound))

  homed_length : length (set (plan_codes p T) 0 0) ≡ entries_of p
  homed_length = length-set (plan_codes p T) 0 0 ∙ length_codes p T

  -- one octave: there is no entry at the octave
  pub home_over : (n : ℕ) → n ≡ length (plan_layers p) → n ≤ keys_of p.chain → Fronted (plan_strip p T) xs (set ys 0 0)
  home_over n e h =
      let text = set (plan_codes p T) 0 0 in
      let out : set text (keys_of p.chain) 0 ≡ text = set_out text (keys_of p.chain) 0 (omega (arith, homed_length, h, e, length_listed (plan_number p) (entries_of p))) in
      fronted ∙ ap₂ (λ (l : List ℕ) (k : ℕ). l ++ drop k xs) (sym out) (sym (ap length out ∙ length-set (plan_codes p T) 0 0))

  -- two octaves: home at the octave too
  pub homes_over : (n : ℕ) → n ≡ length (plan_layers p) → keys_of p.chain < n → Fronted (plan_strip p T) xs (set (set ys 0 0) (keys_of p.chain) 0)
  homes_over n e h =
      let text = set (plan_codes p T) 0 0 in
      let behind = drop (length (plan_codes p T)) xs in
      ap (λ (l : List ℕ). set l (keys_of p.chain) 0) fronted
      ∙ set-append_left text behind (keys_of p.chain) 0 (omega (arith, homed_length, h, e, length_listed (plan_number p) (entries_of p)))
      ∙ ap (λ (k : ℕ). set text (keys_of p.chain) 0 ++ drop k xs)
      (sym (length-set text (keys_of p.chain) 0 ∙ length-set (plan_codes p T) 0 0))

-- ---- question 9

module _ (r : IsomorphicLayout) (l : Layout) (ok : Accepted r l) where
  abbrev P : ℕ
  P = l.octave

  abbrev T : ℕ
  T = count_in l

  kind_in_lem : (i : ℕ) → kind_in l i ≡ kind_of T (number_in l i)
  unfolding kind_at
  kind_in_lem i = refl

  all_lamps : (count : ℕ) → T ≤ 202 → all_below (λ i. lampable (kind_in l i)) count ≡ true
  all_lamps count h =
      all_of (λ i. lampable (kind_in l i)) count (λ i _. ap lampable (kind_in_lem i) ∙ few_layers T (number_in l i) h)

  -- a key of layer 101, which is sharp layer 100
  pub met_at : 202 < T → (key : ℕ) × (key < P) × (number_in l key ≡ 101)
  unfolding layer_count cycle
  met_at h = by (equalized l.pattern) refl
    where
      by : (b : Bool) → equalized l.pattern ≡ b → (key : ℕ) × (key < P) × (number_in l key ≡ 101)
      by false t = each_number_is_met r l ok t 101 (omega arith)
      by true t =
          let two : T ≡ 2 * cycles_in l = ap (λ (b : Bool). pick b 2 (length (layer_sizes l.pattern)) * cycles_in l) t in
          let low : 101 < cycles_in l = omega arith in (
            101,
            omega (arith, counts_fit r l ok),
            first_keys r l ok t 101 (div-eq_of_lt low) ∙ mod-eq_of_lt low,
          )

  -- the strip has at least the octave's keys
  pub in_the_strip_at : (i : ℕ) → i < P → i < strip_length_in l
  in_the_strip_at i h = by (equalized l.pattern)
    where
      by : (b : Bool) → i < pick b (2 * P) P
      by true = omega arith
      by false = h

  -- in any entries that hold the octave's keys
  some_lamp_missing : (count : ℕ) → ((i : ℕ) → i < P → i < count) → 202 < T → all_below (λ i. lampable (kind_in l i)) count ≡ false
  some_lamp_missing count inside h =
      let key = met_at h in
      all_fails (λ i. lampable (kind_in l i)) key.0 count (inside key.0 key.1)
      (ap lampable
      (kind_in_lem key.0
      ∙ ap (kind_of T) key.2
      ∙ sym (kind_sharp T 101 (λ e. omega arith) (omega arith))))

  lamps_by_count_to : (count : ℕ) → ((i : ℕ) → i < P → i < count) → all_below (λ i. lampable (kind_in l i)) count ≡ leb (count_in l) 202
  lamps_by_count_to count inside = by (leb (count_in l) 202) refl
    where
      by : (b : Bool) → leb (count_in l) 202 ≡ b → all_below (λ i. lampable (kind_in l i)) count ≡ b
      by true t = all_lamps count (leb-true (count_in l) 202 t)
      by false t = some_lamp_missing count inside (leb-false (count_in l) 202 t)

  pub lamps_by_count_at : had_lamps_in l ≡ leb (count_in l) 202
  unfolding had_lamps_in
  lamps_by_count_at = lamps_by_count_to (strip_length_in l) in_the_strip_at

  pub first_lamps_by_count : first_had_lamps_in l ≡ leb (count_in l) 202
  unfolding first_had_lamps_in
  first_lamps_by_count = lamps_by_count_to P (λ i h. h)

-- ---- the strip

-- a number below 2 × P that is neither 0 nor P is no multiple of P
pub between : (P i : ℕ) → i < 2 * P → (i ≡ P → ⊥) → (i ≡ 0 → ⊥) → i % P ≡ 0 → ⊥
between P i h p z e = by (dec_lt i P)
  where
    by : Dec (i < P) → ⊥
    by (yes l) = z (sym (mod-eq_of_lt l) ∙ e)
    by (no l) =
        let above : P ≤ i = omega arith in
        let rest : (i - P) % P ≡ i - P = mod-eq_of_lt (let q : i - P < P = omega arith in q) in
        p (omega (arith, mod-eq-sub-mod above, rest, e))

-- in two octaves at most, home at key 0 and at the octave is home at the multiples of the octave
pub homes : (f : ℕ → ℕ) (P count : ℕ) → 0 < P → count ≤ 2 * P → homed P (listed f count) ≡ listed (λ i. pick (eqb (i % P) 0) 0 (f i)) count
homes f P count some few =
    ext_get_or 0 (homed P (listed f count)) (listed g count)
    (long ∙ sym (length_listed g count))
    (λ i h. at i (subst (λ (k : ℕ). i < k) long h) (equal_or_not i P) (equal_or_not i 0))
  where
    g : ℕ → ℕ
    g i = pick (eqb (i % P) 0) 0 (f i)

    long : length (homed P (listed f count)) ≡ count
    long = length-set (set (listed f count) 0 0) P 0 ∙ length-set (listed f count) 0 0 ∙ length_listed f count

    house : (i : ℕ) → i % P ≡ 0 → 0 ≡ g i
    house i e = ap (λ (b : Bool). pick b 0 (f i)) (sym (eq-eqb (i % P) 0 e))

    other : (i : ℕ) → (i % P ≡ 0 → ⊥) → f i ≡ g i
    other i e = ap (λ (b : Bool). pick b 0 (f i)) (sym (ne_eqb (i % P) 0 e))

    at : (i : ℕ) → i < count → Dec (i ≡ P) → Dec (i ≡ 0) → get_or (homed P (listed f count)) i 0 ≡ get_or (listed g count) i 0
    at i h (yes p) z =
        ap (λ (k : ℕ). get_or (homed P (listed f count)) k 0) p
        ∙ get_or-set_same (set (listed f count) 0 0) P 0 0 (omega (arith, length-set (listed f count) 0 0, length_listed f count, h, p))
        ∙ house i (ap (λ (k : ℕ). k % P) p ∙ mod_self P)
        ∙ sym (listed_at g count i h)
    at i h (no p) (yes z) =
        get_or-set_other (set (listed f count) 0 0) P i 0 0 p
        ∙ ap (λ (k : ℕ). get_or (set (listed f count) 0 0) k 0) z
        ∙ get_or-set_same (listed f count) 0 0 0 (omega (arith, length_listed f count, h))
        ∙ house i (ap (λ (k : ℕ). k % P) z ∙ zero-mod P)
        ∙ sym (listed_at g count i h)
    at i h (no p) (no z) =
        get_or-set_other (set (listed f count) 0 0) P i 0 0 p
        ∙ get_or-set_other (listed f count) 0 i 0 0 z
        ∙ listed_at f count i h
        ∙ other i (between P i (omega arith) p z)
        ∙ sym (listed_at g count i h)

module _ (l : Layout) (p : Plan) (k : PlanOf l p) (some : 0 < l.octave) (T : ℕ) (is : T ≡ count_in l) where
  -- the code of a key, by the plan
  pub code_at : (i : ℕ) → code_of T (plan_number p i) ≡ lamp_code (kind_in l i)
  unfolding code_of kind_at
  code_at i = ap₂ (λ (t j : ℕ). lamp_code (kind_of t j)) is (number_is l p k i)

  strip_few : strip_length_in l ≤ 2 * l.octave
  strip_few = by (equalized l.pattern)
    where
      by : (b : Bool) → pick b (2 * l.octave) l.octave ≤ 2 * l.octave
      by true = omega arith
      by false = omega arith

  pub strip_is : plan_strip p T ≡ strip_in l
  unfolding strip_of codes_of lamp_of
  strip_is =
      let f : ℕ → ℕ = λ i. lamp_code (kind_in l i) in
      ap₂ (λ (keys : ℕ) (xs : List ℕ). homed keys xs) (keys_are l p k some)
      (joined_same (λ i. code_of T (plan_number p i) ∷ []) (λ i. f i ∷ []) (entries_of p) (λ i h. ap (λ (x : ℕ). x ∷ []) (code_at i))
      ∙ ap (joined (λ i. f i ∷ [])) (turns_fill l p k some))
      ∙ homes f l.octave (strip_length_in l) some strip_few

pub lamp_home : (l : Layout) (i : ℕ) → i % l.octave ≡ 0 → 0 ≡ lamp_in l i
unfolding lamp_of
lamp_home l i e =
    ap (λ (b : Bool). pick b 0 (lamp_code (kind_in l i))) (sym (eq-eqb (i % l.octave) 0 e))

-- any other key has the code of its layer
pub lamp_other : (l : Layout) (i T j c : ℕ) → (i % l.octave ≡ 0 → ⊥) → T ≡ count_in l → j ≡ number_in l i → c ≡ code_of T j → c ≡ lamp_in l i
unfolding lamp_of code_of kind_at
lamp_other l i T j c h is number q =
    q
    ∙ ap₂ (λ (t k : ℕ). lamp_code (kind_of t k)) is number
    ∙ ap (λ (b : Bool). pick b 0 (lamp_code (kind_in l i))) (sym (ne_eqb (i % l.octave) 0 h))

-- a key of two octaves is home, or it is not
module _ (P i : ℕ) (below : i < 2 * P) where
  pub home_first : i ≡ 0 → true ≡ eqb (i % P) 0
  home_first e = sym (eq-eqb (i % P) 0 (ap (λ (k : ℕ). k % P) e ∙ zero-mod P))

  pub home_second : (i ≡ 0 → ⊥) → eqb i P ≡ eqb (i % P) 0
  home_second z = by (equal_or_not i P)
    where
      by : Dec (i ≡ P) → eqb i P ≡ eqb (i % P) 0
      by (yes e) = eq-eqb i P e ∙ sym (eq-eqb (i % P) 0 (ap (λ (k : ℕ). k % P) e ∙ mod_self P))
      by (no e) = ne_eqb i P e ∙ sym (ne_eqb (i % P) 0 (between P i below e z))
