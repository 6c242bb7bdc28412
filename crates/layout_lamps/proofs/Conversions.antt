-- A layout's strips of one-byte codes are widened to its strip of today, and that goes back: code by code, by the kinds.
use Prim.Native.Nat.{ℕ, zero, suc, ◌+◌, ◌%◌, ◌<◌}
use mathlib.Core.Bool.{Bool, true, false}
use mathlib.Core.List.{List, [], ◌∷◌, ◌++◌, map, map-append}
use mathlib.Core.Path.{◌≡◌, refl, sym, ap, ap₂, ◌∙◌}
use native.Mathlib.Nat.{mod-eq_of_lt}
use native.Mathlib.Omega.{arith}
use lib.Dec.{eqb}
use lib.ListN.{take}
use borrow.Author.Tests.{ne_eqb, leb-false, ltb-true}
use Rattle.answer.specs.Choice.{pick}
use Rattle.answer.specs.Tests.{all_of}
use Rattle.answer.specs.Outcome.{given, refused, ask}
use Rattle.math.specs.Passing.{all_below}
use Rattle.math.proofs.Passing.{all_each}
use Rattle.text.specs.Writing.{joined}
use Rattle.text.proofs.Joined.{joined_same}
use Rattle.lamp_codes.specs.Codes.{is_old, wide_code, is_converted, old_code}
use Rattle.lamp_codes.specs.Answers.{get_widened, get_narrowed}
use Rattle.lamp_codes.proofs.Strips.{all_pass, one_fails}
use Rattle.lamp_codes.proofs.Partners.{round_trips}
use Rattle.lamp_codes.proofs.Ranges.{wide_plain, wide_sharp, wide_flat, wide_last, test_low}
use Rattle.layout.specs.declared.IsomorphicLayout.{IsomorphicLayout}
use Rattle.layout.specs.Layouts.{Layout, Accepted}
use Rattle.layout_layers.specs.declared.Layer.{Layer}
use Rattle.layout_layers.specs.declared.Layer.TheVariants.{Natural, Sharp, Enharmonic, Flat}
use Rattle.layout_layers.specs.KeyLayers.{kind_of, number_in, count_in}
use Rattle.layout_layers.specs.Parts.{listed}
use Rattle.layout_layers.proofs.SpreadLaws.{length_listed, listed_at}
use Rattle.layout_layers.proofs.PlanLaws.{kind_sharp}
use Rattle.layout_layers.proofs.Theorems.{key_zero_is_natural}
use Rattle.layout_layers.specs.LampCodes.{lamp_code}
use Rattle.layout_lamps.specs.Lamps.{lamp_of, codes_of, strip_of, lampable, lamp_in, strip_length_in, strip_in, kind_at, kind_in, byte_code, byte_lamp_in, byte_strip_in, had_lamps_in, first_strip_in, first_had_lamps_in}
use Rattle.layout_lamps.specs.Theorems.{OldStripsConvert, FirstStripsConvert}
use Rattle.layout_lamps.proofs.StripLaws.{lamps_by_count_at, first_lamps_by_count, met_at, in_the_strip_at}
use Rattle.layout_lamps.proofs.Theorems.{first_octave}

-- ---- a kind's two codes

code_is_old : (k : Layer) → lampable k ≡ true → is_old (byte_code k) ≡ true
unfolding byte_code
code_is_old Natural e = refl
code_is_old (Sharp k) e = sym (test_low (2 + k) 255 (omega (arith, ltb-true k 100 e)))
code_is_old (Enharmonic k) e = refl
code_is_old (Flat k) e = sym (test_low (102 + k) 255 (omega (arith, ltb-true k 100 e)))

code_widens : (k : Layer) → lampable k ≡ true → wide_code (byte_code k) ≡ lamp_code k
unfolding byte_code lamp_code
code_widens Natural e = sym (wide_plain 1 (omega arith))
code_widens (Sharp k) e =
    sym (wide_sharp (2 + k) (omega arith) (omega (arith, ltb-true k 100 e))) ∙ omega arith
code_widens (Enharmonic k) e = sym (wide_last 255 (omega arith))
code_widens (Flat k) e =
    sym (wide_flat (102 + k) (omega arith) (omega (arith, ltb-true k 100 e))) ∙ omega arith

-- ---- a listed strip

all_listed : (test : ℕ → Bool) (f : ℕ → ℕ) (count : ℕ) → ((i : ℕ) → i < count → test (f i) ≡ true) → all_of test (listed f count) ≡ true
all_listed test f count h =
    sym (all_pass test (listed f count)
    (λ i l. let inside : i < count = omega (arith, l, length_listed f count) in ap test (listed_at f count i inside) ∙ h i inside))

map_listed : (g f : ℕ → ℕ) (count : ℕ) → map g (listed f count) ≡ listed (λ i. g (f i)) count
unfolding joined
map_listed g f zero = refl
map_listed g f (suc count) =
    map-append g (listed f count) (f count ∷ []) ∙ ap (λ (l : List ℕ). l ++ (g (f count) ∷ [])) (map_listed g f count)

-- the way back of a strip, by what question 9 said: what was converted returns, and with a code that was none there is no way
returns : (had : Bool) (old wide : List ℕ)
    → (had ≡ true → get_widened old ≡ given wide) → (had ≡ false → get_narrowed wide ≡ refused 17)
    → get_narrowed wide ≡ ask 17 had (given old)
returns true old wide there none = round_trips.there_and_back old wide (there refl)
returns false old wide there none = none refl

module _ (r : IsomorphicLayout) (l : Layout) (ok : Accepted r l) where
  -- the first entries, where question 9 said yes to them
  module _ (count : ℕ) (had : all_below (λ i. lampable (kind_in l i)) count ≡ true) where
    each : (i : ℕ) → i < count → lampable (kind_in l i) ≡ true
    each i h = all_each (λ k. lampable (kind_in l k)) i count h had

    old_code_lem : (i : ℕ) → i < count → is_old (byte_lamp_in l i) ≡ true
    old_code_lem i h = by (eqb (i % l.octave) 0)
      where
        by : (b : Bool) → is_old (pick b 0 (byte_code (kind_in l i))) ≡ true
        by true = refl
        by false = code_is_old (kind_in l i) (each i h)

    widens : (i : ℕ) → i < count → wide_code (byte_lamp_in l i) ≡ lamp_in l i
    unfolding lamp_of
    widens i h = by (eqb (i % l.octave) 0)
      where
        by : (b : Bool) → wide_code (pick b 0 (byte_code (kind_in l i))) ≡ pick b 0 (lamp_code (kind_in l i))
        by true = sym (wide_plain 0 (omega arith))
        by false = code_widens (kind_in l i) (each i h)

    codes_widen : get_widened (listed (byte_lamp_in l) count) ≡ given (listed (lamp_in l) count)
    unfolding get_widened
    codes_widen =
        ap₂ (λ (b : Bool) (s : List ℕ). ask 17 b (given s))
        (all_listed is_old (byte_lamp_in l) count old_code_lem)
        (map_listed wide_code (byte_lamp_in l) count
        ∙ joined_same (λ i. wide_code (byte_lamp_in l i) ∷ []) (λ i. lamp_in l i ∷ []) count (λ i h. ap (λ (x : ℕ). x ∷ []) (widens i h)))

  widened : had_lamps_in l ≡ true → get_widened (byte_strip_in l) ≡ given (strip_in l)
  unfolding had_lamps_in byte_strip_in strip_of codes_of
  widened had = codes_widen (strip_length_in l) had

  -- below the octave key 0 alone is home, by either rule
  first_is : first_strip_in l ≡ listed (byte_lamp_in l) l.octave
  unfolding first_strip_in
  first_is =
      joined_same (λ i. pick (eqb i 0) 0 (byte_code (kind_in l i)) ∷ []) (λ i. byte_lamp_in l i ∷ []) l.octave
      (λ i h. ap (λ (k : ℕ). pick (eqb k 0) 0 (byte_code (kind_in l i)) ∷ []) (sym (mod-eq_of_lt h)))

  first_widened : first_had_lamps_in l ≡ true → get_widened (first_strip_in l) ≡ given (take l.octave (strip_in l))
  unfolding first_had_lamps_in codes_of
  first_widened had = ap get_widened first_is ∙ codes_widen l.octave had ∙ ap given (sym (first_octave l))

  -- sharp layer 100 has a code that no old code converts to
  module _ (many : 202 < count_in l) where
    abbrev key : ℕ
    key = (met_at r l ok many).0

    not_zero : key ≡ 0 → ⊥
    not_zero e = omega (arith, sym (met_at r l ok many).2 ∙ ap (number_in l) e ∙ key_zero_is_natural r l ok)

    not_home : key % l.octave ≡ 0 → ⊥
    not_home e = not_zero (sym (mod-eq_of_lt (met_at r l ok many).1) ∙ e)

    its_code : lamp_in l key ≡ 202
    unfolding lamp_of kind_at lamp_code
    its_code =
        ap (λ (b : Bool). pick b 0 (lamp_code (kind_in l key))) (ne_eqb (key % l.octave) 0 not_home)
        ∙ ap (λ (j : ℕ). lamp_code (kind_of (count_in l) j)) (met_at r l ok many).2
        ∙ sym (ap lamp_code (kind_sharp (count_in l) 101 (λ e. omega (arith, e)) (omega (arith, many))))

    no_way_back : (count : ℕ) → key < count → get_narrowed (listed (lamp_in l) count) ≡ refused 17
    unfolding get_narrowed
    no_way_back count inside =
        ap (λ (b : Bool). ask 17 b (given (map old_code (listed (lamp_in l) count))))
        (sym (one_fails is_converted (listed (lamp_in l) count) key (omega (arith, inside, length_listed (lamp_in l) count))
        (ap is_converted (listed_at (lamp_in l) count key inside ∙ its_code))))

    not_narrowed : get_narrowed (strip_in l) ≡ refused 17
    unfolding strip_of codes_of
    not_narrowed = no_way_back (strip_length_in l) (in_the_strip_at r l ok key (met_at r l ok many).1)

    first_not_narrowed : get_narrowed (take l.octave (strip_in l)) ≡ refused 17
    unfolding codes_of
    first_not_narrowed = ap get_narrowed (first_octave l) ∙ no_way_back l.octave (met_at r l ok many).1

pub old_strips_convert : OldStripsConvert
old_strips_convert r l ok =
    record {
      there = widened r l ok;
      back =
          returns (had_lamps_in l) (byte_strip_in l) (strip_in l) (widened r l ok)
          (λ e. not_narrowed r l ok (leb-false (count_in l) 202 (sym (lamps_by_count_at r l ok) ∙ e)));
    }

pub first_strips_convert : FirstStripsConvert
first_strips_convert r l ok =
    record {
      there = first_widened r l ok;
      back =
          returns (first_had_lamps_in l) (first_strip_in l) (take l.octave (strip_in l)) (first_widened r l ok)
          (λ e. first_not_narrowed r l ok (leb-false (count_in l) 202 (sym (first_lamps_by_count r l ok) ∙ e)));
    }
