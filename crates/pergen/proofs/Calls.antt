-- From the parts to what the calls answer: one law for each way in which a call ends.
use Prim.Native.Nat.{ℕ, zero, ◌*◌, ◌/◌, ◌≤◌, ◌<◌}
use lib.Dec.{leb, ltb}
use mathlib.Core.Bool.{Bool, true, false}
use native.Mathlib.Omega.{arith}
use mathlib.Core.Path.{◌≡◌, sym, ap, ap₂, ◌∙◌}
use lib.IntN.{ℤ, pos}
use native.Mathlib.Nat.{pos_of_ne-zero, mod-lt, mul-le-mul}
use Rattle.answer.specs.Outcome.{Outcome, given, refused, ask}
use Rattle.answer.proofs.Asked.{refused_same}
use Rattle.answer.proofs.Questions.{ask_none, ask_least, ask_below}
use Rattle.math.specs.Gcd.{gcd_or_one}
use Rattle.math.proofs.Gcd.{gcd_or_one_lem, gcd_positive}
use Rattle.math.specs.Division.{remainder}
use Rattle.pergen.specs.Pergen.{cycles, reduced, inverse, degree, cycle, key_degree, key_cycle, cycle_of, generation_of}
use Rattle.pergen.specs.Spelling.{accidentals_of, key_accidentals, place, sounded_key}
use Rattle.pergen.specs.Answers.{ask_format, of_pergen, new_outcome, get_generation, get_accidentals, get_place, get_sounded_key}
use Rattle.pergen.specs.Parts.{solved_of, generation_from}
use Rattle.pergen.specs.declared.PerGen.{PerGen}
use Rattle.pergen.specs.declared.Generation.{Generation}
use Rattle.pergen.specs.declared.AccidentalsFormat.{AccidentalsFormat}
use Rattle.pergen.specs.declared.Accidentals.{Accidentals}
use Rattle.pergen.specs.declared.Spelling.{Spelling}
use Rattle.pergen.specs.declared.euclid.Solved.{Solved}
use Rattle.pergen.proofs.Inverse.{reduced_positive}
use Rattle.pergen.proofs.Keys.{keys_from_zero_on}

-- ---- question 2, for each call

module _ (p : PerGen) where
  module _ (none : p.period ≡ 0) where
    pub no_number : (number : ℕ) → refused 2 ≡ of_pergen p number
    unfolding of_pergen
    no_number number = sym (ask_none 2 p.period _ none)

    pub no_generation : (key : ℤ) → refused 2 ≡ get_generation p key
    unfolding get_generation
    no_generation key = sym (ask_none 2 p.period _ none)

    pub no_accidentals : (f : AccidentalsFormat) (key : ℤ) → refused 2 ≡ get_accidentals p f key
    unfolding get_accidentals
    no_accidentals f key = sym (ask_none 2 p.period _ none)

    pub no_key : (f : AccidentalsFormat) (s : Spelling) → refused 2 ≡ get_sounded_key p f s
    unfolding get_sounded_key
    no_key f s = sym (ask_none 2 p.period _ none)

  module _ (some : 0 < p.period) where
    pub number_given : (number m : ℕ) → m ≡ number → given m ≡ of_pergen p number
    unfolding of_pergen
    number_given number m e = ap given e ∙ sym (ask_least 2 p.period _ some)

    pub generation_given : (key : ℤ) (g : Generation) → g ≡ generation_of p.period p.generator key → given g ≡ get_generation p key
    unfolding get_generation
    generation_given key g e = ap given e ∙ sym (ask_least 2 p.period _ some)

pub new_refused : (period generator : ℕ) → period ≡ 0 → refused 2 ≡ new_outcome period generator
unfolding new_outcome
new_refused period generator none = sym (ask_none 2 period _ none)

pub new_given : (period generator : ℕ) → 0 < period → given (record { period = period; generator = generator }) ≡ new_outcome period generator
unfolding new_outcome
new_given period generator some = sym (ask_least 2 period _ some)

-- ---- questions 5 and 6

both_refuse : {A : Type 0} (a b : Bool) (rest : Outcome A) (n : ℕ) → refused n ≡ ask 5 a (ask 6 b (given (tt {0}))) → refused n ≡ ask 5 a (ask 6 b rest)
both_refuse true true rest n e = let z : ◌≡◌ {A = ℕ} 0 1 = cc in absurd (omega arith)
both_refuse true false rest n e = refused_same e
both_refuse false b rest n e = refused_same e

bad_format : {A : Type 0} (f : AccidentalsFormat) (rest : Outcome A) (n : ℕ) → refused n ≡ ask_format f (given (tt {0})) → refused n ≡ ask_format f rest
bad_format f rest n e = both_refuse (leb 1 f.num_symbols) (ltb f.genchain_origin f.num_symbols) rest n e

good_format : {A : Type 0} (f : AccidentalsFormat) (rest : Outcome A) → f.genchain_origin < f.num_symbols → ask_format f rest ≡ rest
good_format f rest h = ask_least 5 f.num_symbols _ (omega arith) ∙ ask_below 6 _ _ rest h

module _ (p : PerGen) (f : AccidentalsFormat) (some : 0 < p.period) where
  pub accidentals_refused : (key : ℤ) (n : ℕ) → refused n ≡ ask_format f (given (tt {0})) → refused n ≡ get_accidentals p f key
  unfolding get_accidentals
  accidentals_refused key n e = bad_format f _ n e ∙ sym (ask_least 2 p.period _ some)

  pub key_refused : (s : Spelling) (n : ℕ) → refused n ≡ ask_format f (given (tt {0})) → refused n ≡ get_sounded_key p f s
  unfolding get_sounded_key
  key_refused s n e = bad_format f _ n e ∙ sym (ask_least 2 p.period _ some)

  module _ (origin : f.genchain_origin < f.num_symbols) where
    pub accidentals_given : (key : ℤ) (a : Accidentals)
        → a ≡ key_accidentals p.period p.generator f.num_symbols f.genchain_origin key → given a ≡ get_accidentals p f key
    unfolding get_accidentals
    accidentals_given key a e = ap given e ∙ sym (ask_least 2 p.period _ some ∙ good_format f _ origin)

    pub key_given : (s : Spelling) (k : ℕ) → k ≡ sounded_key p.period p.generator f.num_symbols f.genchain_origin s
        → given k ≡ get_sounded_key p f s
    unfolding get_sounded_key
    key_given s k e = ap given e ∙ sym (ask_least 2 p.period _ some ∙ good_format f _ origin)

pub place_refused : (f : AccidentalsFormat) (s : Spelling) (n : ℕ) → refused n ≡ ask_format f (given (tt {0})) → refused n ≡ get_place f s
unfolding get_place
place_refused f s n e = bad_format f _ n e

pub place_given : (f : AccidentalsFormat) (s : Spelling) (z : ℤ) → f.genchain_origin < f.num_symbols
    → z ≡ place f.num_symbols f.genchain_origin s → given z ≡ get_place f s
unfolding get_place
place_given f s z h e = ap given e ∙ sym (good_format f _ h)

-- ---- the numbers of a pergen

pub some_period : {P : ℕ} → 0 < P → P ≡ 0 → ⊥
some_period h e = omega arith

pub cycles_found : (P G n : ℕ) → (P ≡ 0 → ⊥) → n ≡ gcd_or_one P G → n ≡ cycles P G
unfolding cycles
cycles_found P G n some e = e ∙ gcd_or_one_lem P G (gcd_positive P G (pos_of_ne-zero some))

pub reduced_found : (P G n : ℕ) → (P ≡ 0 → ⊥) → n ≡ gcd_or_one P G → P / n ≡ reduced P G
unfolding reduced
reduced_found P G n some e = ap (λ (m : ℕ). P / m) (cycles_found P G n some e)

-- ---- from the numbers

pub product_fits : (a b : ℕ) → a ≤ 65535 → b ≤ 65535 → a * b ≤ 65535 * 65535
product_fits a b h k = mul-le-mul {n₂ = 65535} {m₂ = 65535} h k

module _ (P G : ℕ) (s : Solved) (is : s ≡ solved_of P G) where
  pub solved_keys : zero < P → zero < s.reduced_period
  unfolding solved_of
  solved_keys hP = rw is (reduced_positive P G hP)

  pub solved_inverse : s.generator_inverse ≡ inverse P G
  unfolding solved_of
  solved_inverse = ap (λ (x : Solved). x.generator_inverse) is

  -- the degree is below the reduced period, as `accidentals` asks
  pub degree_small : (i : ℕ) (g : Generation) → zero < P → g ≡ generation_from s i → g.degree < s.reduced_period
  unfolding generation_from
  degree_small i g hP e = rw e (mod-lt _ (solved_keys hP))

  -- of a key from 0 on, in any octave
  pub accidentals_from_zero : (N o i : ℕ) (g : Generation) (a : Accidentals) → zero < P → g ≡ generation_from s i
      → a ≡ accidentals_of s.reduced_period N o g.degree g.cycle → a ≡ key_accidentals P G N o (pos i)
  unfolding solved_of generation_from degree cycle
  accidentals_from_zero N o i g a hP e q =
      q
      ∙ ap₂ (λ (x : Solved) (y : Generation). accidentals_of x.reduced_period N o y.degree y.cycle) is
      (e ∙ ap (λ (x : Solved). generation_from x i) is)
      ∙ sym ((keys_from_zero_on P G hP i).spellings_stay N o)

  -- of a key that was brought round the period
  module _ (key : ℤ) (i : ℕ) (round : i ≡ remainder key P) where
    pub generation_is : (g : Generation) → g ≡ generation_from s i → g ≡ generation_of P G key
    unfolding solved_of generation_from generation_of cycle_of key_cycle key_degree cycle degree
    generation_is g e = e ∙ ap₂ (λ (x : Solved) (j : ℕ). generation_from x j) is round

    pub accidentals_are : (N o : ℕ) (g : Generation) (a : Accidentals) → g ≡ generation_from s i
        → a ≡ accidentals_of s.reduced_period N o g.degree g.cycle → a ≡ key_accidentals P G N o key
    unfolding key_accidentals solved_of generation_of
    accidentals_are N o g a e q =
        q
        ∙ ap (λ (x : ℕ). accidentals_of x N o g.degree g.cycle) (ap (λ (x : Solved). x.reduced_period) is)
        ∙ ap (λ (x : Generation). accidentals_of (reduced P G) N o x.degree x.cycle) (generation_is g e)
