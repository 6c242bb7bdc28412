-- What is known of an accepted layout's pattern: its N steps, some of each kind, are above 0 and fill the octave, and their divisor is the
-- number of cycles.
use Prim.Native.Nat.{ℕ, ◌/◌, ◌<◌, ◌≤◌}
use mathlib.Core.Path.{◌≡◌, sym, ap₂, ◌∙◌, subst}
use native.Mathlib.Omega.{arith}
use Rattle.math.proofs.Gcd.{gcd_positive, gcd_or_one_lem}
use Rattle.genchain.proofs.GoodChains.{chains_are_good}
use Rattle.mos.specs.Patterns.{primaries, secondaries, primary, secondary, count_of, size_of, genesis, cycles_of, reduced_size_of}
use Rattle.mos.specs.Walks.{children}
use Rattle.pergen.specs.Pergen.{cycles, reduced}
use Rattle.layout.specs.Layouts.{Layout, cycles_in, reduced_in}
use Rattle.layout.proofs.Finding.{Parts}
use Rattle.layout.proofs.Keys.{first_at, counts_above, steps_above, walk_size, walk_divisor, genesis_divisor, enough}

pub record PatternShape (l : Layout) : Type 0 where
  pub letters : count_of l.pattern ≡ l.letters
  pub some_primaries : 0 < primaries l.pattern
  pub some_secondaries : 0 < secondaries l.pattern
  pub primary_above : 0 < primary l.pattern
  pub secondary_above : 0 < secondary l.pattern
  pub size : size_of l.pattern ≡ l.octave
  pub cycles_are : cycles_of l.pattern ≡ cycles_in l
  pub reduced_is : reduced_size_of l.pattern ≡ reduced_in l
  pub at_least_five : 5 ≤ l.letters
  pub at_most_nine : l.letters ≤ 9
  pub start_below : l.start < l.letters
  pub enough_keys : l.letters ≤ reduced_in l

pub pattern_shape : (l : Layout) → Parts l → PatternShape l
unfolding cycles reduced cycles_of reduced_size_of
pattern_shape l a =
    let P = l.octave in
    let G = l.generator in
    let m = l.pattern in
    let good = chains_are_good l.chain a.chain in
    let at = first_at l.letters (children (genesis P G)) m a.pattern in
    let five : 5 ≤ l.letters = omega (arith, a.letters_are, good.at_least_five) in
    let more : 2 < l.letters = omega arith in
    let above = steps_above P G at.0 m at.1 (subst (λ (n : ℕ). 2 < n) (sym at.2) more) in
    let whole = walk_size P G at.0 m a.positive at.1 in
    let divisor = gcd_or_one_lem (primary m) (secondary m) (gcd_positive (primary m) (secondary m) above.0)
    ∙ walk_divisor P G at.0 m at.1
    ∙ genesis_divisor P G a.positive in
    record {
      letters = at.2;
      some_primaries = (counts_above P G at.0 m at.1).0;
      some_secondaries = (counts_above P G at.0 m at.1).1;
      primary_above = above.0;
      secondary_above = above.1;
      size = whole;
      cycles_are = divisor;
      reduced_is = ap₂ (λ (x y : ℕ). x / y) whole divisor;
      at_least_five = five;
      at_most_nine = omega (arith, a.letters_are, good.at_most_nine);
      start_below = a.start_below;
      enough_keys = enough l a more;
    }
