-- The start that was read is the chain's.
use Prim.Native.Nat.{ℕ}
use mathlib.Core.Path.{ap}
use Rattle.layout.proofs.default_layout.Goals as goal

pub returns : goal.returns
returns c =
    let args = c.args in
    ap (λ (s : ℕ). record { genchain = args.genchain; octave = args.octave; tritave = args.tritave; start = s }) c.numbers-chain.ensures.1
