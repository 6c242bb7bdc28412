-- The call at 32 bits, with the same number.
use mathlib.Core.Path.{ap, ◌∙◌}
use lib.IntN.{ℤ}
use mir.Syntax.{w32}
use Rattle.math.specs.Answers.{div_outcome}
use Rattle.math.proofs.Signed.{read_back_lem}
use Rattle.math.proofs.i32_div_u16.Goals as goal

pub returns : goal.returns
returns c =
    c.i32_div_u32.ensures
    ∙ ap (λ (z : ℤ). div_outcome z c.args.denom) (read_back_lem w32 c.args.numer c.ranges.numer)
