-- What a finite double has behind the point is its remainder by 1.
use mathlib.Core.Path.{ap, ◌∙◌}
use lib.Ieee.{Float, binary64, sub}
use Rattle.std.specs.Float.{float_with_sign, is_sign_negative}
use Rattle.std.proofs.lemmas.Float.{T_from_true}
use Rattle.mos_fractional.proofs.Whole.{rest_is_rem, finite_number}
use Rattle.mos_fractional.proofs.remainder_by_one.Goals as goal

pub copysign-requires : goal.copysign-requires
copysign-requires c = finite_number c.args.x c.requires

pub returns : goal.returns
returns c =
    c.copysign.ensures
    ∙ ap (λ (y : Float). float_with_sign (is_sign_negative c.args.x) (sub binary64 c.args.x y)) c.trunc.ensures
    ∙ rest_is_rem c.args.x c.requires (T_from_true _ c.well_formed.0.1)
