use Rattle.layout.proofs.KeyZero.{key_zero_is_the_start}
use Rattle.layout.proofs.Finding.{default_start_stays}
use Rattle.claims.proofs.w_209.Goals as goal

pub returns : goal.returns
returns c = (key_zero_is_the_start, default_start_stays)
