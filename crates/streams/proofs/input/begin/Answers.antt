-- No byte yet.
use Rattle.std.proofs.Common.{refl}
use Rattle.streams.specs.Streams.{taken_none}
use Rattle.streams.proofs.input.begin.Goals as goal

pub returns : goal.returns
returns c = record { none = taken_none _ refl; none_kept = refl; not_ended = refl }
