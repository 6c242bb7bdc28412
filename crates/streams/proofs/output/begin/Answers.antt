-- No byte yet.
use Rattle.std.proofs.Common.{refl}
use Rattle.streams.specs.Streams.{handed_none}
use Rattle.streams.proofs.output.begin.Goals as goal

pub returns : goal.returns
returns c = record { none = handed_none _ refl; all = refl }
