-- The part has as many bytes as were asked for.
use Rattle.std.proofs.Common.{sym, length-take-le}
use Rattle.streams.proofs.output.write_front.Goals as goal

pub slice_bounds-write-end : goal.slice_bounds-write-end
slice_bounds-write-end c = sym (length-take-le _ _ c.requires)
