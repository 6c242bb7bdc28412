-- One law for each way in which it ends.
use Rattle.layout_reach.proofs.Spans.{span_all, span_low, span_high, span_inside}
use Rattle.layout_reach.proofs.parts.reach_span.Goals as goal

pub returns-then-octave-distance : goal.returns-then-octave-distance
returns-then-octave-distance c = span_all _ _ _ c.requires c.if-octave-distance.true

pub returns-then-key-distance : goal.returns-then-key-distance
returns-then-key-distance c = span_low _ _ _ c.requires c.if-octave-distance.false c.if-key-distance.true

pub returns-then-octave-key : goal.returns-then-octave-key
returns-then-octave-key c = span_high _ _ _ c.requires c.if-octave-distance.false c.if-key-distance.false c.if-octave-key.true

pub returns : goal.returns
returns c = span_inside _ _ _ c.requires c.if-octave-distance.false c.if-key-distance.false c.if-octave-key.false
