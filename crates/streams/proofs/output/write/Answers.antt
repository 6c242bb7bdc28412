-- The part's bytes are counted after those before it.
use mathlib.Core.Bool.{false≢true}
use mathlib.Core.Path.{sym, ◌∙◌}
use Rattle.streams.specs.Streams.{handed_more}
use Rattle.streams.proofs.output.write.Goals as goal

pub returns-then-written : goal.returns-then-written
returns-then-written c = record {
  next = λ bytes h. handed_more _ _ bytes _ c.wrapping_add_usize.ensures.value h;
  all = λ t. t;
}

pub returns-else-written : goal.returns-else-written
returns-else-written c = record {
  next = λ bytes h. handed_more _ _ bytes _ c.wrapping_add_usize.ensures.value h;
  all = λ t. absurd (false≢true (sym c.if-written.false ∙ t));
}
