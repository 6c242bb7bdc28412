-- The size decides question 7.
use Prim.Native.Nat.{ℕ}
use mathlib.Core.Path.{sym, ap, ◌∙◌}
use lib.Dec.{leb}
use Rattle.mos.proofs.Sizes.{size_decides}
use Rattle.mos.proofs.parts.is_pattern.Goals as goal

pub returns : goal.returns
returns c = ap (λ (n : ℕ). leb n 65535) c.wide_size.ensures ∙ sym (size_decides c.args.m)
