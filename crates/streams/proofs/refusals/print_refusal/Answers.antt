-- The refusal's line is at the front of the buffer, and is handed over.
use Prim.Native.Nat.{ℕ, ◌≤◌}
use mathlib.Core.List.{List, []}
use mathlib.Core.Path.{ap, ◌∙◌, subst}
use native.Mathlib.Omega.{arith}
use Rattle.text.proofs.Writing.{put_there}
use Rattle.line.specs.Refusals.{refusal_line}
use Rattle.line.proofs.RefusalLines.{refusal_room}
use Rattle.streams.specs.Streams.{Handed}
use borrow.Author.Rules.{rules}
use Rattle.streams.proofs.refusals.print_refusal.Goals as goal

pub put_refusal-bytes-requires : goal.put_refusal-bytes-requires
put_refusal-bytes-requires c =
    let few : c.from.result ≤ 65535 = search rules in
    omega (arith, refusal_room c.from.result few)

pub write_front-done-requires : goal.write_front-done-requires
write_front-done-requires c =
    let few : c.from.result ≤ 65535 = search rules in
    omega (arith, (put_there (refusal_room _ few) c.put_refusal-bytes.ensures).0)

pub returns : goal.returns
returns c =
    let few : c.from.result ≤ 65535 = search rules in
    subst (λ (text : List ℕ). Handed text c.write_front-done.result)
    ((put_there (refusal_room _ few) c.put_refusal-bytes.ensures).1 ∙ ap refusal_line (c.from.ensures ∙ c.number.ensures))
    (c.write_front-done.ensures.next [] c.begin.ensures.none)
