-- After `place` turns the partners of so many codes stand at the front.
use Rattle.std.proofs.Common.{◌≡◌, length, take, map}
use Rattle.text.specs.Writing.{Wrote}
use Rattle.lamp_codes.proofs.convert.Given as goal

abbrev pub invariant-loop-place : goal.invariant-loop-place
invariant-loop-place g l =
    Wrote l.initial.out 0 (take l.place (map g.C.Code.partner l.strip)) l.out l.place × (length l.out ≡ length l.initial.out)
