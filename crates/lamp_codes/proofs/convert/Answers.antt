-- Question 10; then all codes.
use Rattle.std.proofs.Common.{arith, length-set, ap, ◌∙◌, sym}
use Rattle.lamp_codes.proofs.Strips.{convert_more, converted_all}
use Rattle.lamp_codes.proofs.Calls.{no_room, converted}
use Rattle.lamp_codes.proofs.convert.Goals as goal

pub returns-then-out-strip : goal.returns-then-out-strip
returns-then-out-strip g c =
    no_room g.C.Code.has_partner g.C.Code.partner c.args.strip.now c.args.out.now
    (sym c.all_have_partners.ensures ∙ c.if-not-all_have_partners.false) c.if-out-strip.true

pub loop-place-preserved : goal.loop-place-preserved
loop-place-preserved g c = (
  convert_more g.C.Code.partner c.args.strip.now c.loop-place.place c.index-strip-place.result (omega arith)
      (c.partner.ensures ∙ ap g.C.Code.partner c.index-strip-place.is) c.loop-place.invariant.0,
  simp length-set (omega arith),
)

pub returns : goal.returns
returns g c =
    converted g.C.Code.has_partner g.C.Code.partner c.args.strip.now c.args.out.now
    (sym c.all_have_partners.ensures ∙ c.if-not-all_have_partners.false) (omega arith)
    (converted_all g.C.Code.partner c.args.strip.now c.loop-place.place (omega arith) (omega arith) c.loop-place.invariant.0)
