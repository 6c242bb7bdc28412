use Rattle.std.proofs.Common.{◌≡◌, true, false, length, arith, sym, ◌∙◌}
use Rattle.std.proofs.lemmas.List.Elements.{AllWithin-none, AllWithin-more, AllWithin-upto}
use Rattle.lamp_codes.proofs.Strips.{all_answered, holds_read}
use Rattle.lamp_codes.proofs.all_have_partners.Goals as goal

pub loop-code-init : goal.loop-code-init
loop-code-init g c = AllWithin-none (λ x. g.C.Code.has_partner x ≡ true) c.args.strip.now 0

pub loop-code-preserved : goal.loop-code-preserved
loop-code-preserved g c =
    AllWithin-more (λ x. g.C.Code.has_partner x ≡ true) c.args.strip.now 0 c.loop-code.code-index c.loop-code.invariant
    (holds_read (λ x. g.C.Code.has_partner x ≡ true) c.args.strip.now c.loop-code.code-index c.code-item.result c.loop-code-test.true
    c.code-item.is (sym c.has_partner.ensures ∙ c.if-not-has_partner.false))

pub returns-then-not-has_partner : goal.returns-then-not-has_partner
returns-then-not-has_partner g c =
    all_answered g.C.Code.has_partner c.args.strip.now false (
      c.loop-code.code-index,
      c.loop-code-test.true,
      holds_read (λ x. g.C.Code.has_partner x ≡ false) c.args.strip.now c.loop-code.code-index c.code-item.result c.loop-code-test.true
          c.code-item.is (sym c.has_partner.ensures ∙ c.if-not-has_partner.true),
    )

pub returns : goal.returns
returns g c =
    all_answered g.C.Code.has_partner c.args.strip.now true
    (AllWithin-upto (λ x. g.C.Code.has_partner x ≡ true) c.args.strip.now 0 c.loop-code.code-index (length c.args.strip.now) (omega arith)
    c.loop-code.invariant)
