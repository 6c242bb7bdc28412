-- Each code before the index has a partner.
use Rattle.std.proofs.Common.{◌≡◌, true}
use Rattle.std.specs.List.{AllWithin}
use Rattle.lamp_codes.proofs.all_have_partners.Given as goal

abbrev pub invariant-loop-code : goal.invariant-loop-code
invariant-loop-code g l = AllWithin (λ x. g.C.Code.has_partner x ≡ true) l.strip 0 l.code-index
