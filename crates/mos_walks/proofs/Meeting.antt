-- What the search leaves in the lent place, for each way in which it ends; and what its caller, who lends none, finds there.
use mathlib.Core.Path.{◌≡◌, refl, subst, ◌∙◌}
use mathlib.Core.Bool.{Bool, true, false}
use Rattle.std.specs.Prelude.{Option, None, Some}
use Rattle.mos.specs.declared.Mos.{Mos}
use Rattle.mos_walks.specs.Parts.{Meets}

pub meets_here : {o : Option Mos} (m : Mos) (before : Option Mos) → Some m ≡ o → Meets o true before (Some m)
meets_here m before e = subst (λ (x : Option Mos). Meets x true before (Some m)) e (record { answer = refl; found = refl })

pub meets_none : {o : Option Mos} (before : Option Mos) → None ≡ o → Meets o false before before
meets_none before e = subst (λ (x : Option Mos). Meets x false before before) e (record { answer = refl; found = refl })

pub meets_as : {o p : Option Mos} {r : Bool} {before after : Option Mos} → Meets o r before after → o ≡ p → Meets p r before after
meets_as {o} {p} {r} {before} {after} h e = subst (λ (x : Option Mos). Meets x r before after) e h

pub meets_found : (o : Option Mos) (r : Bool) {after : Option Mos} → Meets o r None after → after ≡ o
meets_found None r h = h.found
meets_found (Some m) r h = h.found
