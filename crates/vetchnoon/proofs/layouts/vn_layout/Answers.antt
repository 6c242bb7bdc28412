-- Questions 1 to 4 and 18, then the numbers that were found and solved.
use mathlib.Core.Path.{◌≡◌, sym, ap, ◌∙◌, subst}
use mir.Syntax.{w64}
use mir.Val.{to_z, of_z}
use Rattle.pergen.specs.Parts.{solved_of}
use Rattle.layout.specs.Parts.{found_outcome, Ready}
use Rattle.layout.specs.declared.IsomorphicLayout.{IsomorphicLayout}
use Rattle.layout.specs.declared.parts.Found.{Found}
use Rattle.layout.specs.declared.prepared.Prepared.{Prepared}
use Rattle.vetchnoon_codes.specs.Codes.{Fills}
use Rattle.vetchnoon_codes.proofs.Coding.{coded, fills_refused, fills_as}
use Rattle.vetchnoon.specs.Written.{layout_output}
use Rattle.vetchnoon.proofs.Outputs.{layout_refused, layout_given}
use Rattle.vetchnoon.proofs.layouts.vn_layout.Goals as goal

-- what was solved is solved of the layout that was found
solved-by : (p : Prepared) (f : Found) → Ready p × (p.found ≡ f) → p.solved ≡ solved_of f.octave f.generator
solved-by p f made = made.0.solved_is ∙ ap (λ (x : Found). solved_of x.octave x.generator) made.1

pub returns-in-Err : goal.returns-in-Err
returns-in-Err c =
    subst (λ (r : IsomorphicLayout). Fills (layout_output r) (to_z w64 (of_z w64 c.refused.result)) c.args.out.now c.args.out.now) c.layout_of-layout.ensures
    (fills_refused _ _ (layout_refused _ _ (sym (ap found_outcome c.in-Err.is) ∙ c.ask.ensures))
    (coded c.refused.type_inv c.refused.ensures))

pub returns-in-Ok : goal.returns-in-Ok
returns-in-Ok c =
    subst (λ (r : IsomorphicLayout). Fills (layout_output r) (to_z w64 (of_z w64 c.put.result)) c.args.out.now c.put.new.out) c.layout_of-layout.ensures
    (fills_as (layout_given _ _ _ (sym (ap found_outcome c.in-Ok.is) ∙ c.ask.ensures) (solved-by c.prepare-prepared.result _ c.prepare-prepared.ensures))
    c.put.type_inv
    c.put.ensures)
