-- What a layout that was found keeps, and one that was made ready: the facts that the proofs cite, from the ghost fields.
use Rattle.layout.specs.Parts.{layout_of, Laid, Ready}
use Rattle.layout.specs.declared.parts.Found.{Found}
use Rattle.layout.specs.declared.prepared.Prepared.{Prepared}
use Rattle.layout.proofs.Finding.{Parts, laid}

pub found_laid : (f : Found) → Laid (layout_of f)
found_laid f =
    record { caller = record { genchain = f.chain; octave = f.octave; tritave = f.tritave; start = f.start }; accepted = f.laid }

pub parts_found : (f : Found) → Parts (layout_of f)
parts_found f = laid (layout_of f) (found_laid f)

pub made_ready : (p : Prepared) → Ready p
made_ready p = record { laid = found_laid p.found; solved_is = p.ready }
