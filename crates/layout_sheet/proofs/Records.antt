-- From a key of the strip to the record that asked for it.
use Prim.Native.Nat.{ℕ, ◌%◌}
use mathlib.Core.Path.{◌≡◌, refl, sym, ap, ap₂, ◌∙◌}
use lib.IntN.{ℤ, pos}
use Rattle.math.specs.Division.{remainder}
use Rattle.pergen.specs.declared.Accidentals.{Accidentals}
use Rattle.pergen.specs.Spelling.{stars_of}
use Rattle.pergen.proofs.Keys.{key_round}
use Rattle.layout.specs.Layouts.{Layout, accidentals_in}
use Rattle.layout.specs.Parts.{layout_in, Ready}
use Rattle.layout.specs.declared.prepared.Prepared.{Prepared}
use Rattle.layout.proofs.Readiness.{parts_ready}
use Rattle.layout_layers.specs.KeyLayers.{equalized}
use Rattle.layout_lamps.specs.Lamps.{lamp_in, strip_length_in}
use Rattle.layout_lamps.proofs.Theorems.{strip_rounds}
use Rattle.layout_sheet.specs.declared.Record.{Record}
use Rattle.layout_sheet.specs.Sheets.{record_of, record_in}

module _ (p : Prepared) (h : Ready p) (asked : Record) (number : ℕ) (round : number ≡ remainder asked.key (strip_length_in (layout_in p))) where
  abbrev l : Layout
  l = layout_in p

  abbrev P : ℕ
  P = p.found.octave

  -- keys that are an octave apart have the same spellings
  same_spellings : accidentals_in l (pos number) ≡ accidentals_in l asked.key
  unfolding accidentals_in
  same_spellings =
      let some = (parts_ready p h).positive in
      let of = key_round P p.found.generator some p.found.num_letters p.found.start in
      let rest : number % P ≡ remainder asked.key P = ap (λ (n : ℕ). n % P) round ∙ strip_rounds P some (equalized l.pattern) asked.key in
      sym (of (pos number) (number % P) refl) ∙ of asked.key (number % P) rest

  module _ (a : Accidentals) (spelled : a ≡ accidentals_in l (pos number)) (stars : ℕ) (are : stars ≡ stars_of a.cycle)
      (lamp : ℕ) (lit : lamp ≡ lamp_in l number) where
    abbrev held : ℤ → ℕ → Record
    held key s =
        record {
          key = key;
          sharp_index = a.sharp_index;
          sharp_count = a.sharp_count;
          flat_index = a.flat_index;
          flat_count = a.flat_count;
          stars = s;
          lamp = lamp;
        }

    pub record_filled : (key : ℤ) → key ≡ asked.key → held key stars ≡ record_in l asked
    unfolding record_in
    record_filled key same =
        ap₂ held same are ∙ ap₂ (λ (x : Accidentals) (y : ℕ). record_of asked.key x y) (spelled ∙ same_spellings) (lit ∙ ap (lamp_in l) round)
